-- Why the bytes at a place are bad, in plain UTF-8 with LAST (request C-14). Assumes nothing.
use Rattle.std.specs.Prelude.{◌≡◌, ◌⊎◌, Bool, true, false, cond, List, [], ◌∷◌, ◌++◌, ℕ, drop}
use Rattle.form.specs.Table.{Range, ◌to◌, plain, tail, In, Fits, WellFormed, Partial}
use Rattle.form.specs.Scan.{Fit, whole, short, stops, fit, Found, well, part, bad, scan}
use Rattle.reason.specs.declared.Reason.{Reason}
use Rattle.reason.specs.declared.Reason.TheVariants.{Good, Lone, Never, Beyond, TooLong, Surrogate, TooHigh, CutShort, Unfinished, AtEnd}

abbrev pub number : Reason → ℕ
number Good = 0
number Lone = 1
number Never = 2
number Beyond = 3
number TooLong = 4
number Surrogate = 5
number TooHigh = 6
number CutShort = 7
number Unfinished = 8
number AtEnd = 9

-- the first bytes of s are in the ranges, one in each
abbrev pub Opens : List Range → List ℕ → Type 0
Opens rs s = (w z : List ℕ) × (s ≡ w ++ z) × Fits rs w

-- what each reason says of the bytes from the place on
abbrev pub Holds : Reason → List ℕ → Type 0
-- a well-formed sequence starts here
Holds Good s = (w z : List ℕ) × (s ≡ w ++ z) × WellFormed plain w
-- a lone 80..BF
Holds Lone s = Opens (0x80 to 0xBF ∷ []) s
-- C0 or C1
Holds Never s = Opens (0xC0 to 0xC1 ∷ []) s
-- F5..FF
Holds Beyond s = Opens (0xF5 to 0xFF ∷ []) s
-- too long a form: E0 then 80..9F, F0 then 80..8F
Holds TooLong s = Opens (0xE0 to 0xE0 ∷ 0x80 to 0x9F ∷ []) s ⊎ Opens (0xF0 to 0xF0 ∷ 0x80 to 0x8F ∷ []) s
-- a surrogate: ED then A0..BF
Holds Surrogate s = Opens (0xED to 0xED ∷ 0xA0 to 0xBF ∷ []) s
-- too high: F4 then 90..BF
Holds TooHigh s = Opens (0xF4 to 0xF4 ∷ 0x90 to 0xBF ∷ []) s
-- after a partial sequence, where a continuation was due, a byte that is not 80..BF
Holds CutShort s = (w : List ℕ) × (b : ℕ) × (z : List ℕ) × (s ≡ w ++ b ∷ z) × Partial plain w × (In tail b → ⊥)
-- the rest is a partial sequence
Holds Unfinished s = Partial plain s
-- there is no byte
Holds AtEnd s = s ≡ []

-- ---- the reason that is given. Nobody has to believe it: `exactly` says that it is the one that holds

-- first bytes that bring a reason, whatever follows
pub data Sign : Type 0 where
  sign : Reason → List Range → Sign

abbrev pub signs : List Sign
signs =
    sign Lone (0x80 to 0xBF ∷ [])
    ∷ sign Never (0xC0 to 0xC1 ∷ [])
    ∷ sign Beyond (0xF5 to 0xFF ∷ [])
    ∷ sign TooLong (0xE0 to 0xE0 ∷ 0x80 to 0x9F ∷ [])
    ∷ sign TooLong (0xF0 to 0xF0 ∷ 0x80 to 0x8F ∷ [])
    ∷ sign Surrogate (0xED to 0xED ∷ 0xA0 to 0xBF ∷ [])
    ∷ sign TooHigh (0xF4 to 0xF4 ∷ 0x90 to 0xBF ∷ [])
    ∷ []

abbrev pub whole? : Fit → Bool
whole? whole = true
whole? short = false
whole? (stops n) = false

abbrev pub opens? : List Range → List ℕ → Bool
opens? rs s = whole? (fit rs s)

-- by the first sign that opens s
abbrev pub first_sign : List Sign → List ℕ → Reason
first_sign [] s = CutShort
first_sign (sign r rs ∷ l) s = cond (opens? rs s) r (first_sign l s)

unfoldable pub judged : List ℕ → Reason
judged s = first_sign signs s

abbrev pub by_found : Found → List ℕ → Reason
by_found (well c n) s = Good
by_found part [] = AtEnd
by_found part (b ∷ s) = Unfinished
by_found (bad n) s = judged s

-- at a place of s, read afresh
unfoldable pub reason : List ℕ → ℕ → Reason
reason s place = by_found (scan plain (drop place s)) (drop place s)
