-- Classes of bytes, and numbers by their hex digits. Nobody has to believe in the ranges: proofs/Agree in classify says that they are fine enough. Assumes nothing.
use Rattle.std.specs.Prelude.{cond, List, [], ◌∷◌, ℕ, zero, suc, ◌+◌, ◌*◌, ◌/◌, ◌%◌, ◌^◌, ltb}
use Rattle.form.specs.Table.{Range, ◌to◌}
use Rattle.form.specs.Scan.{in?}

-- the ranges that the rows of the forms tell apart, among first bytes and among later ones
unfoldable pub ranges : List Range
ranges =
    0x00 to 0x7F
    ∷ 0x80 to 0x8F
    ∷ 0x90 to 0x9F
    ∷ 0xA0 to 0xAF
    ∷ 0xB0 to 0xBF
    ∷ 0xC0 to 0xC1
    ∷ 0xC2 to 0xDF
    ∷ 0xE0 to 0xE0
    ∷ 0xE1 to 0xEC
    ∷ 0xED to 0xED
    ∷ 0xEE to 0xEF
    ∷ 0xF0 to 0xF0
    ∷ 0xF1 to 0xF3
    ∷ 0xF4 to 0xF4
    ∷ 0xF5 to 0xFF
    ∷ []

-- the number of the first range that has b, from 0 on
abbrev pub first_in : List Range → ℕ → ℕ
first_in [] b = zero
first_in (r ∷ rs) b = cond (in? r b) zero (suc (first_in rs b))

-- the class of a byte
unfoldable pub class_of : ℕ → ℕ
class_of b = first_in ranges b

-- the number whose n hex digits, from the right, are f 0, f 1 and so on
abbrev pub digits : ℕ → (ℕ → ℕ) → ℕ
digits zero f = 0
digits (suc n) f = f 0 + 16 * digits n (λ k. f (suc k))

-- the hex digit at a place of a number of sixteen
unfoldable pub digit_of : ℕ → ℕ → ℕ
digit_of n k = cond (ltb k 16) (n / 2 ^ (4 * k) % 16) 0

-- the classes of the bytes with the high digit h
unfoldable pub classes_of : ℕ → ℕ
classes_of h = digits 16 (λ k. class_of (h * 16 + k))
