-- What a walk tells where it ends. Assumes nothing.
use Rattle.std.proofs.Common.{◌≡◌, sym, ap, ◌∙◌, List, [], ◌∷◌, ℕ, ◌-◌, ◌≤◌, ◌<◌, length, get_or, take, max, arith}
use Rattle.form.specs.Scan.{Found, part, well, bad, scan}
use Rattle.form.specs.Pattern.{bits}
use Rattle.forms.specs.declared.Form.{Form}
use Rattle.forms.specs.Forms.{rows_of}
use Rattle.forms.proofs.Forms.{form_ascii}
use Rattle.classify.proofs.Walk.{Walked, walk_none, walk-part, walk-whole, walk-bad}
use Rattle.front.specs.declared.Front.{Front}
use Rattle.front.specs.declared.Front.TheVariants.{Well, Partial, Bad}
use Rattle.front.specs.Front.{Told, told, told_of}

-- what was found tells this
tells : (f : Form) (s : List ℕ) (x : Found) (t : Told) → scan (rows_of f) s ≡ x → t ≡ told_of x (length s) → t ≡ told_of (scan (rows_of f) s) (length s)
tells f s x t e h = h ∙ ap (λ (y : Found). told_of y (length s)) (sym e)

abbrev Tells : Form → List ℕ → Front → Type 0
Tells f s r = told r ≡ told_of (scan (rows_of f) s) (length s)

pub none_told : (f : Form) (s : List ℕ) → length s ≡ 0 → told (Partial 0) ≡ told_of (scan (rows_of f) s) (length s)
none_told f s e = tells f s part _ (walk_none f s e) (ap (λ (n : ℕ). record { number = 2; code = 0; len = n }) (sym e))

pub ascii_told : (f : Form) (s : List ℕ) (b : ℕ) → b ≡ get_or s 0 0 → 0 < length s → b < 0x80 → told (Well b 1) ≡ told_of (scan (rows_of f) s) (length s)
ascii_told f [] b e h l = absurd (omega arith)
ascii_told f (a ∷ s) b e h l = tells f (a ∷ s) (well a 1) _ (form_ascii f a s (omega arith)) (ap (λ (c : ℕ). record { number = 0; code = c; len = 1 }) e)

pub partial_told : (f : Form) (s : List ℕ) (n stage : ℕ) → Walked f s n stage → n ≤ length s → 1 < stage → length s ≤ n → told (Partial n) ≡ told_of (scan (rows_of f) s) (length s)
partial_told f s n stage w h g l =
    let e : n ≡ length s = omega arith in
    tells f s part _ (walk-part f s n stage w g l) (ap (λ (n : ℕ). record { number = 2; code = 0; len = n }) e)

pub whole_told : (f : Form) (s : List ℕ) (n stage : ℕ) (c : ℕ) → Walked f s n stage → stage ≡ 1 → c ≡ bits (take n s) → told (Well c n) ≡ told_of (scan (rows_of f) s) (length s)
whole_told f s n stage c w g e = tells f s (well (bits (take n s)) n) _ (walk-whole f s n stage w g) (ap (λ (x : ℕ). record { number = 0; code = x; len = n }) e)

pub bad_told : (f : Form) (s : List ℕ) (n stage : ℕ) (m : ℕ) → Walked f s n stage → stage ≡ 0 → m ≡ max 1 (n - 1) → told (Bad m) ≡ told_of (scan (rows_of f) s) (length s)
bad_told f s n stage m w g e = tells f s (bad (n - 1)) _ (walk-bad f s n stage w g) (ap (λ (x : ℕ). record { number = 3; code = 0; len = x }) e)
