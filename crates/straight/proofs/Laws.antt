-- What a straight line tells, for the loops that go by it. Assumes nothing.
use mathlib.Core.Path.{◌≡◌, refl, sym, ap, ◌∙◌}
use Rattle.std.specs.Prelude.{Some, None}
use Rattle.std.proofs.lemmas.Option.{same_Some, none-some}
use mathlib.Core.Bool.{Bool, true, false}
use mathlib.Core.List.{List, [], ◌∷◌, ◌++◌}
use Prim.Native.Nat.{ℕ, ◌≤◌, ◌<◌}
use native.Mathlib.Omega.{arith}
use lib.Dec.{T}
use lib.ListN.{length, length-append}
use Rattle.form.specs.Table as Table
use Rattle.form.specs.Table.{Codes, plain, surro, cesu}
use Rattle.form.specs.Scan.{Found, well, part, bad, scan, after}
use Rattle.form.proofs.After.{resume}
use Rattle.forms.specs.declared.Form.{Form}
use Rattle.forms.specs.Forms.{rows_of}
use Rattle.forms.proofs.Forms.{form_scans, every_form}
use Rattle.straight.specs.declared.Straight.{Straight}
use Rattle.straight.specs.Straight.{straight_of}
use Rattle.straight.proofs.Shapes.{codes-pair}

abbrev none? : Table.Form → Bool
none? [] = true
none? (r ∷ F) = false

resume-none : (F : Table.Form) (s : List ℕ) → T (none? F) → resume F s ≡ bad 0
resume-none [] s h = refl
resume-none (r ∷ F) s h = absurd h

-- a byte from 80 to C1 begins no sequence
pub stray-scan : (f : Form) (b : ℕ) (t : List ℕ) → 0x80 ≤ b → b < 0xC2 → (n : ℕ) × (scan (rows_of f) (b ∷ t) ≡ bad n)
unfolding plain surro cesu
stray-scan f b t h g =
    let e = every_form (λ F x. none? (after x F)) 0x80 66 tt tt tt f b h (omega arith) in
    (0, (form_scans f).by_byte b t ∙ resume-none (after b (rows_of f)) t e)

-- what is told is what is found
pub well-told : (x : Found) (r : Straight) → Some r ≡ straight_of x → x ≡ well r.code r.len
well-told (well c n) r h = ap (λ (t : Straight). well t.code t.len) (sym (same_Some r (record { len = n; code = c }) h))
well-told part r h = absurd (none-some r (sym h))
well-told (bad n) r h = absurd (none-some r (sym h))

pub straight_well : (f : Form) (s : List ℕ) (r : Straight) → Some r ≡ straight_of (scan (rows_of f) s) → scan (rows_of f) s ≡ well r.code r.len
straight_well f s r h = well-told (scan (rows_of f) s) r h

-- ---- with four bytes left

-- only after ED there are longer sequences
long-first : (f : Form) (b : ℕ) (w : List ℕ) (c : ℕ) → Codes (rows_of f) (b ∷ w) c → 4 < length (b ∷ w) → b ≡ 0xED
long-first f b w c h l = let (g, n, p, e) = (codes-pair f (b ∷ w) c).0 (h, l) in p.0

-- a place with four bytes, no sequence and a first byte other than ED is bad: not partial
pub sure_bad : (f : Form) (b : ℕ) (t : List ℕ) → (b ≡ 0xED → ⊥) → 4 ≤ length (b ∷ t) → None ≡ straight_of (scan (rows_of f) (b ∷ t))
    → (n : ℕ) × (scan (rows_of f) (b ∷ t) ≡ bad n)
sure_bad f b t ne l z = go (scan (rows_of f) (b ∷ t)) refl
  where
    go : (x : Found) → scan (rows_of f) (b ∷ t) ≡ x → (n : ℕ) × (scan (rows_of f) (b ∷ t) ≡ bad n)
    go (well c m) e = absurd (none-some _ (z ∙ ap straight_of e))
    go part e =
        let (p, (u, q, (c, h))) = ((form_scans f).finds_part (b ∷ t) (omega arith)).0 e in
        absurd (ne (long-first f b (t ++ u) c h (omega (arith, length-append t u))))
    go (bad n) e = (n, e)
