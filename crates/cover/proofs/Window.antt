-- What the window tells is what the whole log tells. Assumes nothing.
use mathlib.Core.Path.{◌≡◌, refl, sym, ap, ◌∙◌}
use mathlib.Core.Bool.{Bool, true, false}
use mathlib.Core.List.{List}
use Prim.Native.Nat.{ℕ, ◌+◌, ◌-◌, ◌≤◌, ◌<◌, min}
use native.Mathlib.Omega.{arith}
use lib.Dec.{ltb}
use lib.ListN.{length, take, drop, length-drop}
use lib.Seq.{take_all}
use borrow.Author.Tests.{ltb-true, ltb-false}
use Rattle.form.specs.Table.{plain}
use Rattle.std.specs.Prelude.{Option, None, Some}
use Rattle.form.specs.Text.{span, code, items}
use Rattle.bounds.specs.Cover.{Cover, none, covers, covering, shift, window}
use Rattle.form.proofs.Utf8.{plain-regular, plain-leads}
use Rattle.bounds.proofs.Apart.{plain-apart}
use Rattle.bounds.proofs.Covers.{past_end, some-covers, covering-item}
use Rattle.bounds.proofs.Window.{local}
use Rattle.cover.specs.declared.Covered.{Covered}
use Rattle.cover.specs.Covered.{covered_of}

part-window : (s : List ℕ) (p : ℕ) → p < length s → take (min (p + 4) (length s) - (p - 3)) (drop (p - 3) s) ≡ window 3 p s
part-window s p h = go (ltb (p + 4) (length s)) refl
  where
    go : (t : Bool) → ltb (p + 4) (length s) ≡ t → take (min (p + 4) (length s) - (p - 3)) (drop (p - 3) s) ≡ window 3 p s
    go true e = let l = ltb-true (p + 4) (length s) e in let z : min (p + 4) (length s) ≡ p + 4 = omega arith in rw z refl
    go false e =
        let l = ltb-false (p + 4) (length s) e in
        let z : min (p + 4) (length s) ≡ length s = omega arith in
        rw z (take_all (length s - (p - 3)) (drop (p - 3) s) (omega (arith, length-drop (p - 3) s)) ∙ sym (take_all (p + 4 - (p - 3)) (drop (p - 3) s) (omega (arith, length-drop (p - 3) s))))

-- the answer for the window, moved to its place
abbrev onward : ℕ → Covered → Covered
onward a c = record { start = a + c.start; len = c.len; code = c.code }

module _ (s : List ℕ) (p a e r : ℕ) (h : p < length s) (x : a ≡ p - 3) (y : e ≡ min (p + 4) (length s)) (z : r ≡ p - a) where
  -- for the window there is one
  windowed : (o : Option Covered) → o ≡ covered_of (covering 0 (items plain 0 (take (e - a) (drop a s))) r) → (c : Covered) × (o ≡ Some c) × (a + c.start ≤ p) × (Some (onward a c) ≡ covered_of (covering 0 (items plain 0 s) p))
  windowed o f = rw x (go (covering 0 (items plain 0 (window 3 p s)) (p - (p - 3))) refl)
    where
      g : o ≡ covered_of (covering 0 (items plain 0 (window 3 p s)) (p - (p - 3)))
      g = f ∙ rw (z, x, y) (ap (λ (w : List ℕ). covered_of (covering 0 (items plain 0 w) (p - (p - 3)))) (part-window s p h))

      go : (X : Cover) → covering 0 (items plain 0 (window 3 p s)) (p - (p - 3)) ≡ X
          → (c : Covered) × (o ≡ Some c) × (p - 3 + c.start ≤ p) × (Some (onward (p - 3) c) ≡ covered_of (covering 0 (items plain 0 s) p))
      go none u =
          let (q, i, v) = some-covers plain plain-regular plain-leads s p h in
          let w : none ≡ covers q i = ap (shift (p - 3)) (sym u) ∙ sym (local plain 3 plain-apart s p h) ∙ v in
          cc
      go (covers q i) u =
          let (j, d, f, l, k) = covering-item (items plain 0 (window 3 p s)) 0 (p - (p - 3)) q i (omega arith) u in
          (record { start = q; len = span i; code = code i }, g ∙ ap covered_of u, omega arith, ap covered_of (sym (local plain 3 plain-apart s p h ∙ ap (shift (p - 3)) u)))

  pub moved : (c : Covered) → Some c ≡ covered_of (covering 0 (items plain 0 (take (e - a) (drop a s))) r) → (a + c.start ≤ p) × (Some (onward a c) ≡ covered_of (covering 0 (items plain 0 s) p))
  moved c f = let (d, u, v, w) = windowed (Some c) f in let k : c ≡ d = cc in rw k (v, w)

  pub unmoved : None ≡ covered_of (covering 0 (items plain 0 (take (e - a) (drop a s))) r) → ⊥
  unmoved f = let (d, u, v, w) = windowed None f in cc

pub refused : (s : List ℕ) (p : ℕ) → length s ≤ p → None ≡ covered_of (covering 0 (items plain 0 s) p)
refused s p h = ap covered_of (sym (past_end plain plain-regular plain-leads s p h))
