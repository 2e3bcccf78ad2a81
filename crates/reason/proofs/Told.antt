-- What `scan` finds at a place, as a reason. Assumes nothing.
use mathlib.Core.Path.{◌≡◌, refl, sym, ap, ◌∙◌, subst}
use mathlib.Core.Logic.{◌⊎◌, inl, inr}
use mathlib.Core.List.{List, [], ◌∷◌}
use Prim.Native.Nat.{ℕ, ◌-◌, ◌≤◌, ◌<◌}
use native.Mathlib.Omega.{arith}
use borrow.Author.Rules.{part_to_end}
use lib.ListN.{length, take, drop, length-drop, drop_of_length-le}
use Rattle.form.specs.Table.{plain}
use Rattle.form.specs.Scan.{Found, well, part, bad, scan}
use Rattle.reason.specs.Reason.{judged, by_found, reason}
use Rattle.reason.specs.declared.Reason.{Reason}
use Rattle.reason.specs.declared.Reason.TheVariants.{Good, Unfinished, AtEnd}
use Rattle.reason.proofs.Exactly.{at_none}

-- at some bytes
abbrev Tells : Reason → List ℕ → Type 0
Tells r d =
    ((r ≡ Good) × ((c n : ℕ) × (scan plain d ≡ well c n)))
    ⊎ ((r ≡ Unfinished) × (scan plain d ≡ part))
    ⊎ ((r ≡ judged d) × ((n : ℕ) × (scan plain d ≡ bad n)))

tells : (d : List ℕ) → 0 < length d → Tells (by_found (scan plain d) d) d
tells [] l = absurd (omega arith)
tells (b ∷ d) l = go (scan plain (b ∷ d)) refl
  where
    go : (x : Found) → scan plain (b ∷ d) ≡ x → Tells (by_found x (b ∷ d)) (b ∷ d)
    go (well c n) e = inl (refl, (c, n, e))
    go part e = inr (inl (refl, e))
    go (bad n) e = inr (inr (refl, (n, e)))

module _ (s : List ℕ) (place : ℕ) where
  pub told_end : length s ≤ place → reason s place ≡ AtEnd
  unfolding reason
  told_end h = ap (λ (d : List ℕ). by_found (scan plain d) d) (drop_of_length-le s h) ∙ sym at_none

  -- of the bytes from the place on, as the code takes them
  pub told_found : place < length s → Tells (reason s place) (take (length s - place) (drop place s))
  unfolding reason
  told_found l = subst (λ (d : List ℕ). Tells (reason s place) d) (sym (part_to_end s place)) (tells (drop place s) (omega (arith, length-drop place s)))
