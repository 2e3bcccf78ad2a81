-- The records that stand after an append. Assumes nothing.
use mathlib.Core.Path.{◌≡◌, refl, ap}
use mathlib.Core.Bool.{Bool, true, false}
use mathlib.Core.List.{List, [], ◌∷◌}
use Prim.Native.Nat.{ℕ, suc, ◌+◌, ◌≤◌, ◌<◌}
use native.Mathlib.Omega.{arith}
use lib.Dec.{ltb}
use borrow.Author.Tests.{lt-ltb, le-ltb, ltb-true, ltb-false}
use Rattle.log_index.specs.Update.{standing}
use Rattle.log_index.specs.Request.{StandFirst}

pub stand-first : (n : ℕ) (rs : List ℕ) → (j : ℕ) × StandFirst n rs j
stand-first n [] = (0, record { are = refl; few = omega arith; before = tt; reaches = λ h. absurd (omega arith) })
stand-first n (p ∷ rs) = go (ltb (p + 3) n) refl (stand-first n rs)
  where
    go : (b : Bool) → ltb (p + 3) n ≡ b → (j : ℕ) × StandFirst n rs j → (j : ℕ) × StandFirst n (p ∷ rs) j
    go true e (j, S) = (
      suc j,
      record { are = rw e (ap (λ (l : List ℕ). p ∷ l) S.are); few = omega (arith, S.few); before = (ltb-true (p + 3) n e, S.before); reaches = λ h. S.reaches (omega arith) },
    )
    go false e x = (0, record { are = rw e refl; few = omega arith; before = tt; reaches = λ h. ltb-false (p + 3) n e })

pub stands : (n p : ℕ) (l : List ℕ) → p + 3 < n → standing n (p ∷ l) ≡ p ∷ standing n l
stands n p l h = rw (lt-ltb (p + 3) n h) refl

pub falls : (n p : ℕ) (l : List ℕ) → n ≤ p + 3 → standing n (p ∷ l) ≡ []
falls n p l h = rw (le-ltb (p + 3) n h) refl
