-- The walk of `put`. Assumes nothing.
use mathlib.Core.Path.{◌≡◌, refl, sym, ap, ◌∙◌}
use mathlib.Core.List.{List, [], ◌∷◌, ◌++◌, append-nil}
use Prim.Native.Nat.{ℕ, suc, ◌+◌, ◌-◌, ◌/◌, ◌%◌, ◌≤◌, ◌<◌}
use native.Mathlib.Nat.{sub-zero}
use native.Mathlib.Numerals.{add-one}
use native.Mathlib.Omega.{arith}
use lib.ListN.{length, set, take, length-set}
use lib.Seq.{take_all, append_snoc, take-suc-set}
use Rattle.numbers.specs.Number.{low_first}

-- the first i bytes of n are written to a buffer of k
pub record Putting (n k : ℕ) (out : List ℕ) (left i : ℕ) : Type 0 where
  pub within : i ≤ k
  pub size : length out ≡ k
  pub rest : take i out ++ low_first (k - i) left ≡ low_first k n

pub putting_none : (n : ℕ) (out : List ℕ) → Putting n (length out) out n 0
putting_none n out = record { within = omega arith; size = refl; rest = rw (sub-zero (length out)) refl }

module _ (n k : ℕ) (out : List ℕ) (left i : ℕ) (c : Putting n k out left i) where
  pub putting-next : i < k → Putting n k (set out i (left % 256)) (left / 256) (i + 1)
  putting-next h =
      let m : k - i ≡ suc (k - (i + 1)) = omega arith in
      let t : take (i + 1) (set out i (left % 256)) ≡ take i out ++ (left % 256 ∷ []) = rw (add-one i) (take-suc-set out i (left % 256) (omega (arith, c.size))) in
      record {
        within = omega arith;
        size = length-set out i (left % 256) ∙ c.size;
        rest =
            rw t (append_snoc (take i out) (left % 256) (low_first (k - (i + 1)) (left / 256)))
            ∙ ap (λ (j : ℕ). take i out ++ low_first j left) (sym m)
            ∙ c.rest;
      }

  pub putting-all : i ≡ k → out ≡ low_first k n
  putting-all e =
      let z : k - i ≡ 0 = omega arith in
      let t : out ≡ take i out ++ low_first 0 left = sym (append-nil (take i out) ∙ take_all i out (omega (arith, c.size))) in
      t ∙ ap (λ (j : ℕ). take i out ++ low_first j left) (sym z) ∙ c.rest
