-- The rows of a table that a `match` gives. Assumes nothing.
use mathlib.Core.Path.{◌≡◌, sym, ap, ◌∙◌}
use Prim.Native.Nat.{ℕ, zero, suc, ◌≤◌}
use native.Mathlib.Omega.{arith}
use lib.Dec.{T, eqb, eqb→eq}

-- a row, by a test that is computed at the k of its arm
pub row_computed : {A : Type 0} (f : A → ℕ) (k x : A) (n : ℕ) → x ≡ k → T (eqb n (f k)) → n ≡ f x
row_computed f k x n e t = eqb→eq n (f k) t ∙ ap f (sym e)

-- a number that is none of those below k, as a `match` leaves it
abbrev pub NoneBelow : ℕ → ℕ → Type 0
NoneBelow zero n = Unit {0}
NoneBelow (suc k) n = NoneBelow k n × (n ≡ k → ⊥)

pub none_below : (k n : ℕ) → NoneBelow k n → k ≤ n
none_below zero n d = omega arith
none_below (suc k) n d = omega (arith, none_below k n d.0, d.1)
