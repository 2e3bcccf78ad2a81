-- The digits of the rows are the classes: one test over all bytes. Assumes nothing.
use mathlib.Core.Path.{◌≡◌}
use mathlib.Core.Bool.{Bool}
use Prim.Native.Nat.{ℕ, ◌/◌, ◌%◌, ◌<◌}
use native.Mathlib.Omega.{arith}
use lib.Dec.{T, eqb, eqb→eq}
use Rattle.form.proofs.Between.{between-at}
use Rattle.classes.specs.Class.{ranges, class_of, digit_of, classes_of}
use Rattle.classes.proofs.Rows as Rows

charted : ℕ → Bool
charted b = eqb (digit_of (classes_of (b / 16)) (b % 16)) (class_of b)

pub chart_class : (b : ℕ) → b < 256 → digit_of (classes_of (b / 16)) (b % 16) ≡ class_of b
unfolding ranges class_of digit_of classes_of charted
chart_class b h = eqb→eq _ _ (between-at 0 256 charted tt b (omega arith) h)

-- a row of the table, by a test that is computed at its high digit
pub row_computed : (k h n : ℕ) → h ≡ k → T (eqb n (classes_of k)) → n ≡ classes_of h
row_computed k h n e t = Rows.row_computed classes_of k h n e t
