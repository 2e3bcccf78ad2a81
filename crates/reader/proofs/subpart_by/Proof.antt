-- Assumes nothing.
use mathlib.Core.Path.{◌≡◌}
use mathlib.Core.Bool.{cond}
use Prim.Native.Nat.{ℕ, ◌-◌, max}
use native.Mathlib.Omega.{arith}
use lib.Dec.{eqb}
use borrow.Author.Rules.{rules}
use borrow.Author.Tests.{eq-eqb, ne_eqb}
use Rattle.reader.proofs.subpart_by.Statement.{statement}
use Rattle.reader.proofs.subpart_by.Tie as tie

at-bad : (stage n r : ℕ) → stage ≡ 0 → r ≡ max 1 (n - 1) → r ≡ cond (eqb stage 0) (max 1 (n - 1)) n
at-bad stage n r h e = rw (eq-eqb stage 0 h) e

returns-2 : tie.Need-returns-then-n-lt2
returns-2 c = let a = c.args in at-bad a.stage a.n _ c.if-stage-ne-BAD.false (omega arith)

returns-3 : tie.Need-returns
returns-3 c = let a = c.args in at-bad a.stage a.n _ c.if-stage-ne-BAD.false (omega arith)

pub subpart_by_spec : {M : Type 1} → statement M
subpart_by_spec = tie.close (tie.spec (λ c. search (ne_eqb)) returns-2 (λ c. search rules) returns-3)
