-- Assumes nothing.
use mathlib.Core.Path.{refl}
use borrow.Author.Rules.{rules}
use Rattle.reader.proofs.stray.Statement.{statement}
use Rattle.reader.proofs.stray.Tie as tie

returns-2 : tie.Need-returns-else-show
returns-2 c = rw c.if-show.false refl

pub stray_spec : {M : Type 1} → statement M
stray_spec = tie.close (tie.spec (λ c. search rules) (λ c. search rules) returns-2)
