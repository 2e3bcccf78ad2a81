-- The digit of a byte's low digit, in the row of its high one. Assumes nothing.
use mathlib.Core.Path.{ap, ◌∙◌}
use Prim.Native.Nat.{ℕ, ◌%◌}
use borrow.Author.Rules.{rules}
use Rattle.classes.specs.Class.{digit_of}
use Rattle.classes.proofs.Chart.{chart_class}
use Rattle.classes.proofs.class_of.Statement.{statement}
use Rattle.classes.proofs.class_of.Tie as tie

returns : tie.Need-returns
returns c =
    let b = c.args.b in
    c.digit.ensures ∙ ap (λ (n : ℕ). digit_of n (b % 16)) c.classes.ensures ∙ chart_class b (search rules)

pub class_of_spec : {M : Type 1} → statement M
class_of_spec = tie.close (tie.spec (λ c κs. search rules) (λ c. search rules) (λ c κs. search rules) returns)
