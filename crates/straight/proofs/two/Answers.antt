-- Assumes nothing.
use Rattle.std.proofs.Common.{arith}
use Rattle.straight.proofs.Shapes.{lost_two, found-two, has_low}
use Rattle.straight.proofs.two.Goals as goal

pub returns-then-s-lt2 : goal.returns-then-s-lt2
returns-then-s-lt2 c f = lost_two f c.args.s.now (omega arith) (λ x l h g. omega arith)

pub returns-then-not-is_tail : goal.returns-then-not-is_tail
returns-then-not-is_tail c f = lost_two f c.args.s.now (omega arith) (λ x l h g. grind arith)

pub returns : goal.returns
returns c f = found-two f c.args.s.now _ (omega arith) (grind arith) (has_low f _ (grind arith))
