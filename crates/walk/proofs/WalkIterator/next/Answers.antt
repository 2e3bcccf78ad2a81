use Rattle.std.proofs.Common.{length, ap, arith}
use Rattle.walk.proofs.Ahead.{next_part, extents-none}
use Rattle.walk.proofs.WalkIterator.next.Goals as goal

pub returns-then-self-clause-steps : goal.returns-then-self-clause-steps
returns-then-self-clause-steps c = let e = extents-none c.args.self.now.log.now c.args.self.now.at (omega arith) in (e, e)

pub overflow_add-end : goal.overflow_add-end
overflow_add-end c = omega (arith, (next_part c.args.self.now.log.now c.args.self.now.at c.span_of.result (omega arith) c.span_of.ensures).within)

pub returns-clause-steps : goal.returns-clause-steps
returns-clause-steps c = (next_part _ _ _ (omega arith) c.span_of.ensures).extents_are

pub returns-clause-goes : goal.returns-clause-goes
returns-clause-goes c = let e = ap length (next_part c.args.self.now.log.now c.args.self.now.at c.span_of.result (omega arith) c.span_of.ensures).extents_are in record { on = λ _. (tt, tt, omega arith); keeps = tt; rests = λ _. tt }
