-- Assumes nothing.
use Rattle.std.proofs.Common.{arith}
use Rattle.numbers.proofs.Getting.{got_start, got_room, got_turn, got_end}
use Rattle.numbers.proofs.number_of.Goals as goal

pub loop-b-init : goal.loop-b-init
loop-b-init c = got_start c.args.s.now _ (rw (c.into_iter-b-iterator.ensures.into_iter_gives, c.rev-b-items.ensures.source) (rw c.min.ensures at c.iter.ensures.rest))

pub overflow_mul-n : goal.overflow_mul-n
overflow_mul-n c = omega (arith, got_room _ _ _ _ _ c.loop-b.invariant c.in-Some.ensures.steps)

pub overflow_add-n : goal.overflow_add-n
overflow_add-n c = omega (arith, got_room _ _ _ _ _ c.loop-b.invariant c.in-Some.ensures.steps)

pub loop-b-preserved : goal.loop-b-preserved
loop-b-preserved c = got_turn _ _ _ _ _ c.loop-b.invariant c.in-Some.ensures.steps (omega arith)

pub returns : goal.returns
returns c = got_end _ _ _ c.loop-b.invariant c.in-None.ensures.steps.0
