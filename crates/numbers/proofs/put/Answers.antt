-- Assumes nothing.
use Rattle.numbers.proofs.Putting.{putting-next}
use Rattle.numbers.proofs.put.Goals as goal

pub loop-b-preserved : goal.loop-b-preserved
loop-b-preserved c = putting-next _ _ _ _ _ c.loop-b.invariant c.loop-b-test.true
