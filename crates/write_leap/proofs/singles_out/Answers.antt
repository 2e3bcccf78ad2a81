use Rattle.std.proofs.Common.{refl, arith}
use Rattle.writings.proofs.Leaping.{run-next}
use Rattle.write_leap.proofs.singles_out.Goals as goal

pub loop-n-preserved : goal.loop-n-preserved
loop-n-preserved g c = run-next c.loop-n.invariant _ _ _ refl (omega arith) c.get-c.ensures (rw c.if-ends.false at c.ends.ensures) c.low.ensures
