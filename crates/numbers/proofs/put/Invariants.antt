-- One more byte of the number at each turn. Assumes nothing.
use Rattle.std.proofs.Common.{length}
use Rattle.numbers.proofs.Putting.{Putting}
use Rattle.numbers.proofs.put.Given as goal

abbrev pub invariant-loop-b : goal.invariant-loop-b
invariant-loop-b l = Putting l.fn.n (length l.fn.out) l.out l.left l.b-index
