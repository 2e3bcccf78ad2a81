-- The bytes that are left stand below the number. Assumes nothing.
use Rattle.std.proofs.Common.{take}
use Rattle.numbers.proofs.Getting.{Got}
use Rattle.numbers.proofs.number_of.Given as goal

abbrev pub invariant-loop-b : goal.invariant-loop-b
invariant-loop-b l = Got (take 8 l.s) l.b-iterator.iter.rest.now l.n
