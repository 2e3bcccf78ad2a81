-- The bytes so far have led to the stage. Assumes nothing.
use Rattle.std.proofs.Common.{◌+◌}
use Rattle.classify.proofs.Walk.{Walked}
use Rattle.validity.proofs.is_partial.Given as goal

abbrev pub invariant-loop-b : goal.invariant-loop-b
invariant-loop-b l = Walked l.fn.form l.d (l.b-index + 1) l.stage
