-- The loop walks the stages: the bytes passed have led to the stage, whatever the form whose first stage it began with. Assumes nothing.
use Rattle.std.proofs.Common.{◌-◌, ◌≤◌, length}
use Rattle.classify.proofs.Walk.{Walked}
use Rattle.front.proofs.front_of.Given as goal

abbrev pub invariant-loop-stage : goal.invariant-loop-stage
invariant-loop-stage l = (1 ≤ l.n) × (l.n ≤ length l.s) × Walked l.fn.form l.s l.n l.stage

abbrev pub decreases-loop-stage : goal.decreases-loop-stage
decreases-loop-stage l = length l.s - l.n
