use Rattle.std.proofs.Common.{◌-◌, length}
use Rattle.read_leap.proofs.Way.{Way}
use Rattle.read_leap.proofs.leap.Given as goal

abbrev pub invariant-places : goal.invariant-places
invariant-places g l = Way g.C.Cell.lay g.C.Cell.cells l.form l.care l.s l.initial.codes l.codes l.initial.at l.initial.n l.at l.n

abbrev pub decreases-places : goal.decreases-places
decreases-places g l = length l.s - l.at
