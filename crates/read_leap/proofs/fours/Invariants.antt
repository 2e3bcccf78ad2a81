use Rattle.std.proofs.Common.{◌-◌, ◌≤◌}
use Rattle.readings.specs.Come.{Singles}
use Rattle.read_leap.proofs.fours.Given as goal

abbrev pub invariant-blocks-2 : goal.invariant-blocks-2
invariant-blocks-2 g l = record { put : Singles g.C.Cell.lay 0x80 0 l.s l.fn.codes l.codes l.n; within : l.n ≤ l.end }

abbrev pub decreases-blocks-2 : goal.decreases-blocks-2
decreases-blocks-2 g l = l.end - l.n
