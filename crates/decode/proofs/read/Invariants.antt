use Rattle.std.proofs.Common.{◌-◌}
use Rattle.forms.specs.Forms.{rows_of}
use Rattle.readings.specs.Come.{Come}
use Rattle.decode.proofs.read.Given as goal

abbrev pub invariant-items : goal.invariant-items
invariant-items g l = Come g.C.Cell.lay (rows_of l.form) l.m l.s l.initial.codes l.codes l.place.at l.place.n

abbrev pub decreases-items : goal.decreases-items
decreases-items g l = l.room - l.place.n
