use Rattle.std.proofs.Common.{◌-◌}
use Rattle.forms.specs.Forms.{rows_of}
use Rattle.writings.specs.Come.{Come}
use Rattle.encode.proofs.encode_in.Given as goal

abbrev pub invariant-loop-place : goal.invariant-loop-place
invariant-loop-place g l = Come (rows_of l.form) l.m (g.C.Source.codes l.codes) l.fn.dst l.dst l.place.at l.place.n

abbrev pub decreases-loop-place : goal.decreases-loop-place
decreases-loop-place g l = l.count - l.place.at
