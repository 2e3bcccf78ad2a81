use Rattle.std.proofs.Common.{◌-◌}
use Rattle.forms.specs.Forms.{rows_of}
use Rattle.writings.proofs.Leaping.{Leaping}
use Rattle.write_leap.proofs.leap.Given as goal

abbrev pub invariant-loop-at : goal.invariant-loop-at
invariant-loop-at g l = Leaping (rows_of l.form) l.m (g.C.Source.codes l.codes) l.fn.dst l.dst l.fn.from.at l.fn.from.n l.at l.n

abbrev pub decreases-loop-at : goal.decreases-loop-at
decreases-loop-at g l = l.count - l.at
