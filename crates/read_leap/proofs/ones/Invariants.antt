use Rattle.readings.specs.Come.{Singles}
use Rattle.read_leap.proofs.ones.Given as goal

abbrev pub invariant-loop-n : goal.invariant-loop-n
invariant-loop-n g l = Singles g.C.Cell.lay 0x80 0 l.s l.initial.codes l.codes l.n
