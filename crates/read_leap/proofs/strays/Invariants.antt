use Rattle.readings.specs.Come.{Singles}
use Rattle.read_leap.proofs.strays.Given as goal

abbrev pub invariant-loop-n : goal.invariant-loop-n
invariant-loop-n g l = Singles g.C.Cell.lay 0xC2 1 l.s l.fn.codes l.codes l.n
