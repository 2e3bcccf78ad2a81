use Rattle.std.proofs.Common.{◌-◌}
use Rattle.writings.specs.Singled.{Ascii}
use Rattle.writings.proofs.Leaping.{Run}
use Rattle.write_leap.proofs.blocks_out.Given as goal

abbrev pub invariant-loop-n : goal.invariant-loop-n
invariant-loop-n g l = Run Ascii (g.C.Source.codes l.codes) l.fn.dst l.dst l.end l.n

abbrev pub decreases-loop-n : goal.decreases-loop-n
decreases-loop-n g l = l.end - l.n
