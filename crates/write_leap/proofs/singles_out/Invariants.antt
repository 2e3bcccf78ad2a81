use Rattle.std.proofs.Common.{false}
use Rattle.writings.proofs.Leaping.{Run}
use Rattle.write_leap.proofs.singles_out.Given as goal

abbrev pub invariant-loop-n : goal.invariant-loop-n
invariant-loop-n g l = Run (λ c. goal.E-post g l.ends c false) (g.C.Source.codes l.codes) l.fn.dst l.dst l.end l.n
