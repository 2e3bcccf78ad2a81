use Rattle.std.proofs.Common.{arith}
use Rattle.source.proofs.Codes.{codes_lent, no_codes_left}
use Rattle.source.proofs.U8Source.rest.Goals as goal

pub returns-then-cells-place-clause-left : goal.returns-then-cells-place-clause-left
returns-then-cells-place-clause-left c = no_codes_left c.args.cells.now c.args.place (omega arith)

pub returns-clause-left : goal.returns-clause-left
returns-clause-left c = codes_lent c.args.cells.now c.args.place
