use Rattle.std.proofs.Common.{arith, refl, ◌∙◌}
use Rattle.quads.proofs.Bytes.{code_at}
use Rattle.source.proofs.Codes.{code_beyond}
use Rattle.source.proofs.U8Source.get.Goals as goal

pub returns-then-cells-place : goal.returns-then-cells-place
returns-then-cells-place c = code_beyond c.args.cells.now c.args.place (omega arith)

pub returns : goal.returns
returns c = c.code.ensures ∙ code_at c.args.cells.now c.args.place _ refl (omega arith)
