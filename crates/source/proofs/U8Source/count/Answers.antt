use Rattle.std.proofs.Common.{sym}
use Rattle.quads.proofs.Bytes.{codes-length}
use Rattle.source.proofs.U8Source.count.Goals as goal

pub returns : goal.returns
returns c = sym (codes-length c.args.cells.now)
