use Rattle.writer.proofs.Calls.{over-written}
use Rattle.packed.proofs.encode_packed.Goals as goal

pub returns-clause-output : goal.returns-clause-output
returns-clause-output c = (over-written _ _ _ _ (c.encode_in.ensures.answer, c.encode_in.ensures.output)).1
