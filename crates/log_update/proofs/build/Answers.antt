use Rattle.log_index.proofs.Bytes.{updated_none}
use Rattle.log_update.proofs.build.Goals as goal

pub returns-clause-answer : goal.returns-clause-answer
returns-clause-answer c = rw (← updated_none c.args.log.now c.args.index.now) c.update.ensures.answer

pub returns-clause-output : goal.returns-clause-output
returns-clause-output c = rw (← updated_none c.args.log.now c.args.index.now) c.update.ensures.output
