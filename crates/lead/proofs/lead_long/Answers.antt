-- Each arm of the match is a test that the checker computes at every byte of the arm. Assumes nothing.
use Rattle.std.proofs.Common.{arith, ◌∙◌}
use Rattle.form.specs.Table.{long_rows}
use Rattle.lead.proofs.Arms.{arm}
use Rattle.lead.proofs.lead_long.Goals as goal

pub returns-in-240 : goal.returns-in-240
returns-in-240 c = c.leads.ensures ∙ arm long_rows 0xF0 1 _ tt c.args.b (omega arith) (omega arith)

pub returns-in-244 : goal.returns-in-244
returns-in-244 c = c.leads-in-244.ensures ∙ arm long_rows 0xF4 1 _ tt c.args.b (omega arith) (omega arith)

pub returns-in-0-to-239 : goal.returns-in-0-to-239
returns-in-0-to-239 c = arm long_rows 0x0 240 _ tt c.args.b (omega arith) (omega arith)

pub returns-in-241-to-243 : goal.returns-in-241-to-243
returns-in-241-to-243 c = c.leads-in-241-to-243.ensures ∙ arm long_rows 0xF1 3 _ tt c.args.b (omega arith) (omega arith)

pub returns-in-245-to-255 : goal.returns-in-245-to-255
returns-in-245-to-255 c = arm long_rows 0xF5 11 _ tt c.args.b (omega arith) (omega arith)
