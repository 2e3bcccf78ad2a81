-- Assumes nothing.
use borrow.Author.Rules.{rules}
use Rattle.entries.proofs.Answers.{reported}
use Rattle.entries.proofs.put_report.Statement.{statement}
use Rattle.entries.proofs.put_report.Tie as tie

returns : tie.Need-returns
returns c = let p = c.before.before in let s = p.before.before.before in reported _ _ s.args.report.now _ s.requires p.put.ensures

pub put_report_spec : {M : Type 1} → statement M
put_report_spec = tie.close (tie.spec (λ c κs. search rules) (λ c. search rules) (λ c. search rules) returns)
