-- Each row is computed at its form. Assumes nothing.
use mathlib.Core.Path.{ap}
use borrow.Author.Rules.{rules}
use Rattle.form.specs.Table.{plain, surro, cesu}
use Rattle.forms.specs.Forms.{rows_of}
use Rattle.classes.specs.Class.{ranges}
use Rattle.classes.proofs.Rows.{row_computed}
use Rattle.classify.specs.Stage.{stages, stage_of, nexts_of}
use Rattle.classify.proofs.firsts.Statement.{statement}
use Rattle.classify.proofs.firsts.Tie as tie

returns : tie.Need-returns-in-Plain
unfolding plain ranges stages stage_of nexts_of
returns c = row_computed nexts_of plain _ _ (ap rows_of c.in-Plain.is) tt

returns-2 : tie.Need-returns-in-Surro
unfolding surro ranges stages stage_of nexts_of
returns-2 c = row_computed nexts_of surro _ _ (ap rows_of c.in-Surro.is) tt

returns-3 : tie.Need-returns-in-Cesu
unfolding cesu ranges stages stage_of nexts_of
returns-3 c = row_computed nexts_of cesu _ _ (ap rows_of c.in-Cesu.is) tt

pub firsts_spec : {M : Type 1} → statement M
firsts_spec = tie.close (tie.spec (λ c. search rules) (λ c. search rules) (λ c. search rules) returns returns-2 returns-3)
