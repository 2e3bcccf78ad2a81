-- Each row is computed at its stage. Assumes nothing.
use mathlib.Core.Path.{ap}
use Rattle.classes.proofs.Rows.{row_computed, none_below}
use Rattle.classes.specs.Class.{ranges}
use Rattle.classify.specs.Stage.{stages, left, stage_of, nexts_of}
use Rattle.classify.proofs.Agree.{row-beyond}
use Rattle.classify.proofs.nexts.Statement.{statement}
use Rattle.classify.proofs.nexts.Tie as tie

returns : tie.Need-returns-in-0
unfolding ranges stages left stage_of nexts_of
returns c = row_computed nexts_of (left 0) _ _ (ap left c.in-0.is) tt

returns-2 : tie.Need-returns-in-1
unfolding ranges stages left stage_of nexts_of
returns-2 c = row_computed nexts_of (left 1) _ _ (ap left c.in-1.is) tt

returns-3 : tie.Need-returns-in-2
unfolding ranges stages left stage_of nexts_of
returns-3 c = row_computed nexts_of (left 2) _ _ (ap left c.in-2.is) tt

returns-4 : tie.Need-returns-in-3
unfolding ranges stages left stage_of nexts_of
returns-4 c = row_computed nexts_of (left 3) _ _ (ap left c.in-3.is) tt

returns-5 : tie.Need-returns-in-4
unfolding ranges stages left stage_of nexts_of
returns-5 c = row_computed nexts_of (left 4) _ _ (ap left c.in-4.is) tt

returns-6 : tie.Need-returns-in-5
unfolding ranges stages left stage_of nexts_of
returns-6 c = row_computed nexts_of (left 5) _ _ (ap left c.in-5.is) tt

returns-7 : tie.Need-returns-in-6
unfolding ranges stages left stage_of nexts_of
returns-7 c = row_computed nexts_of (left 6) _ _ (ap left c.in-6.is) tt

returns-8 : tie.Need-returns-in-7
unfolding ranges stages left stage_of nexts_of
returns-8 c = row_computed nexts_of (left 7) _ _ (ap left c.in-7.is) tt

returns-9 : tie.Need-returns-in-8
unfolding ranges stages left stage_of nexts_of
returns-9 c = row_computed nexts_of (left 8) _ _ (ap left c.in-8.is) tt

returns-10 : tie.Need-returns-in-9
unfolding ranges stages left stage_of nexts_of
returns-10 c = row_computed nexts_of (left 9) _ _ (ap left c.in-9.is) tt

returns-11 : tie.Need-returns-in-10
unfolding ranges stages left stage_of nexts_of
returns-11 c = row_computed nexts_of (left 10) _ _ (ap left c.in-10.is) tt

returns-12 : tie.Need-returns-in-11
unfolding ranges stages left stage_of nexts_of
returns-12 c = row_computed nexts_of (left 11) _ _ (ap left c.in-11.is) tt

returns-13 : tie.Need-returns-in-12
unfolding ranges stages left stage_of nexts_of
returns-13 c = row_computed nexts_of (left 12) _ _ (ap left c.in-12.is) tt

returns-14 : tie.Need-returns-in_default
returns-14 c = row-beyond c.args.stage (none_below 13 _ c.in_default.in_default-own.rest)

pub nexts_spec : {M : Type 1} → statement M
nexts_spec =
    tie.close
    (tie.spec
    returns
    returns-2
    returns-3
    returns-4
    returns-5
    returns-6
    returns-7
    returns-8
    returns-9
    returns-10
    returns-11
    returns-12
    returns-13
    returns-14)
