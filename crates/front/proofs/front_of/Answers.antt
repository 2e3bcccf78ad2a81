-- Assumes nothing.
use Rattle.std.proofs.Common.{arith, sym}
use Rattle.std.proofs.lemmas.List.{length-take-le}
use Rattle.classify.proofs.Walk.{walk_first, walk-next}
use Rattle.front.proofs.Walks.{whole_told, bad_told}
use Rattle.front.proofs.front_of.Goals as goal

pub loop-stage-init : goal.loop-stage-init
loop-stage-init c = (omega arith, omega arith, walk_first c.args.form c.args.s.now _ (omega arith) (omega arith) c.first-stage.ensures)

pub loop-stage-preserved : goal.loop-stage-preserved
loop-stage-preserved c =
    let i = c.loop-stage.invariant in
    (omega arith, omega arith, walk-next c.args.form c.args.s.now c.loop-stage.n c.loop-stage.stage i.2 _ (omega arith) (omega arith) c.next-stage.ensures)

pub slice_bounds-code_of-end : goal.slice_bounds-code_of-end
slice_bounds-code_of-end c = sym (length-take-le c.loop-stage.n c.args.s.now c.loop-stage.invariant.1)

pub returns-then-stage-eq-WHOLE : goal.returns-then-stage-eq-WHOLE
returns-then-stage-eq-WHOLE c = whole_told _ _ _ _ _ c.loop-stage.invariant.2 c.if-stage-eq-WHOLE.true c.code_of.ensures

pub returns : goal.returns
returns c = bad_told _ _ _ _ _ c.loop-stage.invariant.2 (omega arith) (omega (arith, c.max.ensures))
