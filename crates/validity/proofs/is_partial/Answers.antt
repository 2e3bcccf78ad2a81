-- The loop walks the stages of the bytes after the first. Assumes nothing.
use Rattle.std.proofs.Common.{arith, rules, sym}
use Rattle.validity.proofs.Tests.{first_walked, next_walked, walked-out, walked_all, some_bytes}
use Rattle.validity.proofs.is_partial.Goals as goal

pub loop-b-init : goal.loop-b-init
loop-b-init c = first_walked _ _ _ _ c.in-Some.ensures.cases.0 _ (search rules) c.first-stage.ensures

pub returns-then-stage-le-WHOLE : goal.returns-then-stage-le-WHOLE
returns-then-stage-le-WHOLE c = some_bytes _ _ _ _ c.in-Some.ensures.cases.0 _ (sym (walked-out _ _ _ _ c.loop-b.invariant c.if-stage-le-WHOLE.true))

pub loop-b-preserved : goal.loop-b-preserved
loop-b-preserved c = next_walked _ _ _ _ c.in-Some.ensures.cases.0 _ _ c.loop-b.invariant _ c.if-stage-le-WHOLE.false c.loop-b-test.true c.next-stage.ensures

pub returns : goal.returns
returns c = some_bytes _ _ _ _ c.in-Some.ensures.cases.0 _ (walked_all _ _ _ _ c.loop-b.invariant (omega (arith, c.in-Some.ensures.cases.1)))
