use Rattle.std.proofs.Common.{rules, ℕ, ◌∙◌}
use borrow.Author.Tests.{tests}
use Rattle.std.proofs.lemmas.Iterator.{YieldsList-from_take}
use Rattle.std.proofs.lemmas.Iterator.Consumers.{YieldsList-at, YieldsList-from_first, fold_from_yields_List}
use Rattle.walk.specs.Walk.{ahead, extents_from}
use Rattle.walk.specs.declared.Extent.{Extent}
use Rattle.walk.proofs.Ahead.{ends_at}
use Rattle.walk.proofs.place_after.Goals as goal

pub returns : goal.returns
returns c =
    let a = c.args in
    fold_from_yields_List _ (λ (p : ℕ) (e : Extent). e.end) a.from c.fold.result c.fold.ensures.ran
    (YieldsList-from_take {s = c.take.result} a.n (YieldsList-at c.take.ensures.source (YieldsList-from_first (λ x. x) ahead (extents_from a.log.now a.from) c.walk_from.ensures)) c.take.ensures.count)
    (λ b x r q d. search (rules, tests))
    ∙ ends_at a.log.now a.from a.n
