use Rattle.std.proofs.Common.{rules, ◌≡◌, sym, ◌∙◌, arith, ltb}
use borrow.Author.Tests.{tests}
use Rattle.std.specs.Prelude.{find}
use Rattle.std.proofs.lemmas.Iterator.Adapters.{option_map_id}
use Rattle.std.proofs.lemmas.Iterator.Consumers.{YieldsList-from_first}
use Rattle.std.proofs.lemmas.Iterator.Search.{find_from_yields_List}
use Rattle.walk.specs.Walk.{ahead, extents_from}
use Rattle.walk.specs.declared.Extent.{Extent}
use Rattle.cover.proofs.Walk.{none_past, inside, some_past, some_there}
use Rattle.cover.proofs.cover_in.Goals as goal
use Rattle.cover.proofs.cover_in.Goals.{After-find}

picked : (c : After-find) → c.find.result ≡ find (λ (e : Extent). ltb c.args.p e.end) (extents_from c.args.w.now 0)
picked c =
    sym (option_map_id c.find.result)
    ∙ find_from_yields_List (λ (e : Extent). ltb c.args.p e.end) c.find.new.self _ c.find.result c.find.ensures.ran (YieldsList-from_first (λ x. x) ahead (extents_from c.args.w.now 0) c.walk_from.ensures)
    (λ x b q k. search (rules, tests))

pub returns-in_err-start : goal.returns-in_err-start
returns-in_err-start c = c.from_residual.ensures ∙ none_past c.args.w.now c.args.p (sym c.in_err-start.was ∙ picked (goal.at.returns-in_err-start c).After-find)

pub slice_bounds-item_of-count : goal.slice_bounds-item_of-count
slice_bounds-item_of-count c =
    omega (arith, inside c.args.w.now c.args.p c.in_ok-start.field-0 (sym c.in_ok-start.was ∙ picked (goal.at.slice_bounds-item_of-count c).After-find))

pub slice_bounds-item_of-start : goal.slice_bounds-item_of-start
slice_bounds-item_of-start c =
    omega (arith, inside c.args.w.now c.args.p c.in_ok-start.field-0 (sym c.in_ok-start.was ∙ picked (goal.at.slice_bounds-item_of-start c).After-find))

pub returns-in_err-item : goal.returns-in_err-item
returns-in_err-item c =
    absurd
    (some_there c.args.w.now c.args.p c.in_ok-start.field-0 (sym c.in_ok-start.was ∙ picked (goal.at.returns-in_err-item c).After-find)
    (sym c.in_err-item.was ∙ c.item_of.ensures))

pub returns : goal.returns
returns c =
    some_past c.args.w.now c.args.p c.in_ok-start.field-0 (sym c.in_ok-start.was ∙ picked (goal.at.returns c).After-find) c.in_ok-item.item c.in_ok-item.ensures
