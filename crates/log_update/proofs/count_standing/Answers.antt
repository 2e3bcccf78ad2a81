use Rattle.std.proofs.Common.{rules, ◌≡◌, ℕ, ◌-◌, ◌/◌, ◌≤◌, ap, ◌∙◌, length, arith, ltb, List, take}
use borrow.Author.Tests.{tests}
use Rattle.std.proofs.lemmas.Iterator.{YieldsList-from_take}
use Rattle.std.proofs.lemmas.Iterator.Consumers.{YieldsList-at, count_from_yields_List}
use Rattle.std.proofs.lemmas.Iterator.Search.{YieldsList-from_take_while}
use Rattle.numbers.specs.Number.{values_in}
use Rattle.numbers.proofs.Laws.{values_length, values_take}
use Rattle.log_index.specs.Update.{standing}
use Rattle.log_update.proofs.Standing.{YieldsList-from_numbers, standing_are, standing-few}
use Rattle.log_update.proofs.count_standing.Goals as goal
use Rattle.log_update.proofs.count_standing.Goals.{After-count}

counted : (c : After-count) → c.count.result ≡ length (standing c.args.was (values_in 8 c.args.old c.args.index.now))
counted c =
    let w = c.args.index.now in
    let old = c.args.old in
    let few : old ≤ length w / 8 = omega (arith, c.requires) in
    let r = YieldsList-from_take {s = c.take.result} old (YieldsList-at c.take.ensures.source (YieldsList-from_numbers w c.chunks_exact.ensures.rest c.chunks_exact.ensures.size)) c.take.ensures.count in
    count_from_yields_List c.take_while.result c.count.result c.count.ensures.ran
    (YieldsList-from_take_while _ (λ p. ltb p (c.args.was - 3)) (YieldsList-at c.take_while.ensures.source r) c.take_while.ensures.closure c.take_while.ensures.done (λ x b q k. search (rules, tests)))
    ∙ ap length (standing_are c.args.was (take old (values_in 8 (length w / 8) w)))
    ∙ ap (λ (l : List ℕ). length (standing c.args.was l)) (values_take 8 old (length w / 8) w few)

pub returns-clause-count : goal.returns-clause-count
returns-clause-count c = counted c

pub returns-clause-few : goal.returns-clause-few
returns-clause-few c = omega (arith, counted c, standing-few c.args.was (values_in 8 c.args.old c.args.index.now), values_length 8 c.args.old c.args.index.now)
