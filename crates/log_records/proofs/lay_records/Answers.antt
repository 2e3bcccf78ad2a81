use mathlib.Core.List.{map-append}
use Rattle.std.proofs.Common.{◌≡◌, ap, ◌∙◌, ◌/◌, ◌∷◌, [], List, ℕ, map, length, arith}
use Rattle.std.proofs.Math.ListN.{length-take, length-append, length-map}
use Rattle.std.proofs.lemmas.Iterator.{YieldsList-from_take}
use Rattle.std.proofs.lemmas.Iterator.Consumers.{YieldsList-at, YieldsList-turn, YieldsList-end}
use Rattle.numbers.specs.Number.{laid_in, over}
use Rattle.walk.specs.declared.Extent.{Extent}
use Rattle.log_records.proofs.Every.{YieldsList-from_records}
use Rattle.log_records.proofs.Laying.{laid_next}
use Rattle.log_records.proofs.lay_records.Goals as goal

pub loop-item-preserved : goal.loop-item-preserved
loop-item-preserved c =
    let a = c.args in
    let s = c.step_by.ensures in
    let t = c.take-item-items.ensures in
    let i = c.loop-item.invariant in
    let r = YieldsList-from_records a.log.now a.from a.k c.place_after-first.result c.place_after-first.ensures c.walk_from.ensures s.source s.step_minus_one s.first_take in
    let road = YieldsList-at c.into_iter-item-iterator.ensures.into_iter_gives (YieldsList-from_take (length a.out.now / 8) (YieldsList-at t.source r) t.count) in
    let turn = YieldsList-turn road c.loop-item.yielded c.loop-item.item-iterator c.loop-item.yielded_by c.next.result c.next.new.self c.in-Some.item c.in-Some.is c.next.ensures.steps in
    let d = map (λ (e : Extent). e.start) c.loop-item.yielded in
    let n : c.loop-item.n ≡ length d = omega (arith, i.count, length-map c.loop-item.yielded (λ (e : Extent). e.start)) in
    record {
      can = tt;
      finite = tt;
      count = omega (arith, i.count, length-append c.loop-item.yielded (c.in-Some.item ∷ []));
      filled = simp map-append (laid_next a.out.now c.loop-item.out d i.filled c.loop-item.n n (omega (arith, i.count, turn.0, length-take {A = ℕ})) c.in-Some.item.start c.put.new.out c.put.ensures);
    }

pub returns-clause-answer : goal.returns-clause-answer
returns-clause-answer c =
    let a = c.args in
    let s = c.step_by.ensures in
    let t = c.take-item-items.ensures in
    let r = YieldsList-from_records a.log.now a.from a.k c.place_after-first.result c.place_after-first.ensures c.walk_from.ensures s.source s.step_minus_one s.first_take in
    let road = YieldsList-at c.into_iter-item-iterator.ensures.into_iter_gives (YieldsList-from_take (length a.out.now / 8) (YieldsList-at t.source r) t.count) in
    let whole = YieldsList-end road c.loop-item.yielded c.loop-item.item-iterator c.loop-item.yielded_by c.next.result c.next.new.self c.in-None.is c.next.ensures.steps in
    c.loop-item.invariant.count ∙ whole.1

pub returns-clause-output : goal.returns-clause-output
returns-clause-output c =
    let a = c.args in
    let s = c.step_by.ensures in
    let t = c.take-item-items.ensures in
    let r = YieldsList-from_records a.log.now a.from a.k c.place_after-first.result c.place_after-first.ensures c.walk_from.ensures s.source s.step_minus_one s.first_take in
    let road = YieldsList-at c.into_iter-item-iterator.ensures.into_iter_gives (YieldsList-from_take (length a.out.now / 8) (YieldsList-at t.source r) t.count) in
    let whole = YieldsList-end road c.loop-item.yielded c.loop-item.item-iterator c.loop-item.yielded_by c.next.result c.next.new.self c.in-None.is c.next.ensures.steps in
    c.loop-item.invariant.filled.front ∙ ap (λ (x : List ℕ). over (laid_in 8 x) a.out.now) whole.0
