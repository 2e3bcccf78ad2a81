use Rattle.std.proofs.Common.{◌≡◌, ℕ, ◌+◌, ◌-◌, ◌*◌, ◌/◌, List, ap, ◌∙◌, drop, take, arith}
use Rattle.std.proofs.Math.Seq.{take-take}
use Rattle.numbers.specs.Number.{value}
use Rattle.log_find.proofs.Records.{found-missing, found_from}
use Rattle.log_find.proofs.find.Goals as goal

pub returns : goal.returns
returns c =
    let a = c.args in
    let l = c.in_ok-record.ensures.lookup in
    let first = a.k / 64 * 8 in
    let t : take 8 (take (first + 8 - first) (drop first a.index.now)) ≡ take 8 (drop first a.index.now) = take-take 8 (first + 8 - first) (drop first a.index.now) (omega arith) in
    c.then_some.ensures
    ∙ found_from a.log.now a.index.now a.k c.number_of-from.result (omega (arith, l)) (c.number_of-from.ensures ∙ ap (λ (x : List ℕ). value (take 8 x)) l.0.2 ∙ ap value t) c.place_after-place.result
    c.place_after-place.ensures

pub returns-in_err-record : goal.returns-in_err-record
returns-in_err-record c = c.from_residual.ensures ∙ found-missing c.args.log.now c.args.index.now c.args.k (omega (arith, c.in_err-record.ensures.lookup.0))
