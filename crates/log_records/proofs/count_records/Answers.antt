use Rattle.std.proofs.Common.{ap, length, arith, inl}
use Rattle.std.proofs.lemmas.Iterator.Consumers.{count_from_yields_List}
use Rattle.log_records.proofs.Every.{walk-few, YieldsList-from_records}
use Rattle.log_records.proofs.count_records.Goals as goal

pub count-requires-clause-fits : goal.count-requires-clause-fits
count-requires-clause-fits c = inl (omega (arith, walk-few c.args.log.now c.place_after-first.result, ap length c.walk_from.ensures))

pub returns : goal.returns
returns c =
    let s = c.step_by.ensures in
    count_from_yields_List _ _ c.count.ensures.ran
    (YieldsList-from_records c.args.log.now c.args.from c.args.k c.place_after-first.result c.place_after-first.ensures c.walk_from.ensures s.source s.step_minus_one s.first_take)
