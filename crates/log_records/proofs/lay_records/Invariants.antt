use Rattle.std.proofs.Common.{◌≡◌, length, map}
use Rattle.numbers.specs.Number.{laid_in}
use Rattle.numbers.specs.Filled.{Filled}
use Rattle.walk.specs.declared.Extent.{Extent}
use Rattle.log_records.proofs.lay_records.Given as goal

-- the records of the items so far are at the front
abbrev pub invariant-loop-item : goal.invariant-loop-item
invariant-loop-item l =
    record {
      can : (goal.iterator-loop-item).can_next l.item-iterator;
      finite : (goal.iterator-loop-item).is_finite l.item-iterator;
      count : l.n ≡ length l.yielded;
      filled : Filled l.initial.out l.out (laid_in 8 (map (λ (e : Extent). e.start) l.yielded));
    }
