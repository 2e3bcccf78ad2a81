-- Each arm is the definition's test of that kind. Assumes nothing.
use Rattle.std.proofs.Common.{rules}
use Rattle.validity.proofs.ByKind.{starting_by, partial_by, trail_by, low_by, high_by}
use Rattle.validity.proofs.is_valid.Goals as goal

pub returns-in-Starting : goal.returns-in-Starting
returns-in-Starting c = starting_by _ _ _ _ c.in-Starting.is (search rules)

pub returns-in-Partial : goal.returns-in-Partial
returns-in-Partial c = partial_by _ _ _ _ c.in-Partial.is c.is_partial.ensures

pub returns-in-Trail : goal.returns-in-Trail
returns-in-Trail c = trail_by _ _ _ _ c.in-Trail.is c.is_trail.ensures

pub returns-in-Low : goal.returns-in-Low
returns-in-Low c = low_by _ _ _ _ c.in-Low.is c.is_unit.ensures

pub returns-in-High : goal.returns-in-High
returns-in-High c = high_by _ _ _ _ c.in-High.is c.is_unit-in-High.ensures
