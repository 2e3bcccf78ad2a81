-- Each arm finishes the reading for the width. Assumes nothing.
use Rattle.moves.proofs.Readings.{done_by, trail_by, low_by, code_by}
use Rattle.moves.proofs.step.Goals as goal

pub returns-in-Done : goal.returns-in-Done
returns-in-Done g c = done_by _ g.W.Width.width _ _ c.advance-a.result _ c.advance-a.ensures c.in-Done.is

pub returns-in-Trail : goal.returns-in-Trail
returns-in-Trail g c = trail_by _ g.W.Width.width _ _ c.advance-a.result _ c.trail.result _ c.advance-a.ensures c.in-Trail.is c.trail.ensures c.come_out.ensures

pub returns-in-Low : goal.returns-in-Low
returns-in-Low g c = low_by _ g.W.Width.width _ _ c.advance-a.result _ c.low.result _ c.advance-a.ensures c.in-Low.is c.low.ensures c.come_out-in-Low.ensures

pub returns-in-Code : goal.returns-in-Code
returns-in-Code g c = code_by _ g.W.Width.width _ _ c.advance-a.result _ _ c.split-w.result c.advance-a.ensures c.in-Code.is c.split-w.ensures
