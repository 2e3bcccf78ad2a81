-- Assumes nothing.
use Rattle.std.proofs.Common.{arith, ap, ◌∙◌, Some}
use Rattle.item.specs.declared.Leaf.{Leaf}
use Rattle.item.proofs.Fronts.{leaf_none, leaf_straight, by_front}
use Rattle.item.proofs.item_of.Goals as goal

pub returns-then-is_empty : goal.returns-then-is_empty
returns-then-is_empty c = leaf_none _ (grind arith)

pub returns-in-Some : goal.returns-in-Some
returns-in-Some c = leaf_straight _ _ (grind arith) c.in-Some.ensures

pub returns-in-None : goal.returns-in-None
returns-in-None c = ap (λ (r : Leaf). Some r) c.of_front.ensures ∙ by_front c.front_of.result _ (grind arith) c.front_of.ensures
