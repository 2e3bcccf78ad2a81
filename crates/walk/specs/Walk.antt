-- The items that a walk has ahead. Assumes nothing.
use Rattle.std.specs.Prelude.{List, [], ◌∷◌, ℕ, ◌+◌, drop}
use Rattle.form.specs.Table.{plain}
use Rattle.form.specs.Text.{Item, span, items}
use Rattle.walk.specs.declared.Extent.{Extent}
use Rattle.walk.specs.declared.Walk.{Walk}

-- of items that stand end to end from p on, where each starts and ends
abbrev pub extents : ℕ → List Item → List Extent
extents p [] = []
extents p (i ∷ l) = record { start = p; end = p + span i } ∷ extents (p + span i) l

-- those of a log from a place on, read afresh there
unfoldable pub extents_from : List ℕ → ℕ → List Extent
extents_from s p = extents p (items plain 0 (drop p s))

abbrev pub ahead : Walk → List Extent
ahead w = extents_from w.log.now w.at
