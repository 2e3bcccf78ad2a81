-- The item at the front of a list, by the reading with LAST alone. Assumes nothing.
use Rattle.std.specs.Prelude.{Option, Some, None, List, [], ◌∷◌, ℕ}
use Rattle.form.specs.Table.{plain}
use Rattle.form.specs.Scan.{scan}
use Rattle.form.specs.Text.{Item, coded, stray, escape, item}
use Rattle.front.specs.declared.Front.{Front}
use Rattle.front.specs.declared.Front.TheVariants.{Well, Partial, Bad}
use Rattle.item.specs.declared.Leaf.{Leaf}

abbrev pub leaf : Item → Leaf
leaf (coded c n) = record { code = c; span = n; subpart = None }
leaf (stray b n) = record { code = escape b; span = 1; subpart = Some n }

-- of no bytes there is none
unfoldable pub leaf_of : List ℕ → Option Leaf
leaf_of [] = None
leaf_of (b ∷ s) = Some (leaf (item (scan plain (b ∷ s)) b s))

-- how many bytes it takes
abbrev pub leaf_span : Option Leaf → ℕ
leaf_span (Some r) = r.span
leaf_span None = 0

-- what is found at the front, as an item: a partial sequence, too, is bad bytes from b on
abbrev pub item_of : Front → ℕ → Item
item_of (Well c n) b = coded c n
item_of (Partial n) b = stray b n
item_of (Bad n) b = stray b n
