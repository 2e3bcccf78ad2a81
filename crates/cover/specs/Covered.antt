-- The answer of `cover`: the item's start, length and code, if some item covers the byte (C-17). Assumes nothing.
use Rattle.std.specs.Prelude.{Option, None, Some}
use Rattle.form.specs.Text.{span, code}
use Rattle.bounds.specs.Cover.{Cover, none, covers}
use Rattle.cover.specs.declared.Covered.{Covered}

abbrev pub covered_of : Cover → Option Covered
covered_of none = None
covered_of (covers q i) = Some (record { start = q; len = span i; code = code i })
