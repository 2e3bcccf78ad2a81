-- What the first byte says of a sequence. Assumes nothing.
use Rattle.std.specs.Prelude.{Option, Some, None, [], ◌∷◌, suc, length}
use Rattle.form.specs.Table as Table
use Rattle.form.specs.Table.{◌to◌, row}
use Rattle.lead.specs.declared.Lead.{Lead}

-- by the rows that are left after a byte: the length of the sequences of the first of them, and the range of their second byte; none where no
-- row is left. Only after ED in CESU-8 are two left
abbrev pub lead_of : Table.Form → Option Lead
lead_of [] = None
lead_of (row c [] ∷ F) = Some (record { len = 1; lo = 0; hi = 0 })
lead_of (row c (lo to hi ∷ rs) ∷ F) = Some (record { len = suc (suc (length rs)); lo = lo; hi = hi })
