-- What a straight line tells of what is found. Assumes nothing.
use Rattle.std.specs.Prelude.{◌≡◌, List, ℕ, Option, Some, None}
use Rattle.form.specs.Scan.{Found, well, part, bad, scan}
use Rattle.forms.specs.declared.Form.{Form}
use Rattle.forms.specs.Forms.{rows_of}
use Rattle.straight.specs.declared.Straight.{Straight}

-- the length and the code of a well-formed sequence, and none for anything else
abbrev pub straight_of : Found → Option Straight
straight_of (well c n) = Some (record { len = n; code = c })
straight_of part = None
straight_of (bad n) = None

-- it is the same whatever the form
abbrev pub InEvery : Option Straight → List ℕ → Type 0
InEvery r s = (f : Form) → r ≡ straight_of (scan (rows_of f) s)
