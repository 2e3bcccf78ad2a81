-- The maximal subpart (the Unicode Standard, section 3.9, D93b). Assumes nothing.
use Rattle.std.specs.Prelude.{◌≡◌, List, ◌++◌, ℕ, ◌≤◌, ◌<◌, length, take}
use Rattle.form.specs.Table.{Form, WellFormed, Begins}

-- no well-formed sequence stands at the front of s
abbrev pub StartsNone : Form → List ℕ → Type 0
StartsNone F s = (w t : List ℕ) → s ≡ w ++ t → WellFormed F w → ⊥

-- at the front of s, where no well-formed sequence starts: the longest beginning of a well-formed sequence there, or else one byte
pub record Subpart (F : Form) (s : List ℕ) (n : ℕ) : Type 0 where
  pub some : 1 ≤ n
  pub within : n ≤ length s
  pub begins : 1 < n → Begins F (take n s)
  pub longest : (m : ℕ) → n < m → m ≤ length s → Begins F (take m s) → ⊥
