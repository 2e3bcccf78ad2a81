-- What holds at a bad place, and what a reading's answer tells of the place where it stopped. Assumes nothing.
use Rattle.std.specs.Prelude.{◌≡◌, ◌↔◌, true, List, ℕ, ◌≤◌, ◌<◌, length}
use Rattle.flags.specs.declared.Flags.{Flags}
use Rattle.form.specs.Table.{Form, Partial}
use Rattle.form.specs.Subpart.{StartsNone, Subpart}
use Rattle.readings.specs.Reading.{Reading}

-- no well-formed sequence starts at the front of s, and the maximal subpart there has k bytes, fewer than the longest sequence, which has n; of a partial
-- sequence, bad where LAST is given, it is the whole
pub record BadAt (F : Form) (n : ℕ) (m : Flags) (s : List ℕ) (k : ℕ) : Type 0 where
  pub none : StartsNone F s
  pub subpart : Subpart F s k
  pub shorter : k < n
  pub partial : Partial F s → (m.last ≡ true) × (k ≡ length s)

-- how the numbers 0 to 3 are told apart by the length, the bytes consumed of s and the codes: there is a length exactly for 3, every byte is consumed
-- exactly for 0, and where neither is so and there is room left, the number is 2
pub record ToldApart (room : ℕ) (s : List ℕ) (R : Reading) : Type 0 where
  pub bad : (R.number ≡ 3) ↔ (1 ≤ R.subpart)
  pub end : (R.number ≡ 0) ↔ (R.consumed ≡ length s)
  pub cut : R.subpart ≡ 0 → R.consumed < length s → length R.codes < room → R.number ≡ 2
