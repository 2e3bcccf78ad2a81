-- What the codes of a reading stand for. Assumes nothing.
use Rattle.std.specs.Prelude.{◌≡◌, true, false, List, [], ◌∷◌, ℕ, ◌+◌, ◌≤◌, length, take, drop}
use Rattle.flags.specs.declared.Flags.{Flags}
use Rattle.form.specs.Table.{Form, Codes}
use Rattle.form.specs.Text.{escape}
use Rattle.readings.specs.Stops.{BadAt}

-- the code c stands for the first k bytes of s: for a well-formed sequence; or, where none starts and STRICT is absent, with SHOW as a mark for the maximal
-- subpart, and otherwise as an escape for one byte
pub data StandsFor (F : Form) (n : ℕ) (m : Flags) (s : List ℕ) (c k : ℕ) : Type 0 where
  well_formed : k ≤ length s → Codes F (take k s) c → StandsFor F n m s c k
  mark : m.strict ≡ false → m.show ≡ true → BadAt F n m s k → c ≡ 0xFFFD → StandsFor F n m s c k
  escaped : m.strict ≡ false → m.show ≡ false → (b j : ℕ) (t : List ℕ) → s ≡ b ∷ t → BadAt F n m s j → c ≡ escape b → k ≡ 1 → StandsFor F n m s c k

-- the codes l stand for the first k bytes of s, one after another
abbrev pub InOrder : Form → ℕ → Flags → List ℕ → List ℕ → ℕ → Type 0
InOrder F n m s [] k = k ≡ 0
InOrder F n m s (c ∷ l) k = (i : ℕ) × (j : ℕ) × (k ≡ i + j) × StandsFor F n m s c i × InOrder F n m (drop i s) l j
