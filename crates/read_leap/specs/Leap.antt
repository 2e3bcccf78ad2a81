-- What the pieces of a leap give, wherever their codes are put. Assumes nothing.
use Rattle.std.specs.Prelude.{◌≡◌, ◌⊎◌, Option, Some, None, List, [], ◌∷◌, ℕ, ◌≤◌, ◌<◌, length, get_or}
use Rattle.numbers.specs.Filled.{Filled}
use Rattle.form.specs.Table.{Form}
use Rattle.form.specs.Scan.{well, scan}
use Rattle.straight.specs.Straight.{straight_of}
use Rattle.readings.specs.Come.{Singles}

-- one sequence of r bytes, where there is room for a code of w cells; or nothing
abbrev pub Sequenced : {A : Type 0} → (List ℕ → List A) → ℕ → Form → List ℕ → List A → List A → Option ℕ → Type 0
Sequenced lay w F s d₀ d None = (d ≡ d₀) × (w ≤ length d₀ → None ≡ straight_of (scan F s))
Sequenced lay w F s d₀ d (Some r) = (0 < r) × ((c : ℕ) × (scan F s ≡ well c r) × Filled d₀ d (lay (c ∷ [])))

-- the first byte, which is not ED and has three behind it, and some below C2; or nothing
abbrev pub Strays : {A : Type 0} → (List ℕ → List A) → List ℕ → List A → List A → ℕ → Type 0
Strays lay s d₀ d r = ((r ≡ 0) × (d ≡ d₀)) ⊎ ((4 ≤ length s) × (get_or s 0 0 ≡ 0xED → ⊥) × Singles lay 0xC2 1 s d₀ d r)
