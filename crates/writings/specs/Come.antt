-- How far the writer has come, and that it goes on from there. Assumes nothing.
use Rattle.std.specs.Prelude.{◌≡◌, List, ◌++◌, ℕ, ◌+◌, ◌≤◌, length, drop}
use Rattle.flags.specs.declared.Flags.{Flags}
use Rattle.form.specs.Table.{Form}
use Rattle.numbers.specs.Filled.{Filled}
use Rattle.writings.specs.Writing.{Writing, writing}

-- a writing that comes after the bytes w of k codes
unfoldable pub follow : List ℕ → ℕ → Writing → Writing
follow w k W = record { number = W.number; consumed = k + W.consumed; written = w ++ W.written }

-- the writer writes the first k codes of l as these bytes and goes on behind them, whatever the room
pub record Writes (F : Form) (m : Flags) (l bytes : List ℕ) (k : ℕ) : Type 0 where
  pub within : k ≤ length l
  pub goes_on : (room : ℕ) → writing F m (length bytes + room) l ≡ follow bytes k (writing F m room (drop k l))

-- the n bytes of the first `at` codes of l stand at the front of a buffer, which was d₀ and is d
pub record Come (F : Form) (m : Flags) (l d₀ d : List ℕ) (at n : ℕ) : Type 0 where
  pub bytes : List ℕ
  pub count : length bytes ≡ n
  pub writes : Writes F m l bytes at
  pub filled : Filled d₀ d bytes

-- from one place to another, with d₀ become d: whatever was reached stays reached
pub record Onward (F : Form) (m : Flags) (l d₀ d : List ℕ) (at₀ n₀ at n : ℕ) : Type 0 where
  pub codes_forth : at₀ ≤ at
  pub bytes_forth : n₀ ≤ n
  pub same : length d ≡ length d₀
  pub keeps : (z : List ℕ) → Come F m l z d₀ at₀ n₀ → Come F m l z d at n
