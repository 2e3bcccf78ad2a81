-- How far a reading has come, wherever its codes are put. Assumes nothing.
use Rattle.std.specs.Prelude.{◌≡◌, cond, List, [], ◌++◌, map, ℕ, ◌+◌, ◌≤◌, ◌<◌, ltb, length, get_or, take, drop}
use Rattle.numbers.specs.Filled.{Filled}
use Rattle.flags.specs.declared.Flags.{Flags}
use Rattle.form.specs.Table.{Form}
use Rattle.form.specs.Text.{escape}
use Rattle.readings.specs.Reading.{follow, reading}

-- the reader converts the first k bytes of s to these codes, and goes on behind them, whatever the room
pub record Converts (F : Form) (m : Flags) (s codes : List ℕ) (k : ℕ) : Type 0 where
  pub within : k ≤ length s
  pub goes_on : (room : ℕ) → reading F m (length codes + room) s ≡ follow codes k (reading F m room (drop k s))

-- codes in a buffer of codes: a code is one cell
abbrev pub as_is : List ℕ → List ℕ
as_is l = l

-- `lay` gives the cells that codes are laid into: n codes take w n cells
pub record Layout {A : Type 0} (lay : List ℕ → List A) (w : ℕ → ℕ) : Type 0 where
  pub empty : lay [] ≡ []
  pub lengths : (l : List ℕ) → length (lay l) ≡ w (length l)
  pub adds : (n i : ℕ) → w (n + i) ≡ w n + w i
  pub joins : (a b : List ℕ) → lay (a ++ b) ≡ lay a ++ lay b

-- a code takes a cell or more, and k cells hold `holds k` codes at most
pub record Rooms (w holds : ℕ → ℕ) : Type 0 where
  pub covers : (n : ℕ) → n ≤ w n
  pub fits : (n k : ℕ) → n ≤ holds k → w n ≤ k
  pub most : (n k : ℕ) → w n ≤ k → n ≤ holds k

-- n codes for the first `at` bytes of s stand at the front of a buffer that was d₀ and is d: `lay` gives what stands there for codes
pub record Come {A : Type 0} (lay : List ℕ → List A) (F : Form) (m : Flags) (s : List ℕ) (d₀ d : List A) (at n : ℕ) : Type 0 where
  pub codes : List ℕ
  pub count : length codes ≡ n
  pub converts : Converts F m s codes at
  pub filled : Filled d₀ d (lay codes)

-- from one place to another: whatever was reached is reached still
pub record Onward {A : Type 0} (lay : List ℕ → List A) (F : Form) (m : Flags) (s : List ℕ) (d₀ d : List A) (at₀ n₀ at n : ℕ) : Type 0 where
  pub same : length d ≡ length d₀
  pub forth : n₀ ≤ n
  pub keeps : (z : List A) → Come lay F m s z d₀ at₀ n₀ → Come lay F m s z d at n

-- the code of a byte that is read by itself: ASCII, or an escape
unfoldable pub single : ℕ → ℕ
single b = cond (ltb b 0x80) b (escape b)

-- the first n bytes of s stand in the buffer as single codes, and from the place i on they are below a limit
pub record Singles {A : Type 0} (lay : List ℕ → List A) (limit i : ℕ) (s : List ℕ) (d₀ d : List A) (n : ℕ) : Type 0 where
  pub within : n ≤ length s
  pub below : (j : ℕ) → i ≤ j → j < n → get_or s j 0 < limit
  pub filled : Filled d₀ d (lay (map single (take n s)))
