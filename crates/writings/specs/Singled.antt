-- Codes that are written as one byte each. Assumes nothing.
use Rattle.std.specs.Prelude.{◌⊎◌, List, map, ℕ, ◌%◌, ◌≤◌, ◌<◌, length, get_or, take}
use Rattle.form.specs.Table.{Escape}
use Rattle.numbers.specs.Filled.{Filled}

-- with any flags
abbrev pub Ascii : ℕ → Type 0
Ascii c = c < 0x80

-- without SURRO and STRICT
abbrev pub Single : ℕ → Type 0
Single c = (c < 0x80) ⊎ Escape c

-- the low byte of each code
abbrev pub lows : List ℕ → List ℕ
lows l = map (λ c. c % 256) l

-- the first n codes of l are such, and their low bytes stand at the front of a buffer, which was d₀ and is d
pub record Singled (P : ℕ → Type 0) (l d₀ d : List ℕ) (n : ℕ) : Type 0 where
  pub within : n ≤ length l
  pub each : (i : ℕ) → i < n → P (get_or l i 0)
  pub filled : Filled d₀ d (lows (take n l))
