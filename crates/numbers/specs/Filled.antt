-- A buffer that is filled from its front on. Assumes nothing.
use Rattle.std.specs.Prelude.{◌≡◌, List, ◌≤◌, length}
use Rattle.numbers.specs.Number.{over}

-- d is d₀ with w at its front
pub record Filled {A : Type 0} (d₀ d w : List A) : Type 0 where
  pub fits : length w ≤ length d₀
  pub front : d ≡ over w d₀
