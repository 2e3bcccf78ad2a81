-- Codes that lie in cells, as many cells to each. Assumes nothing.
use Rattle.std.specs.Prelude.{◌≡◌, List, ℕ, ◌+◌, ◌≤◌, length, take, drop}

-- the codes of a part of the cells are that part of the codes
pub record Parts {A : Type 0} (codes : List A → List ℕ) (width : ℕ → ℕ) : Type 0 where
  pub fits : (l : List A) (n : ℕ) → n ≤ length (codes l) → width n ≤ length l
  pub adds : (n i : ℕ) → width (n + i) ≡ width n + width i
  pub part : (l : List A) (n i : ℕ) → codes (take (width i) (drop (width n) l)) ≡ take i (drop n (codes l))
