-- When a lent slice is the rest of another: the same bytes in memory, and not merely equal ones. Assumes nothing.
use Rattle.std.specs.Prelude.{◌≡◌, List, ℕ, ◌+◌, drop}
use Rattle.std.specs.Borrow.{Bor}

pub record RestOf (s : Bor (List ℕ)) (k : ℕ) (r : Bor (List ℕ)) : Type 0 where
  -- the same elements
  pub bytes : r.now ≡ drop k s.now
  -- in the same block of memory, k bytes further
  pub block : r.ref_ptr.0 ≡ s.ref_ptr.0
  pub offset : r.ref_ptr.1 ≡ s.ref_ptr.1 + k
