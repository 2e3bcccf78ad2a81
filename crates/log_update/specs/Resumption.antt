-- Where the walk goes on after records that stand: the last of them, else 0. Assumes nothing.
use Rattle.std.specs.Prelude.{List, [], ◌∷◌, ℕ, zero, suc}

abbrev pub last_of : ℕ → List ℕ → ℕ
last_of d [] = d
last_of d (p ∷ l) = last_of p l

-- the last that stands has its record, so the next is for the code 64 further on
abbrev pub skip_of : ℕ → ℕ
skip_of zero = 0
skip_of (suc n) = 64
