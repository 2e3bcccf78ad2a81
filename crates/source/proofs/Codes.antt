-- The codes that lie in bytes, by their places. Assumes nothing.
use mathlib.Core.Path.{◌≡◌, sym, ap, ◌∙◌}
use mathlib.Core.List.{List, []}
use Prim.Native.Nat.{ℕ, ◌-◌, ◌*◌, ◌/◌, ◌≤◌, ◌<◌}
use native.Mathlib.Omega.{arith}
use lib.ListN.{length, get_or, take, drop, get_or-eq_default, drop_of_length-le}
use borrow.Author.Rules.{part_to_end}
use Rattle.quads.specs.Bytes.{codes_of}
use Rattle.quads.proofs.Bytes.{codes-length, codes-drop}

-- there is no code beyond the last
pub code_beyond : (s : List ℕ) (i : ℕ) → length s / 4 ≤ i → 0 ≡ get_or (codes_of s) i 0
code_beyond s i h = sym (get_or-eq_default (codes_of s) 0 (omega (arith, codes-length s)))

-- the codes from a place on, as they are lent
pub codes_lent : (s : List ℕ) (i : ℕ) → codes_of (take (length s - i * 4) (drop (i * 4) s)) ≡ drop i (codes_of s)
codes_lent s i = ap codes_of (part_to_end s (i * 4)) ∙ codes-drop i s

-- beyond the last code nothing is left
nothing_left : (s : List ℕ) (i : ℕ) → length s / 4 < i → [] ≡ drop (i * 4) s
nothing_left s i h = sym (drop_of_length-le s (omega arith))

pub no_codes_left : (s : List ℕ) (i : ℕ) → length s / 4 < i → codes_of [] ≡ drop i (codes_of s)
no_codes_left s i h = ap codes_of (nothing_left s i h) ∙ codes-drop i s
