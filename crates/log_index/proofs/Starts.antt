-- The places of a log's codes from a place on. Assumes nothing.
use mathlib.Core.Path.{◌≡◌, refl, ap, ◌∙◌}
use mathlib.Core.List.{List, [], ◌∷◌}
use Prim.Native.Nat.{ℕ, ◌+◌, ◌-◌, ◌*◌, ◌/◌, ◌≤◌, ◌<◌}
use native.Mathlib.Omega.{arith}
use lib.ListN.{length, drop, length-drop, drop_of_length-le}
use lib.Seq.{drop-drop}
use Rattle.form.specs.Table.{plain}
use Rattle.form.specs.Text.{items, places, All}
use Rattle.form.proofs.Utf8.{plain-regular}
use Rattle.bounds.specs.Cover.{place}
use Rattle.bounds.proofs.Bounds.{items-from, places-from, places-inside, places-length, items-few}
use Rattle.log_index.specs.Index.{starts, every, onward, log_index}
use Rattle.log_index.proofs.Lists.{every_skip, every_drop, every-length, every_all}

pub starts_none : (s : List ℕ) (p : ℕ) → length s ≤ p → starts s p ≡ []
starts_none s p h = ap (λ (u : List ℕ). places p (items plain 0 u)) (drop_of_length-le s {i = p} h)

-- the first is the place itself
pub starts-some : (s : List ℕ) (p : ℕ) → p < length s → starts s p ≡ p ∷ drop 1 (starts s p)
starts-some s p h = go (drop p s) refl
  where
    go : (u : List ℕ) → drop p s ≡ u → places p (items plain 0 u) ≡ p ∷ drop 1 (places p (items plain 0 u))
    go [] e = absurd (omega (arith, length-drop p s, ap length e))
    go (b ∷ u) e = refl

-- the places from number j on are those from its place on
pub starts_from : (s : List ℕ) (p j : ℕ) → drop j (starts s p) ≡ starts s (p + place j (items plain 0 (drop p s)))
starts_from s p j =
    let k = place j (items plain 0 (drop p s)) in
    places-from j p (items plain 0 (drop p s)) ∙ ap (places (p + k)) (items-from plain plain-regular.is_open j (drop p s) ∙ ap (items plain 0) (drop-drop k p s))

pub starts-count : (s : List ℕ) → length (starts s 0) ≡ length (items plain 0 s)
starts-count s = places-length 0 (items plain 0 s)

pub starts-few : (s : List ℕ) (p : ℕ) → length (starts s p) ≤ length s - p
starts-few s p = omega (arith, places-length p (items plain 0 (drop p s)), items-few plain 0 (drop p s), length-drop p s)

-- ---- the records

-- the place of the 64th item from p on
abbrev pub jump : List ℕ → ℕ → ℕ
jump s p = place 64 (items plain 0 (drop p s))

pub onward-none : (s : List ℕ) (p : ℕ) → length s ≤ p → onward s p ≡ []
onward-none s p h = ap (every 0) (starts_none s p h)

-- a record, and those from 64 items on
pub onward-some : (s : List ℕ) (p : ℕ) → p < length s → onward s p ≡ p ∷ onward s (p + jump s p)
onward-some s p h =
    ap (every 0) (starts-some s p h)
    ∙ ap (λ (l : List ℕ). p ∷ l) (every_skip 63 (drop 1 (starts s p)) ∙ ap (every 0) (drop-drop 63 1 (starts s p) ∙ starts_from s p 64))

-- the records from number i on
pub index-from : (s : List ℕ) (i : ℕ) → drop i (log_index s) ≡ onward s (place (i * 64) (items plain 0 s))
unfolding log_index
index-from s i =
    let a : 0 + i * 64 ≡ i * 64 = omega arith in
    let b : 0 + place (i * 64) (items plain 0 s) ≡ place (i * 64) (items plain 0 s) = omega arith in
    every_drop (starts s 0) 0 i ∙ ap (λ (n : ℕ). every 0 (drop n (starts s 0))) a ∙ ap (every 0) (starts_from s 0 (i * 64)) ∙ ap (onward s) b

-- one for every 64 codes, begun
pub ceil : (s : List ℕ) → length (log_index s) ≡ (length (items plain 0 s) + 63) / 64
unfolding log_index
ceil s = every-length 0 (starts s 0) (omega arith) ∙ ap (λ (n : ℕ). (n + 63) / 64) (starts-count s)

-- every place recorded lies inside
pub log_index-inside : (s : List ℕ) → All (λ p. p < length s) (log_index s)
unfolding log_index
log_index-inside s =
    let z : 0 + length s ≡ length s = omega arith in
    every_all (λ p. p < length s) 0 (starts s 0) (rw z at (places-inside plain plain-regular.is_open s 0 0))
