-- The same with the bytes of records: places of 8 bytes, in a log of at most 2^64. Assumes nothing.
use mathlib.Core.Path.{◌≡◌, refl, sym, ap, ◌∙◌}
use mathlib.Core.Logic.{◌⊎◌, inl, inr, ◌↔◌}
use mathlib.Core.Bool.{Bool, true, false}
use mathlib.Core.List.{List, [], ◌∷◌, ◌++◌, append-nil}
use Prim.Native.Nat.{ℕ, zero, suc, ◌+◌, ◌*◌, ◌/◌, ◌≤◌, ◌<◌}
use native.Mathlib.Omega.{arith}
use lib.Dec.{leb, ltb}
use lib.ListN.{length, take, drop, get_elem?, length-append}
use lib.Seq.{take_at, take-length}
use borrow.Author.Tests.{lt-ltb, le-ltb, le-leb, lt-leb, leb-true, leb-false}
use Rattle.form.specs.Table.{plain}
use Rattle.form.specs.Text.{items, All}
use Rattle.numbers.specs.Number.{laid_in, values_in, over, Below}
use Rattle.numbers.proofs.Laws.{laid-length, values_laid, over-length}
use Rattle.log_index.specs.Index.{starts, log_index, finding, records}
use Rattle.log_index.specs.Update.{updated, Indexing, fitting, building, updating}
use Rattle.bounds.proofs.Bounds.{items-few}
use Rattle.log_index.proofs.Starts.{ceil, log_index-inside}
use Rattle.log_index.proofs.Finding.{found_true}
use Rattle.log_index.proofs.Fresh.{updated-fresh}

all_take : (P : ℕ → Type 0) (j : ℕ) (l : List ℕ) → All P l → All P (take j l)
all_take P zero l h = tt
all_take P (suc j) [] h = tt
all_take P (suc j) (p ∷ l) h = (h.0, all_take P j l h.1)

all_below : (n m : ℕ) (l : List ℕ) → n ≤ m → 0 < m → All (λ p. p < n) l → Below m l
all_below n m [] g o h i = o
all_below n m (p ∷ l) g o h zero = omega (arith, h.0)
all_below n m (p ∷ l) g o h (suc i) = all_below n m l g o h.1 i

-- the first j records of the true index are read back, whatever follows them
read_back : (s t : List ℕ) (j : ℕ) → length s ≤ 18446744073709551616 → let rs = take j (log_index s) in values_in 8 (length rs) (laid_in 8 rs ++ t) ≡ rs
read_back s t j h =
    let rs = take j (log_index s) in
    values_laid 8 rs t (all_below (length s) 18446744073709551616 rs h (omega arith) (all_take (λ p. p < length s) j (log_index s) (log_index-inside s)))

-- ---- building

module _ (s : List ℕ) (room : ℕ) where
  -- where there is room, all records and their bytes
  pub built-all : length (log_index s) * 8 ≤ room → building s room ≡ record { number = 0; records = length (log_index s); bytes = laid_in 8 (log_index s) }
  unfolding building fitting
  built-all h = rw (le-leb (length (log_index s) * 8) room h) refl

  pub built-none : room < length (log_index s) * 8 → building s room ≡ record { number = 1; records = 0; bytes = [] }
  unfolding building fitting
  built-none h = rw (lt-leb (length (log_index s) * 8) room h) refl

  built-room : (building s room).number ≡ 0 → length (log_index s) * 8 ≤ room
  built-room e = go (leb (length (log_index s) * 8) room) refl
    where
      go : (b : Bool) → leb (length (log_index s) * 8) room ≡ b → length (log_index s) * 8 ≤ room
      go true f = leb-true (length (log_index s) * 8) room f
      go false f = let z : ◌≡◌ {A = ℕ} 1 0 = ap (λ (I : Indexing). I.number) (sym (built-none (leb-false (length (log_index s) * 8) room f))) ∙ e in absurd (omega arith)

  -- 8 bytes for every 64 codes, begun, are what is needed
  pub built-exactly : ((building s room).number ≡ 0) ↔ ((length (items plain 0 s) + 63) / 64 * 8 ≤ room)
  built-exactly = (λ e. omega (arith, built-room e, ceil s), λ h. ap (λ (I : Indexing). I.number) (built-all (omega (arith, ceil s))))

  -- and 8 bytes for every 64 bytes of the log, begun, are always enough
  pub built-enough : (length s + 63) / 64 * 8 ≤ room → (building s room).number ≡ 0
  built-enough h = built-exactly.1 (omega (arith, items-few plain 0 s))

-- a buffer that `build` has filled: what is found by its records is what a full reading says
pub found-built : (s w : List ℕ) (k : ℕ) → length s ≤ 18446744073709551616 → let B = building s (length w) in
    B.number ≡ 0 → finding s (records (take (B.records * 8) (over B.bytes w))) k ≡ get_elem? (starts s 0) k
found-built s w k h e =
    let rs = log_index s in
    let n : length (laid_in 8 rs) ≡ length rs * 8 = laid-length 8 rs in
    let m : length (laid_in 8 rs) / 8 ≡ length rs = omega arith in
    let r : values_in 8 (length rs) (laid_in 8 rs) ≡ rs = ap (values_in 8 (length rs)) (sym (append-nil (laid_in 8 rs))) ∙ rw (take-length rs) at (read_back s [] (length rs) h) in
    rw (built-all s (length w) (built-room s (length w) e), take_at (laid_in 8 rs) (drop (length (laid_in 8 rs)) w) (length rs * 8) n, m, r) (found_true s k)

-- ---- updating

-- an old length past the log's, or more old records than there is room for, is 15, whatever the room for the new ones
pub updating-outside : (log : List ℕ) (n : ℕ) (w : List ℕ) (old : ℕ) → (length log < n) ⊎ (length w < old * 8) → updating log n w old ≡ record { number = 15; records = 0; bytes = [] }
unfolding updating
updating-outside log n w old (inl h) = rw (lt-ltb (length log) n h) refl
updating-outside log n w old (inr h) = go (ltb (length log) n) refl
  where
    go : (b : Bool) → ltb (length log) n ≡ b → updating log n w old ≡ record { number = 15; records = 0; bytes = [] }
    go true e = rw e refl
    go false e = rw (e, lt-ltb (length w) (old * 8) h) refl

-- the buffer has the bytes of the old log's first j records in front: after an append of t it is as if built anew
pub updated-built : (s t w rest : List ℕ) (j : ℕ) → length s ≤ 18446744073709551616 → let rs = take j (log_index s) in
    w ≡ laid_in 8 rs ++ rest → updating (s ++ t) (length s) w (length rs) ≡ building (s ++ t) (length w)
unfolding updating building
updated-built s t w rest j h e =
    let rs = take j (log_index s) in
    let b : values_in 8 (length rs) w ≡ rs = ap (values_in 8 (length rs)) e ∙ read_back s rest j h in
    let l : length rs * 8 ≤ length w = omega (arith, ap length e, length-append (laid_in 8 rs) rest, laid-length 8 rs) in
    rw (le-ltb (length (s ++ t)) (length s) (omega (arith, length-append s t)), le-ltb (length w) (length rs * 8) l, b, updated-fresh s t j) refl

-- so what was built, and grew, is what is built of the whole
pub grown : (s t w : List ℕ) → length s ≤ 18446744073709551616 → let B = building s (length w) in
    B.number ≡ 0 → updating (s ++ t) (length s) (over B.bytes w) B.records ≡ building (s ++ t) (length w)
grown s t w h e =
    let rs = log_index s in
    let a = built-room s (length w) e in
    let n : length (over (laid_in 8 rs) w) ≡ length w = over-length (laid_in 8 rs) w (omega (arith, laid-length 8 rs)) in
    let g = updated-built s t (over (laid_in 8 rs) w) (drop (length (laid_in 8 rs)) w) (length rs) h in
    rw (built-all s (length w) a) (rw (take-length rs) at g refl ∙ ap (building (s ++ t)) n)

-- ---- building is updating from nothing

pub updated_none : (log w : List ℕ) → updating log 0 w 0 ≡ building log (length w)
unfolding updating building updated log_index
updated_none log w = rw (le-ltb (length log) 0 (omega arith), le-ltb (length w) (0 * 8) (omega arith)) refl
