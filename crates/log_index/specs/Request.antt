-- C-17, sentence by sentence. Assumes nothing.
use Rattle.std.specs.Prelude.{◌≡◌, ◌⊎◌, ◌↔◌, List, [], ◌++◌, ℕ, ◌+◌, ◌*◌, ◌/◌, ◌%◌, ◌≤◌, ◌<◌, length, take, drop, get_or}
use Rattle.std.proofs.Math.Option.{none, some}
use Rattle.std.proofs.Math.ListN.{get_elem?}
use Rattle.form.specs.Table.{plain}
use Rattle.form.specs.Text.{Item, span, code, items, All}
use Rattle.readings.specs.Reading.{decoding}
use Rattle.numbers.specs.Number.{laid_in, over}
use Rattle.bounds.specs.Cover as Cover
use Rattle.bounds.specs.Cover.{covers, covering, window}
use Rattle.log_index.specs.Index.{starts, log_index, finding, records}
use Rattle.log_index.specs.Update.{standing, building, updating}

-- of rs the first j stand: each place + 3 is below the old length n, and that of the next record, if there is one, reaches it
pub record StandFirst (n : ℕ) (rs : List ℕ) (j : ℕ) : Type 0 where
  pub are : standing n rs ≡ take j rs
  pub few : j ≤ length rs
  pub before : All (λ p. p + 3 < n) (take j rs)
  pub reaches : j < length rs → n ≤ get_or rs j 0 + 3

-- the codes of s: what the reader gives with LAST (flag number 1) alone, and room for a code a byte
abbrev pub codes : List ℕ → List ℕ
codes s = (decoding 1 (length s) s).codes

-- p is in the item i, which starts at q: one of the full reading, by its number with its place and its code
pub record CoversIn (s : List ℕ) (p q : ℕ) (i : Item) : Type 0 where
  pub number : ℕ
  pub is_item : get_elem? (items plain 0 s) number ≡ some i
  pub is_place : get_elem? (starts s 0) number ≡ some q
  pub is_code : get_elem? (codes s) number ≡ some (code i)
  pub begins : q ≤ p
  pub ends : p < q + span i

-- a place of 8 bytes is below 2^64
abbrev pub Addressed : List ℕ → Type 0
Addressed s = length s ≤ 18446744073709551616

pub record Request : Type 0 where
  -- "for every code number that is a multiple of 64, an 8-byte record, low byte first, with the byte place where it starts, by the reading
  -- with LAST alone"
  pub recorded : (s : List ℕ) (j : ℕ) → get_elem? (log_index s) j ≡ get_elem? (starts s 0) (j * 64)
  pub how_many : (s : List ℕ) → length (log_index s) ≡ (length (codes s) + 63) / 64
  pub built : (s : List ℕ) (room : ℕ) → length (log_index s) * 8 ≤ room
      → building s room ≡ record { number = 0; records = length (log_index s); bytes = laid_in 8 (log_index s) }
  -- "The place of code k must be found from one record and at most 63 items after it, and equal what a full reading says": w is the buffer
  -- that was lent for building, and its records are handed to `find`
  pub found : (s w : List ℕ) (k : ℕ) → Addressed s → (building s (length w)).number ≡ 0
      → finding s (records (take ((building s (length w)).records * 8) (over (building s (length w)).bytes w))) k ≡ get_elem? (starts s 0) k
  pub reads_on : (s : List ℕ) (k p : ℕ) → get_elem? (starts s 0) k ≡ some p → codes (drop p s) ≡ drop k (codes s)
  -- "k or p at or past the end is refused by new number 15"
  pub past_codes : (s : List ℕ) (k : ℕ) → (get_elem? (starts s 0) k ≡ none) ↔ (length (codes s) ≤ k)
  pub past_bytes : (s : List ℕ) (p : ℕ) → (covering 0 (items plain 0 s) p ≡ Cover.none) ↔ (length s ≤ p)
  -- "For other index bytes, the walk from the place recorded decides; a missing record, or a place recorded or reached at or past the end, is
  -- 15 too"
  pub walked : (s rs : List ℕ) (k p : ℕ) → get_elem? rs (k / 64) ≡ some p → finding s rs k ≡ get_elem? (starts s p) (k % 64)
  pub missing : (s rs : List ℕ) (k : ℕ) → length rs ≤ k / 64 → finding s rs k ≡ none
  pub outside : (s : List ℕ) (p n : ℕ) → length s ≤ p → get_elem? (starts s p) n ≡ none
  -- "No room for the index: number 1, nothing written"
  pub no_room : (s : List ℕ) (room : ℕ) → room < length (log_index s) * 8 → building s room ≡ record { number = 1; records = 0; bytes = [] }
  -- "which item covers byte p, is answered from p and the bytes p - 3 to p + 3 alone, and gives the full reading's start, length and code"
  pub alone : (s t : List ℕ) (p : ℕ) → p < length s → p < length t → window 3 p s ≡ window 3 p t → covering 0 (items plain 0 s) p ≡ covering 0 (items plain 0 t) p
  pub covered : (s : List ℕ) (p q : ℕ) (i : Item) → covering 0 (items plain 0 s) p ≡ covers q i → CoversIn s p q i
  -- "records before the first whose place + 3 reaches the old length stand"
  pub stand : (n : ℕ) (rs : List ℕ) → (j : ℕ) × StandFirst n rs j
  -- "An old length past the log's, or more old records than the index has room for, is 15, before 1"
  pub refused_first : (log : List ℕ) (n : ℕ) (w : List ℕ) (old : ℕ) → (length log < n) ⊎ (length w < old * 8)
      → updating log n w old ≡ record { number = 15; records = 0; bytes = [] }
  -- "A true index so updated equals a fresh one, also when codes become fewer": s is the old log, t what was appended, and w the buffer
  pub fresh : (s t w : List ℕ) → Addressed s → (building s (length w)).number ≡ 0
      → updating (s ++ t) (length s) (over (building s (length w)).bytes w) (building s (length w)).records ≡ building (s ++ t) (length w)
