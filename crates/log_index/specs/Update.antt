-- The index of a log after an append, and what building and updating give (C-17). Assumes nothing.
use Rattle.std.specs.Prelude.{cond, List, [], ◌∷◌, ℕ, ◌+◌, ◌*◌, leb, ltb, length}
use Rattle.numbers.specs.Number.{laid_in, values_in}
use Rattle.log_index.specs.Index.{onward, log_index}

-- the records before the first whose place + 3 reaches the old length
abbrev pub standing : ℕ → List ℕ → List ℕ
standing n [] = []
standing n (p ∷ l) = cond (ltb (p + 3) n) (p ∷ standing n l) []

-- they stand, and the walk goes on from the last of them, else from 0
abbrev pub resumed : List ℕ → List ℕ → List ℕ
resumed s [] = onward s 0
resumed s (p ∷ []) = onward s p
resumed s (p ∷ q ∷ l) = p ∷ resumed s (q ∷ l)

unfoldable pub updated : List ℕ → ℕ → List ℕ → List ℕ
updated s n rs = resumed s (standing n rs)

-- ---- as bytes

-- the number, how many records, and their bytes
pub record Indexing : Type 0 where
  pub number : ℕ
  pub records : ℕ
  pub bytes : List ℕ

abbrev pub refused : ℕ → Indexing
refused q = record { number = q; records = 0; bytes = [] }

-- all records, or number 1 and nothing
unfoldable pub fitting : ℕ → List ℕ → Indexing
fitting room rs = cond (leb (length rs * 8) room) (record { number = 0; records = length rs; bytes = laid_in 8 rs }) (refused 1)

unfoldable pub building : List ℕ → ℕ → Indexing
building log room = fitting room (log_index log)

-- refused in this order: an old length past the log's (15), more old records than there is room for (15), no room for the new ones (1)
unfoldable pub updating : List ℕ → ℕ → List ℕ → ℕ → Indexing
updating log n w old = cond (ltb (length log) n) (refused 15) (cond (ltb (length w) (old * 8)) (refused 15) (fitting (length w) (updated log n (values_in 8 old w))))
