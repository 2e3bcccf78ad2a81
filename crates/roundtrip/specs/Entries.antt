-- Demand 3's first sentences, on the two C entries of a coding: what `utf8b_decode` or `utf8b_cesu8_decode` gives for a line, `utf8b_encode` or
-- `utf8b_cesu8_encode` turns into the bytes of that line. Assumes nothing.
use Rattle.std.specs.Prelude.{◌≡◌, List, [], ◌∷◌, ◌++◌, ℕ, ◌*◌, ◌≤◌, pos, length}
use Rattle.form.specs.Text.{Bytes}
use Rattle.numbers.specs.Number.{low_first, over}
use Rattle.codings.specs.declared.Coding.{Coding}
use Rattle.entries.specs.Entry.{Entry, decode_entry_in, encode_entry_in}

-- a buffer of so many bytes or more, within the limit
abbrev pub Buffer : ℕ → List ℕ → Type 0
Buffer n d = (n ≤ length d) × (length d ≤ 1048576)

-- an entry that produces n items, leaves these bytes in front of d, and reports k and no maximal subpart
abbrev pub Gives : Entry → ℕ → List ℕ → List ℕ → ℕ → Type 0
Gives e n w d k = (e.answer ≡ pos n) × (e.output ≡ over w d) × (e.report ≡ low_first 8 k ++ (0 ∷ []))

-- for every line s that the buffers have room for, with LAST on the way in and no flags on the way back
pub record Through (K : Coding) : Type 0 where
  pub back : (s d e r q : List ℕ) → Bytes s → Buffer (length s * 4) d → Buffer (length s) e → length r ≡ 9 → length q ≡ 9
      → (n : ℕ) × (w : List ℕ) × (length w ≡ n * 4) × Gives (decode_entry_in K s d 1 r) n w d (length s) × Gives (encode_entry_in K w e 0 q) (length s) s e n
