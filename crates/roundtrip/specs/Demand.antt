-- Demand 3, on the two whole-buffer calls of a coding. `decoding_in` and `encoding_in` are what the promises of the calls cite, in UTF-8 as `decoding` and
-- `encoding`; every other word is defined here, in codings or in form. Assumes nothing.
use Rattle.std.specs.Prelude.{◌≡◌, ◌↔◌, List, [], ◌∷◌, ℕ, ◌+◌, ◌≤◌, length}
use Rattle.form.specs.Text.{bytes, Bytes, Clean, Accepted}
use Rattle.codings.specs.declared.Coding.{Coding}
use Rattle.codings.specs.Codings.{writer_form, runs}
use Rattle.readings.specs.Reading.{decoding_in}
use Rattle.writings.specs.Writing.{encoding_in}

-- the reader with LAST alone, flag number 1, and room r answers 0, consumes every byte of s and gives the list l
abbrev pub Reads : Coding → ℕ → List ℕ → List ℕ → Type 0
Reads K r s l = ((decoding_in K 1 r s).number ≡ 0) × ((decoding_in K 1 r s).consumed ≡ length s) × ((decoding_in K 1 r s).codes ≡ l)

-- the writer without flags, number 0, and with room w answers 0, consumes every code of l and writes the bytes s
abbrev pub Writes : Coding → ℕ → List ℕ → List ℕ → Type 0
Writes K w l s = ((encoding_in K 0 w l).number ≡ 0) × ((encoding_in K 0 w l).consumed ≡ length l) × ((encoding_in K 0 w l).written ≡ s)

-- what all the codes need together: room w is enough for l if needs K l ≤ w
abbrev pub needs : Coding → List ℕ → ℕ
needs K [] = 0
needs K (c ∷ l) = length (bytes (writer_form K) c) + needs K l

-- a clean list, of scalar values and escapes, with runs of two, three and four, in CESU-8 of two, three and six
abbrev pub CleanList : Coding → List ℕ → Type 0
CleanList K = Clean (writer_form K) (runs K)

pub record Demand3 (K : Coding) : Type 0 where
  -- For every byte string the reader (LAST alone, room for a code per byte) answers 0, consumes every byte and gives a clean list.
  pub clean : (s : List ℕ) (r : ℕ) → Bytes s → length s ≤ r → (l : List ℕ) × Reads K r s l × CleanList K l
  -- The writer (no flags, enough room) turns that list into exactly those bytes
  pub exact : (s l : List ℕ) (r w : ℕ) → Bytes s → length s ≤ r → Reads K r s l → needs K l ≤ w → Writes K w l s
  -- and every other clean list into other bytes.
  pub only : (s l k : List ℕ) (r w : ℕ) → Bytes s → length s ≤ r → Reads K r s l → CleanList K k → (k ≡ l → ⊥) → needs K k ≤ w
      → (t : List ℕ) × Writes K w k t × (t ≡ s → ⊥)
  -- With enough room the writer answers 0 and consumes every code of a list that it accepts.
  pub accepts : (l : List ℕ) (w : ℕ) → Accepted l → needs K l ≤ w → (s : List ℕ) × Writes K w l s × Bytes s
  -- Any two lists that the writer accepts are written as the same bytes exactly when reading back gives the same list.
  pub alike : (l m s t a b : List ℕ) (v w r q : ℕ) → Accepted l → Accepted m → needs K l ≤ v → needs K m ≤ w → Writes K v l s → Writes K w m t
      → length s ≤ r → length t ≤ q → Reads K r s a → Reads K q t b → (s ≡ t) ↔ (a ≡ b)
  -- For each list that it accepts, writing what was read back gives the same bytes again,
  pub again : (l s a : List ℕ) (w r v : ℕ) → Accepted l → needs K l ≤ w → Writes K w l s → length s ≤ r → Reads K r s a → needs K a ≤ v → Writes K v a s
  -- and reading those gives the same list again.
  pub settled : (l s a t : List ℕ) (w r v q : ℕ) → Accepted l → needs K l ≤ w → Writes K w l s → length s ≤ r → Reads K r s a → needs K a ≤ v → Writes K v a t
      → length t ≤ q → Reads K q t a
