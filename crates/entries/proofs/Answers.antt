-- The answer and the report of an entry. Assumes nothing.
use mathlib.Core.Path.{◌≡◌, refl, ap, ◌∙◌}
use mathlib.Core.List.{List, [], ◌∷◌, ◌++◌}
use Prim.Native.Nat.{ℕ, ◌/◌, ◌%◌, ◌≤◌}
use lib.IntN.{ℤ, pos, neg_ℤ}
use lib.ListN.{length, set}
use borrow.Author.Tests.{eq-eqb, ne_eqb, le-leb}
use Rattle.codings.specs.declared.Coding.{Coding}
use Rattle.readings.specs.Reading.{decoding_in}
use Rattle.writings.specs.Writing.{encoding_in}
use Rattle.numbers.specs.Number.{low_first, over}
use Rattle.quads.specs.Bytes.{laid, codes_of}
use Rattle.entries.specs.Entry.{entry, answer_of, given, decode_entry_in, encode_entry_in}

-- the count fills all of the report, and the length goes over its last byte
pub reported : (n x : ℕ) (r out : List ℕ) → length r ≡ 9 → out ≡ low_first (length r) n → set out 8 x ≡ low_first 8 n ++ (x ∷ [])
reported n x r out e h = ap (λ (l : List ℕ). set l 8 x) (h ∙ ap (λ (k : ℕ). low_first k n) e)

-- refused flags: nothing was written
pub refuses : (q k n l : ℕ) (w d r p : List ℕ) → q ≡ 4 → w ≡ [] → p ≡ over w d → entry (neg_ℤ (pos 4)) p r ≡ given q k n l w d r
unfolding given
refuses q k n l w d r p e z o = rw (eq-eqb q 4 e, o, z) refl

pub tells : (q k n l : ℕ) (w d r p t : List ℕ) (a : ℤ) → (q ≡ 4 → ⊥) → p ≡ over w d → (a ≡ answer_of q n) × (t ≡ low_first 8 k ++ (l ∷ [])) → entry a p t ≡ given q k n l w d r
unfolding given
tells q k n l w d r p t a e o (x, y) = rw (ne_eqb q 4 e, o, x, y) refl

module _ (K : Coding) (s d r : List ℕ) (f : ℕ) (e : length r ≡ 9) (h : length s ≤ 1048576) (k : length d ≤ 1048576) where
  pub decode-given : let R = decoding_in K f (length d / 4) s in given R.number R.consumed (length R.codes) R.subpart (laid R.codes) d r ≡ decode_entry_in K s d f r
  unfolding decode_entry_in
  decode-given = rw (eq-eqb (length r) 9 e, le-leb (length s) 1048576 h, le-leb (length d) 1048576 k) refl

  pub encode-given : length s % 4 ≡ 0 → let W = encoding_in K f (length d) (codes_of s) in given W.number W.consumed (length W.written) 0 W.written d r ≡ encode_entry_in K s d f r
  unfolding encode_entry_in
  encode-given m = rw (eq-eqb (length r) 9 e, le-leb (length s) 1048576 h, le-leb (length d) 1048576 k, eq-eqb (length s % 4) 0 m) refl
