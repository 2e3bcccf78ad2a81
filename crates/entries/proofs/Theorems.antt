-- After -1 the count is 0, and the reader's length is not. Assumes nothing.
use mathlib.Core.Path.{◌≡◌, refl, ap, ◌∙◌}
use mathlib.Core.Bool.{Bool, true, false, ◌&&◌, cond}
use mathlib.Core.List.{List, [], ◌∷◌, ◌++◌}
use Prim.Native.Nat.{ℕ, suc, ◌/◌, ◌%◌, ◌≤◌}
use native.Mathlib.Omega.{arith}
use lib.Dec.{eqb}
use lib.IntN.{ℤ, pos, neg_ℤ}
use lib.ListN.{length}
use borrow.Author.Tests.{eqb-true}
use Rattle.codings.specs.declared.Coding.{Coding}
use Rattle.readings.specs.Reading.{decoding_in}
use Rattle.readings.proofs.Theorems.{none-consumed, refuses-strict}
use Rattle.writings.specs.Writing.{encoding_in}
use Rattle.writings.proofs.Theorems as Writer
use Rattle.numbers.specs.Number.{low_first}
use Rattle.quads.specs.Bytes.{laid, codes_of}
use Rattle.entries.specs.Entry.{Entry, given, refused, is_report, in_limit, decode_entry_in, encode_entry_in}

abbrev minus_one : ℤ
minus_one = neg_ℤ (pos 1)

-- a refusal by a number above 1, and items
above : {A : Type 0} (q : ℕ) → neg_ℤ (pos (suc (suc q))) ≡ minus_one → A
above q e = let z : ◌≡◌ {A = ℕ} 0 1 = cc in absurd (omega arith)

items : {A : Type 0} (n : ℕ) → pos n ≡ minus_one → A
items n e = let z : ◌≡◌ {A = ℕ} 0 1 = cc in absurd (omega arith)

-- if an entry answers -1, the number is 3, there are no items, and count and length are reported
abbrev Stopped : Entry → ℕ → ℕ → ℕ → ℕ → Type 0
Stopped e q k n l = e.answer ≡ minus_one → (q ≡ 3) × (n ≡ 0) × (e.report ≡ low_first 8 k ++ (l ∷ []))

given-bad : (q k n l : ℕ) (w d r : List ℕ) → Stopped (given q k n l w d r) q k n l
unfolding given
given-bad q k n l w d r = go (eqb q 4) refl (eqb q 3) refl (eqb n 0) refl
  where
    go : (a : Bool) → eqb q 4 ≡ a → (b : Bool) → eqb q 3 ≡ b → (c : Bool) → eqb n 0 ≡ c → Stopped (given q k n l w d r) q k n l
    go true e b f c g = rw e (above 2)
    go false e true f true g = rw (e, f, g) (λ h. (eqb-true q 3 f, eqb-true n 0 g, refl))
    go false e true f false g = rw (e, f, g) (items n)
    go false e false f c g = rw (e, f) (items n)

-- a test refuses by another number, or leaves it at that
tested : (t : Bool) (x y : Entry) (q k n l : ℕ) → Stopped x q k n l → (y.answer ≡ minus_one → ⊥) → Stopped (cond t x y) q k n l
tested true x y q k n l g h = g
tested false x y q k n l g h = λ e. absurd (h e)

pub decode_bad : (K : Coding) (s d : List ℕ) (f : ℕ) (r : List ℕ) → (decode_entry_in K s d f r).answer ≡ minus_one
    → (k : ℕ) × (1 ≤ k) × ((decode_entry_in K s d f r).report ≡ low_first 8 0 ++ (k ∷ []))
unfolding decode_entry_in
decode_bad K s d f r e =
    let R = decoding_in K f (length d / 4) s in
    let whole = given-bad R.number R.consumed (length R.codes) R.subpart (laid R.codes) d r in
    let long = tested (in_limit s && in_limit d) _ (refused 8 d r) _ _ _ _ whole (above 6) in
    let (q, n, t) = tested (is_report r) _ (refused 6 d r) _ _ _ _ long (above 4) e in
    (R.subpart, (refuses-strict K f (length d / 4) s q).1.subpart.some, t ∙ ap (λ (k : ℕ). low_first 8 k ++ (R.subpart ∷ [])) (none-consumed K f (length d / 4) s n))

pub encode_bad : (K : Coding) (s d : List ℕ) (f : ℕ) (r : List ℕ) → (encode_entry_in K s d f r).answer ≡ minus_one → (encode_entry_in K s d f r).report ≡ low_first 8 0 ++ (0 ∷ [])
unfolding encode_entry_in
encode_bad K s d f r e =
    let W = encoding_in K f (length d) (codes_of s) in
    let whole = given-bad W.number W.consumed (length W.written) 0 W.written d r in
    let odd = tested (eqb (length s % 4) 0) _ (refused 7 d r) _ _ _ _ whole (above 5) in
    let long = tested (in_limit s && in_limit d) _ (refused 8 d r) _ _ _ _ odd (above 6) in
    let (q, n, t) = tested (is_report r) _ (refused 6 d r) _ _ _ _ long (above 4) e in
    t ∙ ap (λ (k : ℕ). low_first 8 k ++ (0 ∷ [])) (Writer.none-consumed K f (length d) (codes_of s) n)
