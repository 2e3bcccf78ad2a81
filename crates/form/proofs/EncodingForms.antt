-- What a form has that is an encoding form of the scalar values (the Unicode Standard, D79), from the tests of demand 3. Assumes nothing.
use mathlib.Core.Path.{◌≡◌, refl, sym, ap, ◌∙◌}
use mathlib.Core.Logic.{inl, ⊎_elim, ◌↔◌}
use mathlib.Core.Bool.{Bool, true, false, ◌&&◌, cond}
use mathlib.Core.List.{List, [], ◌∷◌, append-nil}
use Prim.Native.Nat.{ℕ, suc, ◌+◌, ◌-◌, ◌%◌, ◌≤◌, ◌<◌}
use native.Mathlib.Omega.{arith}
use lib.Dec.{T, leb, ltb, eqb, leb→le, eqb→eq}
use lib.ListN.{length}
use Rattle.form.specs.Table.{Range, ◌to◌, row, Form, plain, In, Fits, size, index, Codes, scalars, Scalar}
use Rattle.form.specs.Scan.{part, scan}
use Rattle.form.specs.Text.{digits, sequence, All, plain_runs}
use Rattle.form.proofs.Tests.{at_most, low, tiles, within, later_within, Sound}
use Rattle.form.proofs.Rows.{both}
use Rattle.form.proofs.Part.{codes-length}
use Rattle.form.proofs.After.{scan-nil}
use Rattle.form.proofs.Codes.{codes_iff, codes-sequence, sequence-codes}
use Rattle.form.proofs.Laws.{Scans, scans}
use Rattle.form.proofs.Utf8.{plain_sound}

-- each scalar value has one sequence, no other number has any, and the longest has n bytes, more than one
pub record EncodingForm (F : Form) (n : ℕ) : Type 0 where
  pub scans : Scans F n
  pub long : 1 < n
  -- no bytes are the beginning of every sequence
  pub nil : scan F [] ≡ part
  pub most : (w : List ℕ) (c : ℕ) → Codes F w c → length w ≤ n
  pub few : (c : ℕ) → length (sequence F c) ≤ n
  pub scalar : (w : List ℕ) (c : ℕ) → Codes F w c → Scalar c
  pub only : (w : List ℕ) (c : ℕ) → Codes F w c → sequence F c ≡ w
  pub some : (c : ℕ) → Scalar c → Codes F (sequence F c) c
  -- a code below 80 is its byte
  pub ascii : (w : List ℕ) (c : ℕ) → c < 0x80 → Codes F w c ↔ (w ≡ c ∷ [])

-- no sequence is longer than the longest row
digits-length : (rs : List Range) (i : ℕ) → length (digits rs i) ≡ length rs
digits-length [] i = refl
digits-length (lo to hi ∷ rs) i = ap suc (digits-length rs (i % size rs))

pub sequence-few : (n : ℕ) (F : Form) (c : ℕ) → T (at_most n F) → length (sequence F c) ≤ n
sequence-few n [] c t = omega arith
sequence-few n (row k rs ∷ F) c t = let (p, q) = both (leb (length rs) n) (at_most n F) t in go (leb k c && ltb c (k + size rs)) p (sequence-few n F c q)
  where
    go : (b : Bool) → T (leb (length rs) n) → length (sequence F c) ≤ n → length (cond b (digits rs (c - k)) (sequence F c)) ≤ n
    go true p ih = omega (arith, digits-length rs (c - k), leb→le (length rs) n p)
    go false p ih = ih

-- the first row has the bytes 00 to 7F, and begins with the code 0
low-codes : (F : Form) (c : ℕ) → T (low F) → T (tiles scalars F) → c < 0x80 → Codes F (c ∷ []) c
low-codes [] c t u h = absurd t
low-codes (row k [] ∷ F) c t u h = absurd t
low-codes (row k (lo to hi ∷ []) ∷ F) c t u h =
    let (a, b) = both (eqb lo 0) (leb 0x7F hi) t in
    let e : 0 ≡ k = eqb→eq 0 k (both (eqb 0 k) _ u).0 in
    let z : lo ≡ 0 = eqb→eq lo 0 a in
    inl (((omega arith, omega (arith, leb→le 0x7F hi b)), tt), omega arith)
low-codes (row k (lo to hi ∷ r ∷ rs) ∷ F) c t u h = absurd t

module _ (F : Form) (runs : List ℕ) (n : ℕ) (S : Sound F runs) (a : T (at_most n F)) (l : 1 < n) where
  only : (w : List ℕ) (c : ℕ) → Codes F w c → sequence F c ≡ w
  only w c h = ap (λ (G : Form). sequence G c) (sym (append-nil F)) ∙ codes-sequence F [] 0 w c S.is_ascending h

  pub encoding-form : EncodingForm F n
  encoding-form =
      record {
        scans = scans F n S.regular a S.is_low;
        long = l;
        nil = scan-nil F S.regular.is_some S.regular.is_open;
        most = λ w c. codes-length n F w c a;
        few = λ c. sequence-few n F c a;
        scalar = λ w c h. (codes_iff F scalars c S.is_scalars).0 (w, h);
        only = only;
        some = λ c s. rw (append-nil F) at (sequence-codes F [] scalars c S.is_ascending S.is_scalars s);
        ascii =
            λ w c h.
            let e = low-codes F c S.is_low S.is_scalars h in
            (λ k. sym (only w c k) ∙ only (c ∷ []) c e, λ k. rw k e);
      }

-- ---- later bytes that lie in one range

fits-within : (r : Range) (rs : List Range) (w : List ℕ) → T (within r rs) → Fits rs w → All (In r) w
fits-within (lo to hi) [] [] t h = tt
fits-within (lo to hi) [] (b ∷ w) t h = absurd h
fits-within (lo to hi) (q ∷ rs) [] t h = absurd h
fits-within (lo to hi) (a to z ∷ rs) (b ∷ w) t h =
    let (p, q) = both (leb lo a && leb z hi) (within (lo to hi) rs) t in
    let (l, g) = both (leb lo a) (leb z hi) p in
    ((omega (arith, leb→le lo a l), omega (arith, leb→le z hi g)), fits-within (lo to hi) rs w q h.1)

pub later_in : (r : Range) (F : Form) (b : ℕ) (w : List ℕ) (c : ℕ) → T (later_within r F) → Codes F (b ∷ w) c → All (In r) w
later_in r [] b w c t h = absurd h
later_in r (row k [] ∷ F) b w c t h = absurd t
later_in r (row k (q ∷ rs) ∷ F) b w c t h =
    let (p, u) = both (within r rs) (later_within r F) t in
    ⊎_elim (λ (g : Fits (q ∷ rs) (b ∷ w) × (c ≡ k + index (q ∷ rs) (b ∷ w))). fits-within r rs w p g.0.1) (λ g. later_in r F b w c u g) h

-- ---- plain UTF-8

pub plain_form : EncodingForm plain 4
unfolding plain
plain_form = encoding-form plain plain_runs 4 plain_sound tt (omega arith)
