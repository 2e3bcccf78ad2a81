-- What the writer's rows give, which are a form's and after them the surrogates'. Assumes nothing.
use mathlib.Core.Path.{◌≡◌, refl, ap, ◌∙◌}
use mathlib.Core.Logic.{◌⊎◌, inl, inr, ⊎_elim}
use mathlib.Core.List.{List, [], ◌∷◌, ◌++◌}
use Prim.Native.Nat.{ℕ, ◌+◌, ◌≤◌, ◌<◌}
use native.Mathlib.Omega.{arith}
use lib.Dec.{T}
use lib.ListN.{length}
use borrow.Author.Tests.{le-leb, le-ltb}
use Rattle.form.specs.Table.{Range, ◌to◌, row, Form, plain, surro, cesu, surrogates, In, Fits, InAny, Codes, scalars}
use Rattle.form.specs.Pattern.{pattern}
use Rattle.form.specs.Text.{sequence, Bytes}
use Rattle.form.proofs.Tests.{open?, proper_rows, ascending, tiles, at_most}
use Rattle.form.proofs.Rows.{fits-length}
use Rattle.form.proofs.Codes.{codes_iff, codes-sequence, sequence-codes}
use Rattle.form.proofs.Demand.{sequence-bytes, proper-surrogates}
use Rattle.form.proofs.EncodingForms.{sequence-few}
use Rattle.form.proofs.Utf8.{plain_sound, plain-pattern, surro-regular, surro-codes, surro-pattern, surrogate-pattern, scalar_below}
use Rattle.form.proofs.Cesu.{cesu_sound, cesu_patterned, cesu-short}
use Rattle.form.proofs.Sequences.{Kind, scalar, surrogate, beyond, kind, scalar-outside, skipped, no_sequence, surro-ascending, pattern-bytes}

abbrev three : Form
three = surrogates ∷ []

-- ---- what holds of any rows

-- a well-formed sequence has a byte
codes-some : (F : Form) (w : List ℕ) (c : ℕ) → T (open? F) → Codes F w c → 1 ≤ length w
codes-some [] w c t h = absurd h
codes-some (row k [] ∷ F) w c t h = absurd t
codes-some (row k (r ∷ rs) ∷ F) w c t h = ⊎_elim (λ (u : Fits (r ∷ rs) w × (c ≡ k + _)). omega (arith, fits-length (r ∷ rs) w u.0)) (λ u. codes-some F w c t u) h

-- above the surrogates only the form's own rows count
pub own_rows : (F : Form) (c : ℕ) → 0xDFFF < c → sequence (F ++ (surrogates ∷ [])) c ≡ sequence F c
own_rows [] c h = rw (le-leb 0xD800 c (omega arith), le-ltb c 0xE000 (omega arith)) refl
own_rows (row k rs ∷ F) c h = rw (own_rows F c h) refl

-- ---- a surrogate by its own row

three-pattern : (c : ℕ) → In (0xD800 to 0xDFFF) c → sequence three c ≡ pattern c
three-pattern c h = codes-sequence three [] 0 (pattern c) c tt ((surrogate-pattern (pattern c) c).1 (inl h, refl))

-- ---- the rows of the writer

-- up to FFFF Table 3-6's pattern, one to n bytes for each code, and nothing above 10FFFF
pub record Writer (F : Form) (n : ℕ) : Type 0 where
  pub low : (c : ℕ) → c < 0x10000 → sequence (F ++ (surrogates ∷ [])) c ≡ pattern c
  pub some : (c : ℕ) → c ≤ 0x10FFFF → 1 ≤ length (sequence (F ++ (surrogates ∷ [])) c)
  pub most : (c : ℕ) → length (sequence (F ++ (surrogates ∷ [])) c) ≤ n
  pub are_bytes : (c : ℕ) → Bytes (sequence (F ++ (surrogates ∷ [])) c)
  pub none_beyond : (c : ℕ) → 0x10FFFF < c → sequence F c ≡ []

pub wider : {F : Form} {n : ℕ} (m : ℕ) → n ≤ m → Writer F n → Writer F m
wider m h W = record { low = W.low; some = W.some; most = λ c. omega (arith, W.most c); are_bytes = W.are_bytes; none_beyond = W.none_beyond }

-- a code of the form's, or a surrogate that it does not have
abbrev Lies : List Range → ℕ → Type 0
Lies cs c = InAny cs c ⊎ (In (0xD800 to 0xDFFF) c × (InAny cs c → ⊥))

module _ (F : Form) (cs : List Range) (n : ℕ) (t : T (tiles cs F)) (a : T (ascending 0 F)) (o : T (open? F)) (p : T (proper_rows F))
    (few : T (at_most n (F ++ (surrogates ∷ []))))
    (all : (c : ℕ) → c ≤ 0x10FFFF → Lies cs c)
    (below : (c : ℕ) → InAny cs c → c ≤ 0x10FFFF)
    (short : (w : List ℕ) (c : ℕ) → Codes F w c → c < 0x10000 → w ≡ pattern c)
  where
    left_over : (c : ℕ) → In (0xD800 to 0xDFFF) c → (InAny cs c → ⊥) → sequence (F ++ three) c ≡ pattern c
    left_over c h g = skipped F three c (λ w u. g ((codes_iff F cs c t).0 (w, u))) ∙ three-pattern c h

    pub writer : Writer F n
    writer =
        record {
          low = λ c h. ⊎_elim (λ g. short (sequence (F ++ three) c) c (sequence-codes F three cs c a t g) h) (λ u. left_over c u.0 u.1) (all c (omega arith));
          some =
              λ c h.
              ⊎_elim (λ g. codes-some F (sequence (F ++ three) c) c o (sequence-codes F three cs c a t g))
              (λ u. omega (arith, ap length (left_over c u.0 u.1), (pattern-bytes c h).0))
              (all c h);
          most = λ c. sequence-few n (F ++ three) c few;
          are_bytes = λ c. sequence-bytes (F ++ three) c (proper-surrogates F p);
          none_beyond = λ c h. no_sequence F c (λ w u. omega (arith, below c ((codes_iff F cs c t).0 (w, u))));
        }

-- ---- the forms

scalar_lies : (c : ℕ) → c ≤ 0x10FFFF → Lies scalars c
scalar_lies c h = go (kind c)
  where
    go : Kind c → Lies scalars c
    go (scalar s) = inl s
    go (surrogate l g) = inr ((l, g), λ s. omega (arith, scalar-outside c s l))
    go (beyond g) = absurd (omega arith)

pub plain_writer : Writer plain 4
unfolding plain
plain_writer =
    let S = plain_sound in
    writer plain scalars 4 S.is_scalars S.is_ascending S.regular.is_open S.regular.is_proper tt scalar_lies scalar_below (λ w c h l. ((plain-pattern w c).0 h).1)

pub cesu_writer : Writer cesu 6
unfolding cesu
cesu_writer =
    let S = cesu_sound in
    writer cesu scalars 6 S.is_scalars S.is_ascending S.regular.is_open S.regular.is_proper tt scalar_lies scalar_below
    (λ w c h l. ((cesu_patterned w c).0 h).1 ∙ cesu-short c l)

pub surro_writer : Writer surro 4
unfolding surro
surro_writer =
    writer surro (0x0 to 0x10FFFF ∷ []) 4 surro-codes surro-ascending surro-regular.is_open surro-regular.is_proper tt (λ c h. inl (inl (omega arith, h)))
    (λ c h. ⊎_elim (λ (u : In (0x0 to 0x10FFFF) c). u.1) (λ u. absurd u) h)
    (λ w c h l. ((surro-pattern w c).0 h).1)
