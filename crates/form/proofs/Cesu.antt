-- The theorems at CESU-8: each test is computed here. Assumes nothing.
use mathlib.Core.Path.{◌≡◌, refl, sym, ◌∙◌}
use mathlib.Core.Logic.{◌⊎◌, ⊎_elim, ◌↔◌}
use mathlib.Core.List.{List, [], ◌∷◌, ◌++◌, map, Memᴰ}
use Prim.Native.Nat.{ℕ, ◌+◌, ◌-◌, ◌*◌, ◌/◌, ◌%◌, ◌≤◌, ◌<◌}
use native.Mathlib.Omega.{arith}
use lib.ListN.{length}
use borrow.Author.Tests.{lt-ltb, le-ltb}
use Rattle.form.specs.Table.{◌to◌, tail, short_rows, pairs, cesu, In, Codes, WellFormed, scalars, Scalar, Escape}
use Rattle.form.specs.Pattern.{bits, pattern, cesu_pattern}
use Rattle.form.specs.Text.{All, unescape, sequence, Demand3, cesu_runs}
use Rattle.form.proofs.Tests.{Sound}
use Rattle.form.proofs.Codes.{patterned, codes-append}
use Rattle.form.proofs.Sequences.{no_sequence}
use Rattle.form.proofs.Pattern.{each_row, Shape, tail-bits, shape_bits, shape_pattern}
use Rattle.form.proofs.Runs.{run_length}
use Rattle.form.proofs.Demand.{demand3}
use Rattle.form.proofs.EncodingForms.{EncodingForm, encoding-form}

pub cesu_sound : Sound cesu cesu_runs
unfolding cesu
cesu_sound =
    record {
      regular = record { is_some = tt; is_open = tt; is_proper = tt; is_distinct = tt };
      is_uncut = tt;
      is_ascending = tt;
      is_scalars = tt;
      is_low = tt;
      is_long = tt;
    }

pub cesu_form : EncodingForm cesu 6
unfolding cesu
cesu_form = encoding-form cesu cesu_runs 6 cesu_sound tt (omega arith)

pub cesu_demand3 : Demand3 cesu cesu_runs
cesu_demand3 = demand3 cesu cesu_runs cesu_sound

-- neighbouring escapes that stand for one well-formed sequence are two, three or six
pub cesu-run : (m : List ℕ) → All Escape m → WellFormed cesu (map unescape m) → Memᴰ (length m) cesu_runs
cesu-run = run_length cesu_runs cesu cesu_sound.is_long

-- ---- six bytes: two surrogates of three bytes, with ten bits each

-- the three bytes of a surrogate
half : (b x c : ℕ) → In tail b → In tail x → c ≡ 0xD000 + (b - 0x80) * 0x40 + (x - 0x80) → pattern c ≡ 0xED ∷ b ∷ x ∷ []
half b x c p q e = sym (shape_pattern (0xED ∷ b ∷ x ∷ []) c (omega arith, omega arith, omega arith, p, q, omega arith))

-- a surrogate's second byte, from `mark` on, its third, and its low ten bits n
abbrev Half : ℕ → ℕ → ℕ → ℕ → Type 0
Half mark b x n = In (mark to (mark + 0xF)) b × In tail x × (n ≡ (b - mark) * 0x40 + (x - 0x80))

high_half : (b x n : ℕ) → Half 0xA0 b x n → (n < 0x400) × (n ≡ b % 0x10 * 0x40 + x % 0x40) × (pattern (0xD800 + n) ≡ 0xED ∷ b ∷ x ∷ [])
high_half b x n (p, q, e) =
    let m : b % 0x10 ≡ b - 0xA0 = omega arith in
    (omega arith, rw (m, tail-bits x q) e, half b x (0xD800 + n) (omega arith) q (omega arith))

low_half : (b x n : ℕ) → Half 0xB0 b x n → (n < 0x400) × (n ≡ b % 0x10 * 0x40 + x % 0x40) × (pattern (0xDC00 + n) ≡ 0xED ∷ b ∷ x ∷ [])
low_half b x n (p, q, e) =
    let m : b % 0x10 ≡ b - 0xB0 = omega arith in
    (omega arith, rw (m, tail-bits x q) e, half b x (0xDC00 + n) (omega arith) q (omega arith))

-- the code that two halves make
halves : (n m c : ℕ) → n < 0x400 → m < 0x400 → c ≡ 0x10000 + n * 0x400 + m → (0x10000 ≤ c) × ((c - 0x10000) / 0x400 ≡ n) × ((c - 0x10000) % 0x400 ≡ m)
halves n m c h g e = (omega arith, omega arith, omega arith)

both_halves : (n m c : ℕ) (v w : List ℕ) → n < 0x400 → m < 0x400 → c ≡ 0x10000 + n * 0x400 + m → pattern (0xD800 + n) ≡ v → pattern (0xDC00 + m) ≡ w → v ++ w ≡ cesu_pattern c
unfolding cesu_pattern
both_halves n m c v w h g e p q =
    let (l, i, j) = halves n m c h g e in
    simp (le-ltb c 0x10000 l) (rw (i, j, p, q) refl)

-- ---- the pattern, in both directions

abbrev Patterned : List ℕ → ℕ → Type 0
Patterned w c = (w ≡ cesu_pattern c) × (c ≡ bits w)

pair : (b x e y c : ℕ) → In (0xA0 to 0xAF) b → In tail x → In (0xB0 to 0xBF) e → In tail y
    → c ≡ 0x10000 + ((b - 0xA0) * 0x40 + (x - 0x80)) * 0x400 + ((e - 0xB0) * 0x40 + (y - 0x80)) → Patterned (0xED ∷ b ∷ x ∷ 0xED ∷ e ∷ y ∷ []) c
pair b x e y c p q r s h =
    let (i, j, k) = high_half b x ((b - 0xA0) * 0x40 + (x - 0x80)) (p, q, refl) in
    let (f, g, o) = low_half e y ((e - 0xB0) * 0x40 + (y - 0x80)) (r, s, refl) in
    (both_halves _ _ c _ _ i f h k o, rw (← j, ← g) h)

long : (w : List ℕ) (c : ℕ) → Codes (pairs ∷ []) w c → Patterned w c
long =
    each_row (pairs ∷ []) Patterned
    ((λ a p b q x r d s e t y u. let i : a ≡ 0xED = omega arith in let j : d ≡ 0xED = omega arith in rw (i, j) (pair b x e y _ q r t u (omega arith))), tt)

-- up to FFFF Table 3-6's
short : (w : List ℕ) (c : ℕ) → Codes (short_rows 0x9F) w c → (c < 0x10000) × Shape w c
short = each_row (short_rows 0x9F) (λ w c. (c < 0x10000) × Shape w c) (omega arith, (omega arith, (omega arith, (omega arith, (omega arith, (omega arith, tt))))))

pub cesu-short : (c : ℕ) → c < 0x10000 → cesu_pattern c ≡ pattern c
unfolding cesu_pattern
cesu-short c l = simp (lt-ltb c 0x10000 l)

is_patterned : (w : List ℕ) (c : ℕ) → Codes cesu w c → Patterned w c
unfolding cesu
is_patterned w c h =
    ⊎_elim (λ u. let (l, s) = short w c u in (shape_pattern w c s ∙ sym (cesu-short c l), shape_bits w c s)) (long w c) (codes-append (short_rows 0x9F) (pairs ∷ []) w c h)

pub cesu-bits : (w : List ℕ) (c : ℕ) → Codes cesu w c → c ≡ bits w
cesu-bits w c h = (is_patterned w c h).1

-- CESU-8 is its pattern on the scalar values: each has that one sequence, and there are no others
pub cesu_patterned : (w : List ℕ) (c : ℕ) → Codes cesu w c ↔ (Scalar c × (w ≡ cesu_pattern c))
cesu_patterned = patterned cesu scalars cesu_pattern cesu_sound.is_scalars (λ w c h. (is_patterned w c h).0)

-- ---- the sequence of a code

pub cesu-scalar : (c : ℕ) → Scalar c → sequence cesu c ≡ cesu_pattern c
cesu-scalar c s = cesu_form.only (cesu_pattern c) c ((cesu_patterned (cesu_pattern c) c).1 (s, refl))

pub cesu-none : (c : ℕ) → (Scalar c → ⊥) → sequence cesu c ≡ []
cesu-none c h = no_sequence cesu c (λ w u. h (cesu_form.scalar w c u))

-- the six bytes of a code above FFFF, by the halves of its 20 bits
pub cesu-long : (c n m : ℕ) → n ≡ (c - 0x10000) / 0x400 → m ≡ (c - 0x10000) % 0x400 → 0x10000 ≤ c → c ≤ 0x10FFFF
    → cesu_pattern c ≡ 0xED ∷ (0xA0 + n / 0x40) ∷ (0x80 + n % 0x40) ∷ 0xED ∷ (0xB0 + m / 0x40) ∷ (0x80 + m % 0x40) ∷ []
cesu-long c n m p q l h =
    let i : n < 0x400 = omega arith in
    let j : m < 0x400 = omega arith in
    sym
    (both_halves n m c _ _ i j (omega arith)
    (high_half (0xA0 + n / 0x40) (0x80 + n % 0x40) n ((omega arith, omega arith), (omega arith, omega arith), omega arith)).2
    (low_half (0xB0 + m / 0x40) (0x80 + m % 0x40) m ((omega arith, omega arith), (omega arith, omega arith), omega arith)).2)
