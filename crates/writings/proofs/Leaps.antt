-- The bytes of the codes that need no second look: what a leap over them writes. Assumes nothing.
use mathlib.Core.Path.{◌≡◌, refl, sym, ap, ◌∙◌, subst}
use mathlib.Core.Logic.{⊎_elim}
use mathlib.Core.Bool.{false}
use mathlib.Core.List.{List, [], ◌∷◌, ◌++◌}
use Prim.Native.Nat.{ℕ, zero, suc, ◌+◌, ◌-◌, ◌/◌, ◌%◌, ◌≤◌, ◌<◌}
use native.Mathlib.Numerals.{add-one}
use native.Mathlib.Omega.{arith}
use native.Mathlib.Decide.{dec_le}
use lib.ListN.{length, get_or, set, take, drop, length-map, length-drop}
use lib.Seq.{length-take-le, take-suc, drop-cons, sets-eq}
use borrow.Author.Tests.{lt-ltb, le-ltb}
use borrow.Author.Rules.{part_to_end}
use borrow.Rule.Slice.PartMut.{mid_of, put_mid}
use Rattle.flags.specs.declared.Flags.{Flags}
use Rattle.form.specs.Table.{◌to◌, Form, In, Escape}
use Rattle.form.specs.Pattern.{pattern}
use Rattle.form.specs.Text.{sequence}
use Rattle.form.proofs.Writers.{Writer, own_rows}
use Rattle.numbers.proofs.Filled.{filled_none, filled-set}
use Rattle.writings.specs.Writing.{refuses, bytes}
use Rattle.writings.specs.Come.{Writes, Onward}
use Rattle.writings.specs.Singled.{Ascii, Single, lows, Singled}
use Rattle.writings.proofs.Given.{not_surrogate, not_refused, bytes-escape, bytes-other}
use Rattle.writings.proofs.Writes.{writes-none, writes_one, writes-trans}
use Rattle.writings.proofs.Come.{put_lent, onward-more}

-- ---- the pattern of a code

pub pattern-one : (c : ℕ) → c < 0x80 → pattern c ≡ c ∷ []
unfolding pattern
pattern-one c h = rw (lt-ltb c 0x80 h) refl

pub pattern-two : (c : ℕ) → 0x80 ≤ c → c < 0x800 → pattern c ≡ (0xC0 + c / 0x40) ∷ (0x80 + c % 0x40) ∷ []
unfolding pattern
pattern-two c l h = rw (le-ltb c 0x80 l, lt-ltb c 0x800 h) refl

pub pattern-three : (c : ℕ) → 0x800 ≤ c → c < 0x10000 → pattern c ≡ (0xE0 + c / 0x1000) ∷ (0x80 + c / 0x40 % 0x40) ∷ (0x80 + c % 0x40) ∷ []
unfolding pattern
pattern-three c l h = rw (le-ltb c 0x80 (omega arith), le-ltb c 0x800 l, lt-ltb c 0x10000 h) refl

pub pattern_four : (c : ℕ) → 0x10000 ≤ c → pattern c ≡ (0xF0 + c / 0x40000) ∷ (0x80 + c / 0x1000 % 0x40) ∷ (0x80 + c / 0x40 % 0x40) ∷ (0x80 + c % 0x40) ∷ []
unfolding pattern
pattern_four c l = rw (le-ltb c 0x80 (omega arith), le-ltb c 0x800 (omega arith), le-ltb c 0x10000 l) refl

-- ---- stores, one behind another, that are one write of a code's bytes

module _ (d : List ℕ) (n x : ℕ) where
  pub put_two : (z : ℕ) → 0x80 ≤ x → x < 0x800 → n + 2 ≤ length d → z ≡ 0x80 + x % 0x40 → set (set d n (0xC0 + x / 0x40)) (n + 1) z ≡ take n d ++ pattern x ++ drop (n + 2) d
  put_two z l h g e =
      let f : n + 1 ≡ suc n = omega arith in
      rw (f, e, pattern-two x l h) (sets-eq ((0xC0 + x / 0x40) ∷ (0x80 + x % 0x40) ∷ []) d n g)

  pub put_three : (y z : ℕ) → 0x800 ≤ x → x < 0x10000 → n + 3 ≤ length d → y ≡ 0x80 + x / 0x40 % 0x40 → z ≡ 0x80 + x % 0x40
      → set (set (set d n (0xE0 + x / 0x1000)) (n + 1) y) (n + 2) z ≡ take n d ++ pattern x ++ drop (n + 3) d
  put_three y z l h g e i =
      let f : n + 1 ≡ suc n = omega arith in
      let j : n + 2 ≡ suc (suc n) = omega arith in
      rw (f, j, e, i, pattern-three x l h) (sets-eq ((0xE0 + x / 0x1000) ∷ (0x80 + x / 0x40 % 0x40) ∷ (0x80 + x % 0x40) ∷ []) d n g)

  pub put_four : (w y z : ℕ) → 0x10000 ≤ x → n + 4 ≤ length d → w ≡ 0x80 + x / 0x1000 % 0x40 → y ≡ 0x80 + x / 0x40 % 0x40 → z ≡ 0x80 + x % 0x40
      → set (set (set (set d n (0xF0 + x / 0x40000)) (n + 1) w) (n + 2) y) (n + 3) z ≡ take n d ++ pattern x ++ drop (n + 4) d
  put_four w y z l g e i o =
      let f : n + 1 ≡ suc n = omega arith in
      let j : n + 2 ≡ suc (suc n) = omega arith in
      let k : n + 3 ≡ suc (suc (suc n)) = omega arith in
      rw (f, j, k, e, i, o, pattern_four x l) (sets-eq ((0xF0 + x / 0x40000) ∷ (0x80 + x / 0x1000 % 0x40) ∷ (0x80 + x / 0x40 % 0x40) ∷ (0x80 + x % 0x40) ∷ []) d n g)

-- ---- one code

module _ (F : Form) {n : ℕ} (W : Writer F n) (m : Flags) (c : ℕ) (l : List ℕ) where
  is-written : (v : List ℕ) → refuses m c ≡ false → bytes F m c ≡ v → Writes F m (c ∷ l) v 1
  is-written v e b = rw b at (writes_one F m c l e)

  -- up to FFFF, but for the surrogates
  pub writes_short : c < 0x10000 → (In (0xD800 to 0xDFFF) c → ⊥) → Writes F m (c ∷ l) (pattern c) 1
  writes_short h g = is-written (pattern c) (not_surrogate m c (omega arith) g) (bytes-other F m c (λ u. g (omega arith)) ∙ W.low c h)

  -- and above
  pub writes-long : 0xFFFF < c → c ≤ 0x10FFFF → (v : List ℕ) → sequence F c ≡ v → Writes F m (c ∷ l) v 1
  writes-long g h v e = is-written v (not_surrogate m c h (λ u. omega arith)) (bytes-other F m c (λ u. omega arith) ∙ own_rows F c (omega arith) ∙ e)

  pub writes-ascii : Ascii c → Writes F m (c ∷ l) (c % 256 ∷ []) 1
  writes-ascii h =
      let e : c ≡ c % 256 = omega arith in
      let b : pattern c ≡ c % 256 ∷ [] = pattern-one c h ∙ ap (λ (x : ℕ). x ∷ []) e in
      rw b at (writes_short (omega arith) (λ u. omega arith))

  pub writes-escape : m.surro ≡ false → m.strict ≡ false → Escape c → Writes F m (c ∷ l) (c % 256 ∷ []) 1
  writes-escape s t h =
      let e : c - 0xDC00 ≡ c % 256 = omega arith in
      is-written (c % 256 ∷ []) (not_refused m c t (omega arith)) (bytes-escape F m c s h ∙ ap (λ (x : ℕ). x ∷ []) e)

  pub writes-single : m.surro ≡ false → m.strict ≡ false → Single c → Writes F m (c ∷ l) (c % 256 ∷ []) 1
  writes-single s t = ⊎_elim writes-ascii (writes-escape s t)

-- at a place of the codes
pub writes_at : (F : Form) (m : Flags) (l : List ℕ) (at c : ℕ) (v : List ℕ) → at < length l → c ≡ get_or l at 0 → ((t : List ℕ) → Writes F m (c ∷ t) v 1) → Writes F m (drop at l) v 1
writes_at F m l at c v h e w = rw (drop-cons l at 0 h, ← e) (w (drop (suc at) l))

-- ---- codes of one byte each

pub singled-none : (P : ℕ → Type 0) (l d : List ℕ) → Singled P l d d 0
singled-none P l d = record { within = omega arith; each = λ i h. absurd (omega arith); filled = filled_none d }

map-append : (l k : List ℕ) → lows (l ++ k) ≡ lows l ++ lows k
map-append [] k = refl
map-append (c ∷ l) k = ap (λ (x : List ℕ). c % 256 ∷ x) (map-append l k)

pub lows-length : (n : ℕ) (l : List ℕ) → n ≤ length l → length (lows (take n l)) ≡ n
lows-length n l h = length-map (take n l) (λ c. c % 256) ∙ length-take-le n l h

module _ {P : ℕ → Type 0} {l d₀ d : List ℕ} {n : ℕ} (s : Singled P l d₀ d n) where
  pub singled-next : (c k : ℕ) → k ≡ n + 1 → n < length l → n < length d₀ → c ≡ get_or l n 0 → P c → Singled P l d₀ (set d n (c % 256)) k
  singled-next c k e h g p q =
      let t : lows (take k l) ≡ lows (take n l) ++ c % 256 ∷ [] =
      ap (λ (i : ℕ). lows (take i l)) (e ∙ add-one n) ∙ ap lows (take-suc l n 0 h) ∙ map-append (take n l) (get_or l n 0 ∷ []) ∙ ap (λ (x : ℕ). lows (take n l) ++ x % 256 ∷ []) (sym p)
      in
      record {
        within = omega arith;
        each = λ i u. go i u (dec_le (suc i) n);
        filled = rw t (filled-set d₀ d (lows (take n l)) s.filled n (lows-length n l s.within) (c % 256) g);
      }
    where
      go : (i : ℕ) → i < k → Dec (suc i ≤ n) → P (get_or l i 0)
      go i u (yes w) = s.each i (omega arith)
      go i u (no w) = let z : i ≡ n = omega arith in rw (z, ← p) q

module _ (F : Form) (m : Flags) (P : ℕ → Type 0) (one : (c : ℕ) (l : List ℕ) → P c → Writes F m (c ∷ l) (c % 256 ∷ []) 1) where
  writes-lows : (n : ℕ) (l : List ℕ) → n ≤ length l → ((i : ℕ) → i < n → P (get_or l i 0)) → Writes F m l (lows (take n l)) n
  writes-lows zero l h p = writes-none F m l
  writes-lows (suc n) [] h p = absurd (omega arith)
  writes-lows (suc n) (c ∷ l) h p =
      let e : 1 + n ≡ suc n = omega arith in
      rw e at (writes-trans F m (one c l (p 0 (omega arith))) (writes-lows n l (omega arith) (λ i u. p (suc i) (omega arith))))

  -- a lent part of the buffer, `&mut d[n..]`, for the codes that are left
  pub onward-run : {l d₀ d : List ℕ} {at₀ n₀ at n : ℕ} → Onward F m l d₀ d at₀ n₀ at n → n ≤ length d → (t p : List ℕ) (k : ℕ) → t ≡ drop at l
      → Singled P t (mid_of n (length d - n) d) p k → Onward F m l d₀ (put_mid n (length d - n) d p) at₀ n₀ (at + k) (n + k)
  onward-run {l} {d₀} {d} {at₀} {n₀} {at} {n} o h t p k e s =
      let v = lows (take k t) in
      let q : length v ≡ k = lows-length k t s.within in
      let f : n + length v ≤ length d = omega (arith, s.filled.fits, ap length (part_to_end d n), length-drop n d) in
      rw q at (onward-more o (subst (λ (x : List ℕ). Writes F m x v k) e (writes-lows k t s.within s.each)) (put_lent d n v p f s.filled.front))
