-- What a leap keeps from code to code. Assumes nothing.
use mathlib.Core.Path.{◌≡◌, refl, sym, ap, ◌∙◌}
use mathlib.Core.List.{List, [], ◌∷◌, ◌++◌}
use Prim.Native.Nat.{ℕ, suc, ◌+◌, ◌-◌, ◌%◌, ◌≤◌, ◌<◌, min}
use native.Mathlib.Omega.{arith}
use lib.ListN.{length, get_or, take, drop, set, length-drop}
use lib.Seq.{set_split, append_snoc}
use borrow.Author.Rules.{part_to_end}
use borrow.Rule.Slice.PartMut.{mid_of, put_mid}
use Rattle.flags.specs.declared.Flags.{Flags}
use Rattle.form.specs.Table.{◌to◌, Form, In}
use Rattle.form.specs.Pattern.{pattern}
use Rattle.form.specs.Text.{sequence}
use Rattle.form.proofs.Writers.{Writer}
use Rattle.numbers.proofs.Filled.{filled-same}
use Rattle.writings.specs.Come.{Writes, Onward}
use Rattle.writings.specs.Singled.{lows, Singled}
use Rattle.writings.proofs.Come.{onward-start, onward-more}
use Rattle.writings.proofs.Leaps.{writes_short, writes-long, writes_at, singled-none, singled-next, lows-length, onward-run}

-- ---- over codes of one byte each

-- n codes of l are passed, and `end` is as many as there are codes and room for
pub record Run (P : ℕ → Type 0) (l d₀ d : List ℕ) (end n : ℕ) : Type 0 where
  pub singled : Singled P l d₀ d n
  pub within : n ≤ end
  pub bound : end ≡ min (length l) (length d₀)

pub run-start : (P : ℕ → Type 0) (l d : List ℕ) (end : ℕ) → end ≡ min (length l) (length d) → Run P l d d end 0
run-start P l d end e = record { singled = singled-none P l d; within = omega arith; bound = e }

module _ {P : ℕ → Type 0} {l d₀ d : List ℕ} {end n : ℕ} (r : Run P l d₀ d end n) where
  pub run-same : length d ≡ length d₀
  run-same = filled-same d₀ d (lows (take n l)) r.singled.filled

  -- a code is left, and room for its byte
  pub run-some : n < end → (n < length l) × (n < length d)
  run-some h = (omega (arith, r.bound), omega (arith, r.bound, run-same))

  -- four codes
  pub run-four : 4 ≤ end - n → (n + 4 ≤ length l) × (n + 4 ≤ length d)
  run-four h = (omega (arith, r.bound, r.within), omega (arith, r.bound, r.within, run-same))

  pub run-next : (c x k : ℕ) → k ≡ n + 1 → n < end → c ≡ get_or l n 0 → P c → x ≡ c % 256 → Run P l d₀ (set d n x) end k
  run-next c x k e h p q z =
      record {
        singled = rw z (singled-next r.singled c k e (omega (arith, r.bound)) (omega (arith, r.bound)) p q);
        within = omega arith;
        bound = r.bound;
      }

-- ---- over any codes

-- the leap has come to a place within the buffer
pub record Leaping (F : Form) (m : Flags) (l d₀ d : List ℕ) (at₀ n₀ at n : ℕ) : Type 0 where
  pub onward : Onward F m l d₀ d at₀ n₀ at n
  pub room : n ≤ length d

pub leaping_start : (F : Form) (m : Flags) (l d : List ℕ) (at n : ℕ) → n ≤ length d → Leaping F m l d d at n at n
leaping_start F m l d at n h = record { onward = onward-start F m l d at n; room = h }

module _ {F : Form} {m : Flags} {l d₀ d : List ℕ} {at₀ n₀ at n : ℕ} (r : Leaping F m l d₀ d at₀ n₀ at n) where
  -- at a code
  module _ (c : ℕ) (h : at < length l) (e : c ≡ get_or l at 0) where
    -- whose bytes v are put
    leaping-put : (v d' : List ℕ) (k : ℕ) → ((t : List ℕ) → Writes F m (c ∷ t) v 1) → length v ≡ k → n + k ≤ length d → d' ≡ take n d ++ v ++ drop (n + k) d
        → Leaping F m l d₀ d' at₀ n₀ (at + 1) (n + k)
    leaping-put v d' k w q g z =
        let y = writes_at F m l at c v h e w in
        let o = onward-more r.onward y (record { fits = omega arith; is = z ∙ ap (λ (i : ℕ). take n d ++ v ++ drop (n + i) d) (sym q) }) in
        record { onward = rw q at o; room = omega (arith, o.same, r.onward.same) }

    -- of one byte
    pub leaping-one : (x : ℕ) → x ≡ c % 256 → ((t : List ℕ) → Writes F m (c ∷ t) (c % 256 ∷ []) 1) → n < length d → Leaping F m l d₀ (set d n x) at₀ n₀ (at + 1) (n + 1)
    leaping-one x z w g =
        let y : n + 1 ≡ suc n = omega arith in
        leaping-put (c % 256 ∷ []) (set d n x) 1 w refl (omega arith) (rw (z, y) (set_split d n (c % 256) g ∙ sym (append_snoc (take n d) (c % 256) (drop (suc n) d))))

    module _ {j : ℕ} (W : Writer F j) where
      -- up to FFFF, but for the surrogates
      pub leaping-short : (d' : List ℕ) (k : ℕ) → c < 0x10000 → (In (0xD800 to 0xDFFF) c → ⊥) → length (pattern c) ≡ k → n + k ≤ length d → d' ≡ take n d ++ pattern c ++ drop (n + k) d
          → Leaping F m l d₀ d' at₀ n₀ (at + 1) (n + k)
      leaping-short d' k p g = leaping-put (pattern c) d' k (λ t. writes_short F W m c t p g)

      -- and above
      pub leaping-long : (d' v : List ℕ) (k : ℕ) → 0xFFFF < c → c ≤ 0x10FFFF → sequence F c ≡ v → length v ≡ k → n + k ≤ length d → d' ≡ take n d ++ v ++ drop (n + k) d
          → Leaping F m l d₀ d' at₀ n₀ (at + 1) (n + k)
      leaping-long d' v k p g z = leaping-put v d' k (λ t. writes-long F W m c t p g v z)

  -- over a run of codes of one byte each: by what it is lent, the codes t and `&mut d[n..]`
  module _ (P : ℕ → Type 0) (t p : List ℕ) (k : ℕ) (h : at ≤ length l) (e : t ≡ drop at l) (q : Singled P t (mid_of n (length d - n) d) p k) where
    pub leapt-within : (at + k ≤ length l) × (n + k ≤ length d)
    leapt-within = (
      omega (arith, q.within, ap length e, length-drop at l),
      omega (arith, q.filled.fits, lows-length k t q.within, ap length (part_to_end d n), length-drop n d, r.room),
    )

    pub leaping-run : ((c : ℕ) (t : List ℕ) → P c → Writes F m (c ∷ t) (c % 256 ∷ []) 1) → Leaping F m l d₀ (put_mid n (length d - n) d p) at₀ n₀ (at + k) (n + k)
    leaping-run one =
        let o = onward-run F m P one r.onward r.room t p k e q in
        record { onward = o; room = omega (arith, o.same, r.onward.same, leapt-within.1) }
