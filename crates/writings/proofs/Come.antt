-- The writer comes on from place to place, by bytes that are put and by lent parts of its buffers. Assumes nothing.
use mathlib.Core.Path.{◌≡◌, refl, sym, ap, ◌∙◌}
use mathlib.Core.List.{List, [], ◌++◌, append-nil, append_assoc}
use Prim.Native.Nat.{ℕ, ◌+◌, ◌-◌, ◌≤◌}
use native.Mathlib.Nat.{add-zero}
use native.Mathlib.Omega.{arith}
use lib.ListN.{length, take, drop, length-append, length-drop, take-append-drop}
use lib.Seq.{drop-drop, drop-length, length-take-le}
use borrow.Author.Rules.{part_to_end}
use borrow.Rule.Slice.PartMut.{mid_of, put_mid, Post-is}
use Rattle.flags.specs.declared.Flags.{Flags}
use Rattle.form.specs.Table.{Form}
use Rattle.numbers.specs.Number.{over}
use Rattle.numbers.proofs.Filled.{filled_none, filled-same, filled_put}
use Rattle.writings.specs.Writing.{Writing, stopped, writing}
use Rattle.writings.specs.Come.{follow, Writes, Come, Onward}
use Rattle.writings.proofs.Writes.{writes-none, writes-trans, writes-stretch, ended-before}

-- ---- bytes in a buffer

-- the bytes v from place n on
pub record Put (d : List ℕ) (n : ℕ) (v d' : List ℕ) : Type 0 where
  pub fits : n + length v ≤ length d
  pub is : d' ≡ take n d ++ v ++ drop (n + length v) d

pub put_same : {d : List ℕ} {n : ℕ} {v d' : List ℕ} → Put d n v d' → length d' ≡ length d
put_same {d} {n} {v} p =
    ap length p.is ∙ length-append (take n d ++ v) (drop (n + length v) d)
    ∙ omega (arith, p.fits, length-append (take n d) v, length-take-le n d (omega (arith, p.fits)), length-drop (n + length v) d)

-- at the front of a lent part, `&mut d[n..]`
pub put_lent : (d : List ℕ) (n : ℕ) (v p : List ℕ) → n + length v ≤ length d → p ≡ over v (mid_of n (length d - n) d) → Put d n v (put_mid n (length d - n) d p)
put_lent d n v p h e =
    let q : p ≡ v ++ drop (n + length v) d = e ∙ ap (over v) (part_to_end d n) ∙ ap (λ (x : List ℕ). v ++ x) (drop-drop (length v) n d) in
    let b : put_mid n (length d - n) d p ≡ take n d ++ p = rw (Post-is n (length d) d (omega arith), drop-length, append-nil) refl in
    record { fits = h; is = b ∙ rw q (sym (append_assoc (take n d) v (drop (n + length v) d))) }

-- ---- the place that is reached

pub come_start : (F : Form) (m : Flags) (l d : List ℕ) → Come F m l d d 0 0
come_start F m l d = record { bytes = []; count = refl; writes = writes-none F m l; filled = filled_none d }

-- the numbers and the buffer that a writing gives
pub record Ended (W : Writing) (d₀ d : List ℕ) (q at n : ℕ) : Type 0 where
  pub number : W.number ≡ q
  pub consumed : W.consumed ≡ at
  pub produced : length W.written ≡ n
  pub output : d ≡ over W.written d₀

module _ {F : Form} {m : Flags} {l d₀ d : List ℕ} {at n : ℕ} (r : Come F m l d₀ d at n) where
  pub come_same : length d ≡ length d₀
  come_same = filled-same d₀ d r.bytes r.filled

  pub come_within : (at ≤ length l) × (n ≤ length d)
  come_within = (r.writes.within, omega (arith, r.count, r.filled.fits, come_same))

  -- the bytes v of the next k codes are put behind the others
  pub come_more : {v d' : List ℕ} {k : ℕ} → Writes F m (drop at l) v k → Put d n v d' → Come F m l d₀ d' (at + k) (n + length v)
  come_more {v} {d'} w p =
      record {
        bytes = r.bytes ++ v;
        count = length-append r.bytes v ∙ ap (λ (j : ℕ). j + length v) r.count;
        writes = writes-trans F m r.writes w;
        filled = filled_put d₀ d r.bytes r.filled n r.count v d' (omega (arith, come_same, p.fits)) p.is;
      }

  -- the writing that is left
  come_rest : writing F m (length d₀) l ≡ follow r.bytes at (writing F m (length d - n) (drop at l))
  come_rest =
      let e : length d₀ ≡ length r.bytes + (length d - n) = omega (arith, r.count, r.filled.fits, come_same) in
      ap (λ (x : ℕ). writing F m x l) e ∙ r.writes.goes_on (length d - n)

  -- no codes are left
  pub come_ended : at ≡ length l → Ended (writing F m (length d₀) l) d₀ d 0 at n
  unfolding follow stopped
  come_ended e =
      let u : writing F m (length d - n) (drop at l) ≡ stopped 0 = rw (e, drop-length l) refl in
      rw (come_rest ∙ ap (follow r.bytes at) u)
      (record { number = refl; consumed = add-zero at; produced = rw (append-nil r.bytes) r.count; output = rw (append-nil r.bytes) r.filled.front })

  -- ---- a call for a stretch of the codes that are left, of one or more

  module _ (j : ℕ) (d' : List ℕ) (p : Put d n (writing F m (length d - n) (take j (drop at l))).written d') where
    abbrev W : Writing
    W = writing F m (length d - n) (take j (drop at l))

    -- it stopped before the end of them
    pub call_ends : (W.number ≡ 0 → ⊥) → Ended (writing F m (length d₀) l) d₀ d' W.number (at + W.consumed) (n + length W.written)
    unfolding follow
    call_ends z =
        let u : writing F m (length d - n) (drop at l) ≡ W =
        ap (writing F m (length d - n)) (sym (take-append-drop j (drop at l))) ∙ ended-before F m (drop j (drop at l)) (take j (drop at l)) (length d - n) z
        in
        let f = filled_put d₀ d r.bytes r.filled n r.count W.written d' (omega (arith, come_same, p.fits)) p.is in
        rw (come_rest ∙ ap (follow r.bytes at) u)
        (record {
          number = refl;
          consumed = refl;
          produced = length-append r.bytes W.written ∙ ap (λ (k : ℕ). k + length W.written) r.count;
          output = f.front;
        })

    -- it wrote all of them
    pub call_goes_on : W.number ≡ 0 → Come F m l d₀ d' (at + W.consumed) (n + length W.written)
    call_goes_on z =
        come_more
        (rw (take-append-drop j (drop at l)) at (writes-stretch F m (drop j (drop at l)) (take j (drop at l)) (length d - n) z))
        p

-- ---- from one place to another

pub onward-start : (F : Form) (m : Flags) (l d : List ℕ) (at n : ℕ) → Onward F m l d d at n at n
onward-start F m l d at n = record { codes_forth = omega arith; bytes_forth = omega arith; same = refl; keeps = λ z r. r }

pub onward-more : {F : Form} {m : Flags} {l d₀ d : List ℕ} {at₀ n₀ at n : ℕ} → Onward F m l d₀ d at₀ n₀ at n → {v d' : List ℕ} {k : ℕ} → Writes F m (drop at l) v k
    → Put d n v d' → Onward F m l d₀ d' at₀ n₀ (at + k) (n + length v)
onward-more o w p =
    record {
      codes_forth = omega (arith, o.codes_forth);
      bytes_forth = omega (arith, o.bytes_forth);
      same = put_same p ∙ o.same;
      keeps = λ z r. come_more (o.keeps z r) w p;
    }
