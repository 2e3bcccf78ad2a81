-- The writer called for the next code alone, into what is left of the buffer. Assumes nothing.
use mathlib.Core.Path.{◌≡◌, refl, sym, ap, ◌∙◌, subst}
use mathlib.Core.List.{List, ◌++◌}
use Prim.Native.Nat.{ℕ, ◌+◌, ◌-◌, ◌≤◌, ◌<◌}
use native.Mathlib.Omega.{arith}
use lib.ListN.{length, take, drop, length-take, length-drop}
use borrow.Author.Rules.{part_to_end}
use borrow.Rule.Slice.PartMut.{mid_of, put_mid}
use Rattle.flags.specs.declared.Flags.{Flags}
use Rattle.form.specs.Table.{Form}
use Rattle.numbers.specs.Number.{over}
use Rattle.writings.specs.Writing.{Writing, writing}
use Rattle.writings.specs.Come.{Come}
use Rattle.writings.proofs.Theorems.{writing-within, writing-used-up}
use Rattle.writings.proofs.Come.{Put, put_same, put_lent, Ended, come_same, come_within, call_ends, call_goes_on}
use Rattle.writer.specs.declared.Encoded.{Encoded}
use Rattle.writer.specs.Encoded.{encoded_of}

-- what holds where the call answers q: the end of the writing, or the next place
pub record Called (F : Form) (m : Flags) (l d₀ d : List ℕ) (at n : ℕ) (q : Encoded) : Type 0 where
  pub place : at + q.consumed ≤ length l
  pub room : n + q.produced ≤ length d
  pub same : length d ≡ length d₀
  pub ends : (q.number ≡ 0 → ⊥) → Ended (writing F m (length d₀) l) d₀ d q.number (at + q.consumed) (n + q.produced)
  pub goes_on : q.number ≡ 0 → Come F m l d₀ d (at + q.consumed) (n + q.produced)
  pub forth : q.number ≡ 0 → at < at + q.consumed

module _ {F : Form} {m : Flags} {l d₀ d : List ℕ} {at n : ℕ} (r : Come F m l d₀ d at n) (h : at < length l) where
  abbrev W : Writing
  W = writing F m (length d - n) (take 1 (drop at l))

  one : length (take 1 (drop at l)) ≡ 1
  one = omega (arith, length-take 1 (drop at l), length-drop at l)

  by_put : (d' : List ℕ) → Put d n W.written d' → Called F m l d₀ d' at n (encoded_of W)
  unfolding encoded_of
  by_put d' p =
      record {
        place = omega (arith, (writing-within F m (take 1 (drop at l)) (length d - n)).1, one);
        room = omega (arith, p.fits, put_same p);
        same = put_same p ∙ come_same r;
        ends = call_ends r 1 d' p;
        goes_on = call_goes_on r 1 d' p;
        forth = λ z. omega (arith, writing-used-up F m (take 1 (drop at l)) (length d - n) z, one);
      }

  -- by what the call is lent: the codes t, and `&mut d[n..]`
  pub called : (t : List ℕ) → t ≡ take 1 (drop at l) → (q : Encoded) (p : List ℕ)
      → (q ≡ encoded_of (writing F m (length (mid_of n (length d - n) d)) t)) × (p ≡ over (writing F m (length (mid_of n (length d - n) d)) t).written (mid_of n (length d - n) d))
      → Called F m l d₀ (put_mid n (length d - n) d p) at n q
  called t e q p (a, o) =
      let k : length (mid_of n (length d - n) d) ≡ length d - n = ap length (part_to_end d n) ∙ length-drop n d in
      let u : writing F m (length (mid_of n (length d - n) d)) t ≡ W = rw (k, e) refl in
      let f : n + length W.written ≤ length d = omega (arith, (writing-within F m (take 1 (drop at l)) (length d - n)).0, (come_within r).1) in
      let s = put_lent d n W.written p f (o ∙ ap (λ (X : Writing). over X.written (mid_of n (length d - n) d)) u) in
      subst (Called F m l d₀ (put_mid n (length d - n) d p) at n) (sym (a ∙ ap encoded_of u)) (by_put (put_mid n (length d - n) d p) s)

-- ---- the answer

pub over-written : (W : Writing) (d : List ℕ) (q : Encoded) (p : List ℕ) → (q ≡ encoded_of W) × (p ≡ W.written ++ drop q.produced d)
    → (q ≡ encoded_of W) × (p ≡ over W.written d)
unfolding encoded_of
over-written W d q p (a, o) = (a, o ∙ ap (λ (x : Encoded). W.written ++ drop x.produced d) a)

pub ended-answer : {W : Writing} {d₀ d : List ℕ} {q at n : ℕ} → Ended W d₀ d q at n → record { number = q; consumed = at; produced = n } ≡ encoded_of W
unfolding encoded_of
ended-answer e = rw (← e.number, ← e.consumed, ← e.produced) refl
