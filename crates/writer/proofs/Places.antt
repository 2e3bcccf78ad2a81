-- What the writer's loop keeps from code to code, and what it has answered at each way to stop. Assumes nothing.
use mathlib.Core.Path.{◌≡◌, refl, sym, ap, ◌∙◌}
use mathlib.Core.List.{List, ◌∷◌, ◌++◌, append-nil}
use Prim.Native.Nat.{ℕ, ◌+◌, ◌-◌, ◌≤◌, ◌<◌}
use native.Mathlib.Numerals.{add-one}
use native.Mathlib.Nat.{zero-add, add-zero, sub-zero}
use native.Mathlib.Omega.{arith}
use lib.ListN.{length, get_or, take, drop, take-append-drop}
use lib.Seq.{paste, length-paste, take-paste, drop-paste, drop-drop, drop-cons, drop-length, length-take-le}
use Rattle.flags.specs.declared.Flags.{Flags}
use Rattle.form.specs.Table.{Form}
use Rattle.form.proofs.Writers.{Writer}
use Rattle.sequence.specs.declared.Coded.{Coded}
use Rattle.writer.specs.declared.Encoded.{Encoded}
use Rattle.sequence.specs.Leaf.{coded_of}
use Rattle.writings.specs.Writing.{bytes, Writing, stopped, after, writing}
use Rattle.writer.specs.Encoded.{encoded_of}
use Rattle.writings.proofs.Given.{given}
use Rattle.writer.proofs.Offered.{Offered, none-refused, some-offered}
use Rattle.writings.specs.Come.{follow}
use Rattle.writings.proofs.Turns.{writing-refused, writing-full, writing-on, follow-after}

-- ---- the loop has come to a place: `at` codes are consumed, and their n bytes stand at the front of the buffer d
pub record Reached (F : Form) (m : Flags) (l d₀ d : List ℕ) (at n : ℕ) : Type 0 where
  pub place : at ≤ length l
  pub room : n ≤ length d₀
  pub same : length d ≡ length d₀
  pub tail : drop n d ≡ drop n d₀
  pub whole : writing F m (length d₀) l ≡ follow (take n d) at (writing F m (length d₀ - n) (drop at l))

pub reached-start : (F : Form) (m : Flags) (l d : List ℕ) → Reached F m l d d 0 0
unfolding follow
reached-start F m l d =
    let W = writing F m (length d) l in
    record { place = omega arith; room = omega arith; same = refl; tail = refl; whole = rw (sub-zero (length d), zero-add W.consumed) refl }

module _ {F : Form} {m : Flags} {l d₀ d : List ℕ} {at n : ℕ} (r : Reached F m l d₀ d at n) where
  -- at the end of the codes
  pub reached_end : at ≡ length l → writing F m (length d₀ - n) (drop at l) ≡ stopped 0
  reached_end e = rw (e, drop-length l) refl

  module _ (six : Writer F 6) (w : Coded) (h : at < length l) (e : w ≡ coded_of (given F m (get_or l at 0))) where
    here : drop at l ≡ get_or l at 0 ∷ drop (at + 1) l
    here = rw (add-one at) (drop-cons l at 0 h)

    -- at a code that is refused
    pub reached-refused : w.count ≡ 0 → writing F m (length d₀ - n) (drop at l) ≡ stopped 3
    reached-refused z = rw here (writing-refused F m (length d₀ - n) (get_or l at 0) (drop (at + 1) l) (none-refused F six m (get_or l at 0) w e z))

    -- at a code with more bytes than there is room for
    pub reached-full : (w.count ≡ 0 → ⊥) → length d - n < w.count → writing F m (length d₀ - n) (drop at l) ≡ stopped 1
    reached-full z f =
        let o = some-offered F six m (get_or l at 0) w e z in
        rw here (writing-full F m (length d₀ - n) (get_or l at 0) (drop (at + 1) l) o.accepted (omega (arith, o.count, r.same)))

    -- past a code that is written
    pub reached-next : (w.count ≡ 0 → ⊥) → w.count ≤ length d - n → Reached F m l d₀ (paste d n w.bytes w.count) (at + 1) (n + w.count)
    reached-next z f =
        record {
          place = omega arith;
          room = omega (arith, r.same, r.room);
          same = length-paste d n w.bytes w.count (omega (arith, r.same, r.room)) o.enough ∙ r.same;
          tail =
              drop-paste d n w.bytes w.count (omega (arith, r.same, r.room)) o.enough
              ∙ sym (drop-drop w.count n d)
              ∙ ap (drop w.count) r.tail
              ∙ drop-drop w.count n d₀;
          whole = r.whole ∙ ap (follow (take n d) at) on ∙ follow-after (take n d) v at rest ∙ ap (λ (x : List ℕ). follow x (at + 1) rest) front;
        }
      where
        c : ℕ
        c = get_or l at 0

        v : List ℕ
        v = bytes F m c

        o : Offered F m c w
        o = some-offered F six m c w e z

        rest : Writing
        rest = writing F m (length d₀ - (n + w.count)) (drop (at + 1) l)

        on : writing F m (length d₀ - n) (drop at l) ≡ after v rest
        on =
            let k : length d₀ - n - length v ≡ length d₀ - (n + w.count) = omega (arith, o.count) in
            rw here
            (writing-on F m (length d₀ - n) c (drop (at + 1) l) o.accepted (omega (arith, o.count, r.same))
            ∙ ap (λ (x : ℕ). after v (writing F m x (drop (at + 1) l))) k)

        front : take n d ++ v ≡ take (n + w.count) (paste d n w.bytes w.count)
        front = sym (take-paste d n w.bytes w.count (omega (arith, r.same, r.room)) o.enough ∙ ap (λ (x : List ℕ). take n d ++ x) o.front)

-- ---- the answer and the buffer, as promised

abbrev pub Answered : Writing → List ℕ → List ℕ → Encoded → Type 0
Answered W d₀ d r = (r ≡ encoded_of W) × (d ≡ W.written ++ drop r.produced d₀)

-- where the writing stops with the number q at the place that the loop has come to
pub answered : {F : Form} {m : Flags} {l d₀ d : List ℕ} {at n : ℕ} (q : ℕ) → (r : Reached F m l d₀ d at n)
    → writing F m (length d₀ - n) (drop at l) ≡ stopped q → Answered (writing F m (length d₀) l) d₀ d (record { number = q; consumed = at; produced = n })
unfolding encoded_of follow stopped
answered {F} {m} {l} {d₀} {d} {at} {n} q r e =
    rw (r.whole ∙ ap (follow (take n d) at) e, append-nil, length-take-le n d (omega (arith, r.same, r.room)), add-zero, ← r.tail)
    (refl, sym (take-append-drop n d))
