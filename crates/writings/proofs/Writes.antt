-- The first codes are written, and the writer goes on behind them. Assumes nothing.
use mathlib.Core.Path.{◌≡◌, refl, sym, ap, ◌∙◌}
use mathlib.Core.Bool.{false}
use mathlib.Core.List.{List, [], ◌∷◌, ◌++◌}
use Prim.Native.Nat.{ℕ, suc, ◌+◌, ◌-◌}
use native.Mathlib.Nat.{zero-add}
use native.Mathlib.Omega.{arith}
use lib.ListN.{length, drop, length-append, length-drop}
use lib.Seq.{drop-drop}
use Rattle.flags.specs.declared.Flags.{Flags}
use Rattle.form.specs.Table.{Form}
use Rattle.writings.specs.Writing.{refuses, bytes, stopped, after, writing}
use Rattle.writings.specs.Come.{follow, Writes}
use Rattle.writings.proofs.Turns.{writing-refused, writing-full, writing-on, after_one, after-follow, follow-follow, follow-none, each-writing}
use Rattle.writings.proofs.Theorems.{writing-within}

module _ (F : Form) (m : Flags) where
  pub writes-none : (l : List ℕ) → Writes F m l [] 0
  writes-none l = record { within = omega arith; goes_on = λ room. rw (zero-add room) (sym (follow-none (writing F m room l))) }

  -- a code that is not refused
  pub writes_one : (c : ℕ) (l : List ℕ) → refuses m c ≡ false → Writes F m (c ∷ l) (bytes F m c) 1
  writes_one c l e =
      record {
        within = omega arith;
        goes_on =
            λ room.
            let v = bytes F m c in
            let k : length v + room - length v ≡ room = omega arith in
            writing-on F m (length v + room) c l e (omega arith) ∙ ap (λ (x : ℕ). after v (writing F m x l)) k ∙ after_one v (writing F m room l);
      }

  pub writes-trans : {l v w : List ℕ} {k j : ℕ} → Writes F m l v k → Writes F m (drop k l) w j → Writes F m l (v ++ w) (k + j)
  writes-trans {l} {v} {w} {k} {j} a b =
      record {
        within = omega (arith, a.within, b.within, length-drop k l);
        goes_on =
            λ room.
            let e : length (v ++ w) + room ≡ length v + (length w + room) = omega (arith, length-append v w) in
            ap (λ (x : ℕ). writing F m x l) e
            ∙ a.goes_on (length w + room)
            ∙ ap (follow v k) (b.goes_on room)
            ∙ follow-follow v w k j (writing F m room (drop j (drop k l)))
            ∙ ap (λ (x : List ℕ). follow (v ++ w) (k + j) (writing F m room x)) (drop-drop j k l);
      }

  -- what a call writes
  resumed : (b : ℕ) (l : List ℕ) (a : ℕ)
      → writing F m (length (writing F m a l).written + b) l
      ≡ follow (writing F m a l).written (writing F m a l).consumed (writing F m b (drop (writing F m a l).consumed l))
  unfolding stopped after
  resumed b =
      each-writing F m
      (λ a l W. writing F m (length W.written + b) l ≡ follow W.written W.consumed (writing F m b (drop W.consumed l)))
      (λ a. (writes-none []).goes_on b)
      (λ a c l e. (writes-none (c ∷ l)).goes_on b)
      (λ a c l e h. (writes-none (c ∷ l)).goes_on b)
      (λ a c l W e h ih.
      let v = bytes F m c in
      let n = length-append v W.written in
      let k : length (v ++ W.written) + b - length v ≡ length W.written + b = omega arith in
      writing-on F m (length (v ++ W.written) + b) c l e (omega arith)
      ∙ ap (λ (x : ℕ). after v (writing F m x l)) k
      ∙ ap (after v) ih
      ∙ after-follow v W.written W.consumed (writing F m b (drop W.consumed l)))

  pub writes-writing : (l : List ℕ) (a : ℕ) → Writes F m l (writing F m a l).written (writing F m a l).consumed
  writes-writing l a = record { within = (writing-within F m l a).1; goes_on = λ b. resumed b l a }

  -- what a call writes of codes to their end, where others come after them
  pub writes-stretch : (k l : List ℕ) (a : ℕ) → (writing F m a l).number ≡ 0 → Writes F m (l ++ k) (writing F m a l).written (writing F m a l).consumed
  unfolding stopped after
  writes-stretch k =
      each-writing F m (λ a l W. W.number ≡ 0 → Writes F m (l ++ k) W.written W.consumed) (λ a z. writes-none k) (λ a c l e z. absurd (omega arith))
      (λ a c l e h z. absurd (omega arith))
      (λ a c l W e h ih z. let n : 1 + W.consumed ≡ suc W.consumed = omega arith in rw n at (writes-trans (writes_one c (l ++ k) e) (ih z)))

  -- and where they are not written to their end, no code after them is looked at
  pub ended-before : (k l : List ℕ) (room : ℕ) → ((writing F m room l).number ≡ 0 → ⊥) → writing F m room (l ++ k) ≡ writing F m room l
  unfolding stopped after
  ended-before k =
      each-writing F m (λ room l W. (W.number ≡ 0 → ⊥) → writing F m room (l ++ k) ≡ W) (λ room n. absurd (n refl))
      (λ room c l e n. writing-refused F m room c (l ++ k) e)
      (λ room c l e h n. writing-full F m room c (l ++ k) e h)
      (λ room c l W e h ih n. writing-on F m room c (l ++ k) e h ∙ ap (after (bytes F m c)) (ih n))
