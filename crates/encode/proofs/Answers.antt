-- The writer's answer in a coding, where its flags are refused and where the writing has ended, and its call for one code. Assumes nothing.
use mathlib.Core.Path.{◌≡◌, refl, sym, ap, ◌∙◌}
use mathlib.Core.Bool.{true, false}
use mathlib.Core.List.{List, [], ◌∷◌, ◌++◌}
use Prim.Native.Nat.{ℕ, ◌-◌, ◌<◌}
use lib.ListN.{length, get_or, take, drop}
use lib.Seq.{drop-cons}
use borrow.Rule.Slice.PartMut.{mid_of, put_mid}
use Rattle.flags.specs.declared.Flags.{Flags}
use Rattle.flags.specs.Number.{flags_of}
use Rattle.form.specs.Table.{Form}
use Rattle.codings.specs.declared.Coding.{Coding}
use Rattle.codings.specs.Codings.{writer_form, writer_refuses_in}
use Rattle.numbers.specs.Number.{over}
use Rattle.writings.specs.Writing.{stopped, writing, encoding_in}
use Rattle.writings.proofs.Turns.{refused-is, accepted-is}
use Rattle.writings.specs.Come.{Come}
use Rattle.writings.proofs.Come.{Ended}
use Rattle.writer.specs.declared.Encoded.{Encoded}
use Rattle.writer.specs.Encoded.{encoded_of}
use Rattle.writer.proofs.Calls.{Called, called, over-written, ended-answer}

-- the answer q, and the buffer
abbrev pub Answers : Coding → ℕ → List ℕ → List ℕ → List ℕ → Encoded → Type 0
Answers K f l d₀ d q = (q ≡ encoded_of (encoding_in K f (length d₀) l)) × (d ≡ over (encoding_in K f (length d₀) l).written d₀)

pub refused : (K : Coding) (f : ℕ) (l d : List ℕ) → writer_refuses_in K f ≡ true → Answers K f l d d (record { number = 4; consumed = 0; produced = 0 })
unfolding encoded_of stopped
refused K f l d e = rw (refused-is K f (length d) l e) (refl, refl)

module _ (K : Coding) (f : ℕ) (F : Form) (m : Flags) (a : writer_refuses_in K f ≡ false) (e : F ≡ writer_form K) (g : m ≡ flags_of f) where
  -- the form is the coding's, and the flags are those of the number
  is-encoding : (room : ℕ) (l : List ℕ) → writing F m room l ≡ encoding_in K f room l
  is-encoding room l = rw (e, g) (sym (accepted-is K f room l a))

  pub answers : (l : List ℕ) {d₀ d : List ℕ} {q at n : ℕ} → Ended (writing F m (length d₀) l) d₀ d q at n → Answers K f l d₀ d (record { number = q; consumed = at; produced = n })
  answers l {d₀} r = rw (← is-encoding (length d₀) l) (ended-answer r, r.output)

-- by the bytes produced
pub by-produced : (K : Coding) (f : ℕ) (l d₀ d : List ℕ) (q : Encoded) → Answers K f l d₀ d q
    → (q ≡ encoded_of (encoding_in K f (length d₀) l)) × (d ≡ (encoding_in K f (length d₀) l).written ++ drop q.produced d₀)
unfolding encoded_of
by-produced K f l d₀ d q (a, o) = (a, o ∙ ap (λ (x : Encoded). (encoding_in K f (length d₀) l).written ++ drop x.produced d₀) (sym a))

-- a code by itself
pub one_taken : (l : List ℕ) (at : ℕ) → at < length l → (c : ℕ) → c ≡ get_or l at 0 → c ∷ [] ≡ take 1 (drop at l)
one_taken l at h c e = rw (drop-cons l at 0 h, ← e) refl

-- the writer is called for it alone, into what is left of the buffer
pub called-one : {F : Form} {m : Flags} {l d₀ d : List ℕ} {at n : ℕ} → Come F m l d₀ d at n → at < length l → (c : ℕ) → c ≡ get_or l at 0 → (t : List ℕ) → t ≡ c ∷ [] → (q : Encoded) (p : List ℕ)
    → q ≡ encoded_of (writing F m (length (mid_of n (length d - n) d)) t)
    → p ≡ (writing F m (length (mid_of n (length d - n) d)) t).written ++ drop q.produced (mid_of n (length d - n) d)
    → Called F m l d₀ (put_mid n (length d - n) d p) at n q
called-one {F} {m} {l} {d₀} {d} {at} {n} r h c e t g q p a o = called r h t (g ∙ one_taken l at h c e) q p (over-written _ _ _ _ (a, o))
