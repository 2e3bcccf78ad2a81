-- The reader called for what is left, an item at a time. Assumes nothing.
use mathlib.Core.Path.{◌≡◌, refl, sym, ap, ◌∙◌, subst}
use mathlib.Core.Logic.{◌⊎◌}
use mathlib.Core.List.{List, ◌++◌, append-nil}
use Prim.Native.Nat.{ℕ, ◌+◌, ◌-◌, ◌≤◌, ◌<◌, min}
use native.Mathlib.Nat.{add-zero}
use native.Mathlib.Omega.{arith}
use lib.ListN.{length, take, drop, length-append}
use borrow.Author.Rules.{part_to_end}
use borrow.Rule.Slice.PartMut.{mid_of, put_mid}
use Rattle.numbers.specs.Number.{over}
use Rattle.numbers.specs.Filled.{Filled}
use Rattle.flags.specs.declared.Flags.{Flags}
use Rattle.form.specs.Table.{Form}
use Rattle.readings.specs.Reading.{Reading, stopped, follow, reading}
use Rattle.readings.specs.Come.{Layout, Come}
use Rattle.readings.proofs.Come.{come_same, come-used-up, come-stops, come-reading, come-lent}
use Rattle.readings.proofs.Theorems.{reading-within, reading-full-up}
use Rattle.reader.specs.declared.Decoded.{Decoded}
use Rattle.reader.specs.Decoded.{decoded_of}

-- the promise of a call that reads s into a buffer with so much room: it was d₀ and is d
abbrev pub Answers : {A : Type 0} → (List ℕ → List A) → Form → Flags → ℕ → List ℕ → List A → List A → Decoded → Type 0
Answers lay F m room s d₀ d q = (q ≡ decoded_of (reading F m room s)) × (d ≡ over (lay (reading F m room s).codes) d₀)

-- what holds after an item was read with the answer q: the end of the reading, or the next place
pub record Item {A : Type 0} (lay : List ℕ → List A) (F : Form) (m : Flags) (room : ℕ) (s : List ℕ) (d₀ d : List A) (at n : ℕ) (q : Decoded) : Type 0 where
  pub place : at + q.consumed ≤ length s
  pub few : n + q.produced ≤ room
  pub same : length d ≡ length d₀
  pub ends : (q.number ≡ 1 → ⊥) ⊎ (n + q.produced ≡ room)
      → Answers lay F m room s d₀ d (record { number = q.number; consumed = at + q.consumed; produced = n + q.produced; subpart = q.subpart })
  pub goes_on : q.number ≡ 1 → (n + q.produced ≡ room → ⊥) → Come lay F m s d₀ d (at + q.consumed) (n + q.produced) × (n < n + q.produced)

module _ {A : Type 0} {lay : List ℕ → List A} {w : ℕ → ℕ} (L : Layout lay w) {F : Form} {m : Flags} {s : List ℕ} {d₀ d : List A} {at n : ℕ} (r : Come lay F m s d₀ d at n) (room : ℕ)
    (h : n ≤ room)
  where
    -- where no bytes are left the reading has ended
    pub ended : at ≡ length s → Answers lay F m room s d₀ d (record { number = 0; consumed = at; produced = n; subpart = 0 })
    unfolding decoded_of follow stopped
    ended e = rw (come-used-up L r room h e, append-nil, r.count, add-zero) (refl, r.filled.front)

    -- the room for an item, and what is read into it
    abbrev a : ℕ
    a = min (room - n) 1

    abbrev R : Reading
    R = reading F m a (drop at s)

    item : (p : List A) → Filled d₀ p (lay (r.codes ++ R.codes)) → Item lay F m room s d₀ p at n (decoded_of R)
    unfolding decoded_of follow
    item p f =
        let c = come-reading L r a p f in
        let u = reading-within F m a (drop at s) in
        let count : length (r.codes ++ R.codes) ≡ n + length R.codes = length-append r.codes R.codes ∙ ap (λ (k : ℕ). k + length R.codes) r.count in
        record {
          place = c.converts.within;
          few = omega (arith, u.1);
          same = come_same L c;
          ends = λ g. rw (come-stops L r room h a (omega arith) g) (rw count refl, f.front);
          goes_on = λ e g. (c, omega (arith, (reading-full-up F m a (drop at s) e).0));
        }

    -- into a part of the buffer, `&mut d[w n..]`, that was lent
    pub item_lent : (k : ℕ) → k ≡ a → (q : Decoded) (p : List A) → q ≡ decoded_of (reading F m k (take (length s - at) (drop at s)))
        → Filled (mid_of (w n) (length d - w n) d) p (lay (reading F m k (take (length s - at) (drop at s))).codes)
        → Item lay F m room s d₀ (put_mid (w n) (length d - w n) d p) at n q
    item_lent k i q p e f =
        let l : reading F m k (take (length s - at) (drop at s)) ≡ R = ap (reading F m k) (part_to_end s at) ∙ ap (λ (x : ℕ). reading F m x (drop at s)) i in
        let o = item (put_mid (w n) (length d - w n) d p) (come-lent L r R.codes p (subst (λ (X : Reading). Filled (mid_of (w n) (length d - w n) d) p (lay X.codes)) l f)) in
        subst (Item lay F m room s d₀ (put_mid (w n) (length d - w n) d p) at n) (sym (e ∙ ap decoded_of l)) o
