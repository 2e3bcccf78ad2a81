-- One item, through a local array z of which `room` places are lent, and the answer in a coding. Assumes nothing.
use Rattle.std.proofs.Common.{◌≡◌, List, [], ◌∷◌, ◌++◌, ℕ, ◌-◌, ◌≤◌, min, length, get_or, take, drop, refl, sym, ap, ◌∙◌, true, false, arith, append_assoc, length-drop}
use borrow.Author.Rules.{part_to_end}
use borrow.Rule.Slice.PartMut.{mid_of, put_mid}
use lib.Seq.{length-take-le}
use Rattle.numbers.specs.Number.{over}
use Rattle.numbers.specs.Filled.{Filled}
use Rattle.flags.specs.declared.Flags.{Flags}
use Rattle.flags.specs.Number.{flags_of}
use Rattle.form.specs.Table.{Form}
use Rattle.codings.specs.declared.Coding.{Coding}
use Rattle.codings.specs.Codings.{reader_form, reader_refuses_in}
use Rattle.readings.specs.Reading.{Reading, stopped, reading, decoding_in}
use Rattle.readings.specs.Come.{Layout, Rooms, Come}
use Rattle.readings.proofs.Readings.{accepted, refused_nothing}
use Rattle.readings.proofs.Come.{none-empty, holds-rest, come_same, come-room}
use Rattle.readings.proofs.Theorems.{reading-within}
use Rattle.reader.proofs.Onward.{Item, item_lent}
use Rattle.reader.specs.declared.Decoded.{Decoded}
use Rattle.reader.specs.Decoded.{decoded_of}

first : (cs rest : List ℕ) → length cs ≡ 1 → cs ≡ get_or (cs ++ rest) 0 0 ∷ []
first [] rest e = absurd (omega arith)
first (c ∷ []) rest e = refl
first (c ∷ d ∷ cs) rest e = absurd (omega arith)

none : (cs : List ℕ) → length cs ≡ 0 → cs ≡ []
none [] e = refl
none (c ∷ cs) e = absurd (omega arith)

-- what the reader gives for at most one code, and where that code stands
pub record One (F : Form) (m : Flags) (s : List ℕ) (room : ℕ) (q : Decoded) (z : List ℕ) : Type 0 where
  pub few : q.produced ≤ room
  pub no_code : q.produced ≡ 0 → (reading F m room s).codes ≡ []
  pub a_code : (q.produced ≡ 0 → ⊥) → (reading F m room s).codes ≡ get_or z 0 0 ∷ []

pub one : (F : Form) (m : Flags) (s : List ℕ) (room : ℕ) (q : Decoded) (z l : List ℕ) → room ≤ 1 → room ≤ length z → q ≡ decoded_of (reading F m (length (take room z)) s)
    → l ≡ (reading F m (length (take room z)) s).codes ++ drop q.produced (take room z) → One F m s room q (l ++ drop room z)
unfolding decoded_of
one F m s room q z l g h e f =
    let n : length (take room z) ≡ room = length-take-le room z h in
    let R = reading F m room s in
    let a : q ≡ decoded_of R = e ∙ ap (λ (k : ℕ). decoded_of (reading F m k s)) n in
    let k : q.produced ≡ length R.codes = ap (λ (x : Decoded). x.produced) a in
    let o : l ≡ R.codes ++ drop q.produced (take room z) = f ∙ ap (λ (k : ℕ). (reading F m k s).codes ++ drop q.produced (take room z)) n in
    let w = (reading-within F m room s).1 in
    record {
      few = omega arith;
      no_code = λ x. none R.codes (omega arith);
      a_code = λ x. rw (o, append_assoc R.codes (drop q.produced (take room z)) (drop room z)) (first R.codes _ (omega arith));
    }

module _ {A : Type 0} {lay : List ℕ → List A} {w : ℕ → ℕ} (L : Layout lay w) where
  -- an item that is read into the rest of a buffer, `&mut codes[cell..]`
  pub item_read : {holds : ℕ → ℕ} (H : Rooms w holds) {F : Form} {m : Flags} {s : List ℕ} {d₀ d : List A} {at n : ℕ} (r : Come lay F m s d₀ d at n) (cell : ℕ) → cell ≡ w n → (q : Decoded) (p : List A)
      → q ≡ decoded_of (reading F m (min (holds (length (mid_of cell (length d - cell) d))) 1) (take (length s - at) (drop at s)))
      → Filled (mid_of cell (length d - cell) d) p (lay (reading F m (min (holds (length (mid_of cell (length d - cell) d))) 1) (take (length s - at) (drop at s))).codes)
      → Item lay F m (holds (length d₀)) s d₀ (put_mid cell (length d - cell) d p) at n q
  item_read {holds} H {F} {m} {s} {d₀} {d} {at} {n} r cell z q p e f =
      let h = come-room L r in
      let u : length (mid_of (w n) (length d - w n) d) ≡ length d₀ - w n = ap length (part_to_end d (w n)) ∙ length-drop (w n) d ∙ ap (λ (k : ℕ). k - w n) (come_same L r) in
      let v : min (holds (length (mid_of (w n) (length d - w n) d))) 1 ≡ min (holds (length d₀) - n) 1 =
      ap (λ (k : ℕ). min (holds k) 1) u ∙ ap (λ (k : ℕ). min k 1) (holds-rest L H n (length d₀) h)
      in
      rw z (item_lent L r (holds (length d₀)) (H.most n (length d₀) h) _ v q p (rw z at e) (rw z at f))

  module _ (K : Coding) (f room : ℕ) (s : List ℕ) where
    pub answered : (F : Form) (m : Flags) (d₀ d : List A) (q : Decoded) → reader_refuses_in K f ≡ false → m ≡ flags_of f → F ≡ reader_form K m
        → q ≡ decoded_of (reading F m room s) → d ≡ over (lay (reading F m room s).codes) d₀
        → (q ≡ decoded_of (decoding_in K f room s)) × (d ≡ lay (decoding_in K f room s).codes ++ drop (w q.produced) d₀)
    unfolding decoded_of
    answered F m d₀ d q e o t a b =
        let u : reading F m room s ≡ decoding_in K f room s = rw (accepted K f room s e, t, o) refl in
        let x : q ≡ decoded_of (decoding_in K f room s) = a ∙ ap decoded_of u in
        let R = decoding_in K f room s in
        let y : length (lay R.codes) ≡ w q.produced = L.lengths R.codes ∙ ap w (sym (ap (λ (z : Decoded). z.produced) x)) in
        (x, b ∙ ap (λ (R : Reading). over (lay R.codes) d₀) u ∙ ap (λ (k : ℕ). lay R.codes ++ drop k d₀) y)

    pub refused : (d : List A) → reader_refuses_in K f ≡ true
        → (◌≡◌ {A = Decoded} (record { number = 4; consumed = 0; produced = 0; subpart = 0 }) (decoded_of (decoding_in K f room s)))
        × (d ≡ lay (decoding_in K f room s).codes ++ drop (w 0) d)
    unfolding decoded_of stopped
    refused d e = rw (refused_nothing K f room s e, L.empty, none-empty L) (refl, refl)
