-- Packets do not matter to the reader. Assumes nothing.
use mathlib.Core.Path.{◌≡◌, refl, sym, ap, ap₂, ◌∙◌, subst}
use mathlib.Core.Logic.{◌⊎◌, inl, inr, ⊎_elim}
use mathlib.Core.Bool.{Bool, true, false, cond}
use mathlib.Core.List.{List, [], ◌∷◌, ◌++◌, append_assoc}
use Prim.Native.Nat.{ℕ, zero, suc, ◌+◌, ◌-◌, ◌/◌, ◌%◌, ◌≤◌, ◌<◌, max}
use native.Mathlib.Omega.{arith}
use native.Mathlib.Decide.{dec_le}
use lib.Dec.{eqb}
use lib.ListN.{length, drop, length-append, length-drop}
use lib.Seq.{drop-append-le, drop-drop}
use borrow.Author.Tests.{eqb-false}
use Rattle.flags.specs.declared.Flags.{Flags}
use Rattle.flags.specs.Number.{flags_of, reader_refuses}
use Rattle.codings.specs.declared.Coding.{Coding}
use Rattle.codings.specs.Codings.{reader_form, writer_form, longest, runs, reader_refuses_in}
use Rattle.codings.proofs.Laws.{reads-by, many, sound, surro_decides, surro_decides_form}
use Rattle.form.specs.Table.{Form}
use Rattle.form.specs.Scan.{Found, well, part, bad, scan}
use Rattle.form.specs.Text.{Bytes, Clean}
use Rattle.form.proofs.Laws.{Scans}
use Rattle.form.proofs.Demand.{demand3}
use Rattle.readings.specs.Reading.{Turn, stop, convert, turn, Reading, stopped, follow, reading, decoding_in}
use Rattle.readings.proofs.Readings.{reading-stop, reading_full, reading-convert, follow-follow, follow-none, turn-found, turn-within, by-places, accepted, refused_nothing}
use Rattle.readings.proofs.Theorems.{reading-rooms, reading-number, used-up, waits-short, same-rooms, enough, reads_all}
use Rattle.packets.specs.Reader.{Packet, unlast, then, run, whole, Roomy, Uncut}

-- ---- a reading and what comes after it

follow-then : (cs : List ℕ) (k : ℕ) (R S : Reading) → follow cs k (then R S) ≡ then (follow cs k R) S
unfolding follow then
follow-then cs k R S = go (eqb R.number 3)
  where
    go : (t : Bool) → follow cs k (cond t R (follow R.codes R.consumed S)) ≡ cond t (follow cs k R) (follow (cs ++ R.codes) (k + R.consumed) S)
    go true = refl
    go false = follow-follow cs R.codes k R.consumed S

then-none : (q k : ℕ) (S : Reading) → eqb q 3 ≡ false → then (stopped q k) S ≡ S
unfolding then stopped
then-none q k S e = rw e (follow-none S)

then-bad : (q k : ℕ) (S : Reading) → q ≡ 3 → then (stopped q k) S ≡ stopped q k
unfolding then stopped
then-bad q k S e = rw e refl

-- what comes after a reading that stopped with 3 does not count
then-only : (R S T : Reading) → (eqb R.number 3 ≡ false → S ≡ T) → then R S ≡ then R T
unfolding then
then-only R S T h = go (eqb R.number 3) h
  where
    go : (t : Bool) → (t ≡ false → S ≡ T) → cond t R (follow R.codes R.consumed S) ≡ cond t R (follow R.codes R.consumed T)
    go true h = refl
    go false h = ap (follow R.codes R.consumed) (h refl)

-- both do not end for want of room where the last of them does not
then_full : (R S : Reading) → (R.number ≡ 1 → ⊥) → ((R.number ≡ 3 → ⊥) → S.number ≡ 1 → ⊥) → (then R S).number ≡ 1 → ⊥
unfolding then follow
then_full R S h g = go (eqb R.number 3) refl
  where
    go : (t : Bool) → eqb R.number 3 ≡ t → (cond t R (follow R.codes R.consumed S)).number ≡ 1 → ⊥
    go true e = h
    go false e = g (eqb-false R.number 3 e)

-- what D gives of s and t together is R and what D gives of the bytes after it, whatever the rooms, where they are enough
abbrev Splits : (ℕ → List ℕ → Reading) → List ℕ → List ℕ → Reading → Type 0
Splits D s t R =
    (q r : ℕ) → ((D q (s ++ t)).number ≡ 1 → ⊥) → ((D r (drop R.consumed s ++ t)).number ≡ 1 → ⊥)
    → D q (s ++ t) ≡ then R (D r (drop R.consumed s ++ t))

-- ---- a place of the reading, where more bytes follow

-- the same flags without LAST
abbrev waiting : Flags → Flags
waiting m = record { last = false; surro = m.surro; strict = m.strict; show = m.show }

-- a turn that does not wait for more converts, or stops with 3
abbrev Decided : Turn → Type 0
Decided (stop q k) = q ≡ 3
Decided (convert c k) = Unit {0}

module _ {F : Form} {n : ℕ} (S : Scans F n) (m : Flags) where
  -- where the reader does not wait, it does the same when more bytes follow, with LAST or without
  abbrev Later : ℕ → List ℕ → List ℕ → Type 0
  Later b s t = (turn F (waiting m) (b ∷ s) ≡ stop 2 0) ⊎ ((turn F m (b ∷ (s ++ t)) ≡ turn F (waiting m) (b ∷ s)) × Decided (turn F (waiting m) (b ∷ s)))

  turn-later : (b : ℕ) (s t : List ℕ) → Later b s t
  turn-later b s t = go (scan F (b ∷ s)) refl
    where
      by : (w : Bool) (k c j : ℕ) → Decided (cond w (stop 3 k) (convert c j))
      by true k c j = refl
      by false k c j = tt

      go : (x : Found) → scan F (b ∷ s) ≡ x → Later b s t
      go part e = inl (turn-found F (waiting m) b s part e)
      go (well c k) e =
          let f = turn-found F (waiting m) b s (well c k) e in
          inr (turn-found F m b (s ++ t) (well c k) (S.well_stays (b ∷ s) t c k e) ∙ sym f, subst Decided (sym f) tt)
      go (bad k) e =
          let f = turn-found F (waiting m) b s (bad k) e in
          inr (turn-found F m b (s ++ t) (bad k) (S.bad_stays (b ∷ s) t k e) ∙ sym f, subst Decided (sym f) (by m.strict (max 1 k) _ _))

  -- ---- a packet, and the bytes t after it

  module _ (t : List ℕ) where
    abbrev Two : List ℕ → Reading → Type 0
    Two s R = Splits (reading F m) s t R

    -- nothing is consumed, and what comes after it is all of it
    two_none : (s : List ℕ) (n k : ℕ) → eqb n 3 ≡ false → Two s (stopped n k)
    unfolding stopped
    two_none s n k e q r g l = reading-rooms F m q r (s ++ t) g l ∙ sym (then-none n k (reading F m r (s ++ t)) e)

    two-stop : (s : List ℕ) (n k : ℕ) → turn F (waiting m) s ≡ stop n k → Two s (stopped n k)
    two-stop [] n k e = let z : n ≡ 0 = cc in two_none [] n k (rw z refl)
    two-stop (b ∷ s) n k e = ⊎_elim (λ f. let z : n ≡ 2 = cc in two_none (b ∷ s) n k (rw z refl)) same (turn-later b s t)
      where
        same : (turn F m (b ∷ (s ++ t)) ≡ turn F (waiting m) (b ∷ s)) × Decided (turn F (waiting m) (b ∷ s)) → Two (b ∷ s) (stopped n k)
        same (f, u) = λ q r g l. reading-stop F m q (b ∷ s ++ t) n k (f ∙ e) ∙ sym (then-bad n k _ (subst Decided e u))

    two-next : (room : ℕ) (s : List ℕ) (c k : ℕ) → turn F (waiting m) s ≡ convert c k → Two (drop k s) (reading F (waiting m) room (drop k s))
        → Two s (follow (c ∷ []) k (reading F (waiting m) room (drop k s)))
    unfolding follow stopped
    two-next room [] c k e ih q r g l = let z : ◌≡◌ {A = ℕ} 0 1 = cc in absurd (omega arith)
    two-next room (b ∷ s) c k e ih q r g l = ⊎_elim (λ f. let z : ◌≡◌ {A = ℕ} 0 1 = cc in absurd (omega arith)) (λ (f, u). same q g (f ∙ e)) (turn-later b s t)
      where
        first : Reading
        first = reading F (waiting m) room (drop k (b ∷ s))

        rest : drop first.consumed (drop k (b ∷ s)) ≡ drop (k + first.consumed) (b ∷ s)
        rest = drop-drop first.consumed k (b ∷ s)

        cut : drop k (b ∷ s ++ t) ≡ drop k (b ∷ s) ++ t
        cut = drop-append-le k (b ∷ s) t (turn-within F (waiting m) (b ∷ s) c k e)

        same : (q : ℕ) → ((reading F m q (b ∷ s ++ t)).number ≡ 1 → ⊥) → turn F m (b ∷ s ++ t) ≡ convert c k
            → reading F m q (b ∷ s ++ t) ≡ then (follow (c ∷ []) k first) (reading F m r (drop (k + first.consumed) (b ∷ s) ++ t))
        same zero g f = absurd (g (ap (λ (R : Reading). R.number) (reading_full F m (b ∷ s ++ t) c k f)))
        same (suc q) g f =
            let a = reading-convert F m q (b ∷ s ++ t) c k f ∙ ap (λ (x : List ℕ). follow (c ∷ []) k (reading F m q x)) cut in
            a ∙ ap (follow (c ∷ []) k) (ih q r (λ z. g (ap (λ (R : Reading). R.number) a ∙ z)) (rw rest l))
            ∙ follow-then (c ∷ []) k first (reading F m r (drop first.consumed (drop k (b ∷ s)) ++ t))
            ∙ ap (λ (x : List ℕ). then (follow (c ∷ []) k first) (reading F m r (x ++ t))) rest

    -- whatever the room for the packet
    pub two : (room : ℕ) (s : List ℕ) → Two s (reading F (waiting m) room s)
    two = by-places F (waiting m) (λ room s R. Two s R) (λ room s n k e. two-stop s n k e) (λ s c k e. two_none s 1 0 refl) two-next

-- ---- flag numbers

unlast_flags : (f : ℕ) → flags_of (unlast f) ≡ waiting (flags_of f)
unfolding flags_of
unlast_flags f =
    let a : unlast f / 1 % 2 ≡ 0 = omega arith in
    let b : unlast f / 2 ≡ f / 2 = omega arith in
    let c : unlast f / 4 ≡ f / 4 = omega arith in
    let d : unlast f / 8 ≡ f / 8 = omega arith in
    rw (a, b, c, d) refl

unlast-surro : (f : ℕ) → (flags_of (unlast f)).surro ≡ (flags_of f).surro
unlast-surro f = ap (λ (m : Flags). m.surro) (unlast_flags f)

-- ---- for a coding

module _ (K : Coding) where
  unlast-refuses : (f : ℕ) → reader_refuses_in K (unlast f) ≡ reader_refuses_in K f
  unfolding reader_refuses_in reader_refuses
  unlast-refuses f =
      let b : unlast f / 16 ≡ f / 16 = omega arith in
      let c : unlast f / 4 ≡ f / 4 = omega arith in
      let d : unlast f / 8 ≡ f / 8 = omega arith in
      rw (surro_decides K (flags_of (unlast f)) (flags_of f) (unlast-surro f), b, c, d) refl

  abbrev table : ℕ → Form
  table f = reader_form K (flags_of f)

  -- the reader without LAST
  unlast-reading : (f room : ℕ) (s : List ℕ) → reader_refuses_in K f ≡ false → decoding_in K (unlast f) room s ≡ reading (table f) (waiting (flags_of f)) room s
  unlast-reading f room s e =
      accepted K (unlast f) room s (unlast-refuses f ∙ e)
      ∙ ap₂ (λ (F : Form) (m : Flags). reading F m room s) (surro_decides_form K (flags_of (unlast f)) (flags_of f) (unlast-surro f)) (unlast_flags f)

  -- a packet, and the bytes t after it
  decoding-two : (f room : ℕ) (s t : List ℕ) → Splits (decoding_in K f) s t (decoding_in K (unlast f) room s)
  unfolding stopped
  decoding-two f room s t q r g l = go (reader_refuses_in K f) refl g l
    where
      go : (w : Bool) → reader_refuses_in K f ≡ w → ((decoding_in K f q (s ++ t)).number ≡ 1 → ⊥)
          → ((decoding_in K f r (drop (decoding_in K (unlast f) room s).consumed s ++ t)).number ≡ 1 → ⊥)
          → decoding_in K f q (s ++ t) ≡ then (decoding_in K (unlast f) room s) (decoding_in K f r (drop (decoding_in K (unlast f) room s).consumed s ++ t))
      go true e =
          rw (refused_nothing K (unlast f) room s (unlast-refuses f ∙ e), refused_nothing K f q (s ++ t) e)
          (λ g l. sym (then-none 4 0 (decoding_in K f r (s ++ t)) refl ∙ refused_nothing K f r (s ++ t) e))
      go false e =
          let S = reading (table f) (waiting (flags_of f)) room s in
          rw (unlast-reading f room s e, accepted K f q (s ++ t) e, accepted K f r (drop S.consumed s ++ t) e) (two (reads-by K (flags_of f)).0 (flags_of f) t room s q r)

  -- ---- a run

  run-whole : (ps : List Packet) (f single : ℕ) (tail : List ℕ) (last : Packet) → ((run K f tail ps last).number ≡ 1 → ⊥)
      → ((decoding_in K f single (tail ++ whole ps last)).number ≡ 1 → ⊥) → run K f tail ps last ≡ decoding_in K f single (tail ++ whole ps last)
  unfolding then follow
  run-whole [] f single tail last h g = same-rooms K f last.room single (tail ++ last.bytes) h g
  run-whole (p ∷ ps) f single tail last h g =
      let s = tail ++ p.bytes in
      let R = decoding_in K (unlast f) p.room s in
      let rest = drop R.consumed s ++ whole ps last in
      let l = enough K f (length rest) rest (omega arith) in
      let a = append_assoc tail p.bytes (whole ps last) in
      then-only R (run K f (drop R.consumed s) ps last) (decoding_in K f (length rest) rest)
      (λ e. run-whole ps f (length rest) (drop R.consumed s) last (λ z. h (rw e z)) l)
      ∙ sym (decoding-two f p.room s (whole ps last) single (length rest) (rw a g) l)
      ∙ ap (decoding_in K f single) a

  -- ---- room enough

  -- what a call leaves unread, where it has not stopped for room or at a bad byte
  unread-few : (f room : ℕ) (s : List ℕ) → reader_refuses_in K f ≡ false → ((decoding_in K f room s).number ≡ 1 → ⊥) → ((decoding_in K f room s).number ≡ 3 → ⊥)
      → length (drop (decoding_in K f room s).consumed s) < longest K
  unread-few f room s e full stray = go (dec_le (length s) R.consumed)
    where
      R : Reading
      R = decoding_in K f room s

      go : Dec (length s ≤ R.consumed) → length (drop R.consumed s) < longest K
      go (yes h) = omega (arith, length-drop R.consumed s, many K)
      go (no h) =
          let end : R.number ≡ 0 → ⊥ = λ z. omega (arith, used-up K f room s z) in
          let most : R.number ≤ 3 = rw (accepted K f room s e) (reading-number (table f) (flags_of f) room s) in
          omega (arith, (waits-short K f room s (omega arith)).2, length-drop R.consumed s)

  refused-run : (ps : List Packet) (f : ℕ) (tail : List ℕ) (last : Packet) → reader_refuses_in K f ≡ true → (run K f tail ps last).number ≡ 4
  unfolding stopped
  refused-run [] f tail last e = rw (refused_nothing K f last.room (tail ++ last.bytes) e) refl
  refused-run (p ∷ ps) f tail last e =
      rw (refused_nothing K (unlast f) p.room (tail ++ p.bytes) (unlast-refuses f ∙ e), then-none 4 0 (run K f (tail ++ p.bytes) ps last) refl)
      (refused-run ps f (tail ++ p.bytes) last e)

  roomy : (ps : List Packet) (f : ℕ) (tail : List ℕ) (last : Packet) → reader_refuses_in K f ≡ false → length tail < longest K → Roomy (longest K - 1) ps last
      → (run K f tail ps last).number ≡ 1 → ⊥
  roomy [] f tail last e l h = enough K f last.room (tail ++ last.bytes) (omega (arith, length-append tail last.bytes))
  roomy (p ∷ ps) f tail last e l (h, g) =
      then_full R (run K f (drop R.consumed s) ps last) full
      (λ b. roomy ps f (drop R.consumed s) last e (unread-few (unlast f) p.room s (unlast-refuses f ∙ e) full b) g)
    where
      s : List ℕ
      s = tail ++ p.bytes

      R : Reading
      R = decoding_in K (unlast f) p.room s

      full : R.number ≡ 1 → ⊥
      full = enough K (unlast f) p.room s (omega (arith, length-append tail p.bytes))

  enough_in_packets : (f : ℕ) (ps : List Packet) (last : Packet) → Roomy (longest K - 1) ps last → (run K f [] ps last).number ≡ 1 → ⊥
  enough_in_packets f ps last h = go (reader_refuses_in K f) refl
    where
      go : (w : Bool) → reader_refuses_in K f ≡ w → (run K f [] ps last).number ≡ 1 → ⊥
      go true e = λ z. omega (arith, refused-run ps f [] last e)
      go false e = roomy ps f [] last e (omega (arith, many K)) h

  -- ---- clean lists

  clean : (ps : List Packet) (last : Packet) → Bytes (whole ps last) → ((run K 1 [] ps last).number ≡ 1 → ⊥) → Clean (writer_form K) (runs K) (run K 1 [] ps last).codes
  clean ps last b h =
      let s = whole ps last in
      let e = run-whole ps 1 (length s) [] last h (enough K 1 (length s) s (omega arith)) ∙ reads_all K (length s) s (omega arith) in
      rw e ((demand3 (writer_form K) (runs K) (sound K)).clean s b)

  pub uncut : Uncut K
  uncut = record { same = λ f room ps last. run-whole ps f room [] last; enough = enough K; enough_in_packets = enough_in_packets; clean = clean }
