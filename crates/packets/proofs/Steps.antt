-- Packets do not matter to the reading steps. Assumes nothing.
use mathlib.Core.Path.{◌≡◌, refl, sym, ap, ◌∙◌, subst}
use mathlib.Core.Logic.{◌⊎◌, inl, inr, ⊎_elim}
use mathlib.Core.Bool.{Bool, true, false, cond}
use mathlib.Core.List.{List, [], ◌∷◌, ◌++◌, append_assoc, append-nil, flatten, flat_map}
use mathlib.Core.Option.{Option}
use Prim.Native.Nat.{ℕ, zero, suc, ◌+◌, ◌-◌, ◌*◌, ◌≤◌, ◌<◌, max}
use native.Mathlib.Nat.{add_assoc, zero-add}
use native.Mathlib.Omega.{arith}
use lib.Dec.{T, eqb}
use lib.ListN.{length, take, drop, length-append, length-drop}
use lib.Seq.{drop-append-le, drop-append_seam, drop-append-add, drop-length, drop-drop, drop-nil, length-take-le}
use borrow.Author.Tests.{eqb-true}
use Rattle.form.specs.Table.{Form, Codes}
use Rattle.form.specs.Scan.{Found, well, part, bad, scan}
use Rattle.form.proofs.Tests.{open?}
use Rattle.form.proofs.EncodingForms.{EncodingForm}
use Rattle.flags.specs.Number.{flags_of}
use Rattle.codings.specs.declared.Coding.{Coding}
use Rattle.codings.specs.Codings.{writer_form, longest}
use Rattle.codings.proofs.Laws.{longest-few, same_form, encodes, sound, takes-strict}
use Rattle.readings.specs.Reading as Whole
use Rattle.readings.specs.Reading.{Reading, stopped, follow}
use Rattle.readings.proofs.Readings.{reading-stop, reading-convert, turn-found, accepted}
use Rattle.readings.proofs.Theorems.{reading-rooms, reading-enough}
use Rattle.state.specs.Meaning.{Meaning, starting, Valid, valid, record_of, sense_of}
use Rattle.state.specs.declared.Record.{Record}
use Rattle.units.specs.Width.{left}
use Rattle.advance.specs.Step.{null, tell, Step, to, hold, convert, reads}
use Rattle.advance.proofs.Windows.{ends-after}
use Rattle.restart.specs.Runs.{Bits, width, reading}
use Rattle.restart.specs.Packets.{start}
use Rattle.restart.proofs.States.{code_units, sense-state, hold-part, part-hold, reads-found}
use Rattle.restart.proofs.Units.{Due, some, one, due-comes, due-rest, due-few, code_zero, rest-due}
use Rattle.restart.proofs.Refusals.{readings}
use Rattle.restart.proofs.Cuts.{null-first}
use Rattle.packets.specs.Steps.{goes_on, Run, left_of, InPackets, Outcome, outcome, at_once, UncutSteps}

-- these units, and then what o has
unfoldable before : List ℕ → Outcome → Outcome
before us o = record { units = us ++ o.units; bad = o.bad; end = o.end }

-- ---- what the reader with STRICT tells of bytes, the first of which is at the place j

abbrev tells : Bits → ℕ → List ℕ → Reading → Outcome
tells b j x R =
    record {
      units = flat_map (width b).units R.codes;
      bad = cond (eqb R.number 3) (Option.some (record { place = j + R.consumed; subpart = R.subpart })) Option.none;
      end = record_of (cond (eqb R.number 3) starting (hold (drop R.consumed x)));
    }

-- where nothing is converted
tells-part : (b : Bits) (j : ℕ) (x : List ℕ) (q k : ℕ) → eqb q 3 ≡ false → tells b j x (stopped q k) ≡ record { units = []; bad = Option.none; end = record_of (hold x) }
unfolding stopped flat_map
tells-part b j x q k e = rw e refl

tells-bad : (b : Bits) (j : ℕ) (x : List ℕ) (k : ℕ) → tells b j x (stopped 3 k) ≡ record { units = []; bad = Option.some (record { place = j; subpart = k }); end = start }
unfolding stopped flat_map
tells-bad b j x k = let z : j + 0 ≡ j = omega arith in rw z refl

-- where a sequence of m bytes is
tells-well : (b : Bits) (j : ℕ) (x : List ℕ) (c m : ℕ) (R : Reading) → tells b j x (follow (c ∷ []) m R) ≡ before ((width b).units c) (tells b (j + m) (drop m x) R)
unfolding follow before flat_map
tells-well b j x c m R = rw (← add_assoc j m R.consumed, drop-drop R.consumed m x) refl

module _ {F : Form} {n : ℕ} (E : EncodingForm F n) (o : T (open? F)) (b : Bits) where
  abbrev read : ℕ → List ℕ → Reading
  read room x = Whole.reading F (flags_of 4) room x

  abbrev expect : ℕ → List ℕ → Outcome
  expect j x = tells b j x (read (length x) x)

  expect-part : (j : ℕ) (x : List ℕ) → scan F x ≡ part → expect j x ≡ record { units = []; bad = Option.none; end = record_of (hold x) }
  unfolding flags_of
  expect-part j [] e = ap (tells b j []) (reading-stop F (flags_of 4) 0 [] 0 0 refl) ∙ tells-part b j [] 0 0 refl
  expect-part j (x ∷ s) e = ap (tells b j (x ∷ s)) (reading-stop F (flags_of 4) (suc (length s)) (x ∷ s) 2 0 (turn-found F (flags_of 4) x s part e)) ∙ tells-part b j (x ∷ s) 2 0 refl

  expect-bad : (j : ℕ) (x : List ℕ) (k : ℕ) → scan F x ≡ bad k → expect j x ≡ record { units = []; bad = Option.some (record { place = j; subpart = max 1 k }); end = start }
  unfolding flags_of
  expect-bad j [] k e = let z : ◌≡◌ {A = ℕ} 0 1 = cc E.nil in absurd (omega arith)
  expect-bad j (x ∷ s) k e =
      ap (tells b j (x ∷ s)) (reading-stop F (flags_of 4) (suc (length s)) (x ∷ s) 3 (max 1 k) (turn-found F (flags_of 4) x s (bad k) e)) ∙ tells-bad b j (x ∷ s) (max 1 k)

  expect-well : (j : ℕ) (x : List ℕ) (c m : ℕ) → scan F x ≡ well c m → expect j x ≡ before ((width b).units c) (expect (j + m) (drop m x))
  unfolding flags_of
  expect-well j [] c m e = let z : ◌≡◌ {A = ℕ} 0 1 = cc E.nil in absurd (omega arith)
  expect-well j (x ∷ s) c m e =
      let some : 0 < m = ends-after E.scans [] (x ∷ s) c m E.nil e in
      let rest = drop m (x ∷ s) in
      let enough : (room : ℕ) → length rest ≤ room → (read room rest).number ≡ 1 → ⊥ = λ room. reading-enough F (flags_of 4) E.scans E.long o room rest in
      ap (tells b j (x ∷ s))
      (reading-convert F (flags_of 4) (length s) (x ∷ s) c m (turn-found F (flags_of 4) x s (well c m) e)
      ∙ ap (follow (c ∷ []) m)
      (reading-rooms F (flags_of 4) (length s) (length rest) rest (enough (length s) (omega (arith, length-drop m (x ∷ s)))) (enough (length rest) (omega arith))))
      ∙ tells-well b j (x ∷ s) c m (read (length rest) rest)

-- ---- where a run stands: the bytes h are held, or the units us are pending

data Stands (F : Form) (b : Bits) (s : Record) : List ℕ → List ℕ → Type 0 where
  holds : (h : List ℕ) → s ≡ record_of (hold h) → sense_of F s ≡ valid (hold h) → Valid F (hold h) → Stands F b s [] h
  waits : (u : ℕ) (us : List ℕ) (m : Meaning) → Due b m (u ∷ us) → sense_of F s ≡ valid m → Valid F m → Stands F b s (u ∷ us) []

-- pending units are no bytes held
not_idle : {b : Bits} {m : Meaning} {u : ℕ} {us : List ℕ} (h : List ℕ) → Due b m (u ∷ us) → valid m ≡ valid (hold h) → ⊥
not_idle [] (some vs) e = let z : ◌≡◌ {A = ℕ} 0 1 = cc in omega arith
not_idle (x ∷ h) (some vs) e = let z : ◌≡◌ {A = ℕ} 0 1 = cc in omega arith
not_idle [] (one v) e = let z : ◌≡◌ {A = ℕ} 0 1 = cc in omega arith
not_idle (x ∷ h) (one v) e = let z : ◌≡◌ {A = ℕ} 0 1 = cc in omega arith

module _ {F : Form} {n : ℕ} (E : EncodingForm F n) (room : n ≤ 15) (b : Bits) where
  stands-hold : (h : List ℕ) → Valid F (hold h) → Stands F b (record_of (hold h)) [] h
  stands-hold h v = holds h refl (sense-state E room (hold h) v) v

  stands-due : (us : List ℕ) → Due b (left (width b) us) us → Valid F (left (width b) us) → Stands F b (record_of (left (width b) us)) us []
  stands-due [] d v = stands-hold [] tt
  stands-due (u ∷ us) d v = waits u us (left (width b) (u ∷ us)) d (sense-state E room (left (width b) (u ∷ us)) v) v

  -- what a call gives where a sequence of m bytes is complete, of which it held h: the first unit, and the others are pending
  record Converts (h : List ℕ) (c m : ℕ) (x : Step) : Type 0 where
    first : ℕ
    rest : List ℕ
    are : (width b).units c ≡ first ∷ rest
    good : x.answer.number ≡ 0
    gives : x.answer.unit ≡ first
    takes : x.answer.consumed ≡ m - length h
    stands : Stands F b x.next rest []

  converts : (h i : List ℕ) (c m : ℕ) → scan F h ≡ part → scan F (h ++ i) ≡ well c m → Converts h c m (reads (width b) h i (well c m))
  converts h i c m p e = go (eqb c 0) refl
    where
      codes : Codes F (take m (h ++ i)) c
      codes = ((E.scans.finds_well (h ++ i) c m).0 e).0

      one_byte : c ≡ 0 → 1 ≡ m - length h
      one_byte z =
          let f : scan F (h ++ i) ≡ well 0 m = e ∙ ap (λ (x : ℕ). well x m) z in
          let (w, l) = (E.scans.finds_well (h ++ i) 0 m).0 f in
          let d : length (take m (h ++ i)) ≡ 1 = ap (length {A = ℕ}) ((E.ascii (take m (h ++ i)) 0 (omega arith)).0 w) in
          omega (arith, null-first E room h i m p f, d, length-take-le m (h ++ i) l)

      go : (t : Bool) → eqb c 0 ≡ t → Converts h c m (cond t (to (tell null 0 0 1 0) starting) (convert (width b) c (m - length h)))
      go true z =
          let q : c ≡ 0 = eqb-true c 0 z in
          record { first = 0; rest = []; are = ap (width b).units q ∙ code_zero b; good = refl; gives = refl; takes = one_byte q; stands = stands-hold [] tt }
      go false z =
          let k = E.scalar (take m (h ++ i)) c codes in
          let u = code_units b c k in
          record {
            first = u.first;
            rest = u.rest;
            are = u.are;
            good = refl;
            gives = rw u.are refl;
            takes = refl;
            stands = rw u.are (stands-due u.rest (rest-due b c k u) (u.kept F));
          }

-- ---- one call of a run, and those after it

module _ (F : Form) (b : Bits) (k : ℕ) (s : Record) (i : List ℕ) (is : List (List ℕ)) (x : Step) (e : reading F b s i ≡ x) where
  gave : x.answer.number ≡ 0 → outcome F b k s (i ∷ is) ≡ before (x.answer.unit ∷ []) (outcome F b (k + x.answer.consumed) x.next is)
  unfolding before
  gave z = rw (e, z) refl

  waited : x.answer.number ≡ 2 → outcome F b k s (i ∷ is) ≡ outcome F b (k + x.answer.consumed) x.next is
  waited z = rw (e, z) refl

  refused-at : x.answer.number ≡ 3 → is ≡ []
      → outcome F b k s (i ∷ is) ≡ record { units = []; bad = Option.some (record { place = k - x.answer.held; subpart = x.answer.subpart }); end = x.next }
  refused-at z l = rw (e, z, l) refl

-- ---- any run gives what the reader tells

-- what goes on after a call that gives x
abbrev After : Form → Bits → List ℕ → List (List ℕ) → Step → Type 0
After F b x is y = goes_on y.answer.number is (Run F b y.next (drop y.answer.consumed x) is)

went_on : (number : ℕ) (is : List (List ℕ)) (A : Type 0) → number < 3 → goes_on number is A → A
went_on number is A l (inl (e, z)) = absurd (omega arith)
went_on number is A l (inr (h, a)) = a

ended : (number : ℕ) (is : List (List ℕ)) (A : Type 0) → number ≡ 3 → goes_on number is A → is ≡ []
ended number is A l (inl (e, z)) = z
ended number is A l (inr (h, a)) = absurd (omega arith)

-- the bytes after a sequence of m, of which h were held
rest-after : (h x : List ℕ) (m : ℕ) → length h ≤ m → drop (m - length h) x ≡ drop m (h ++ x)
rest-after h x m l = let e : length h + (m - length h) ≡ m = omega arith in sym (drop-append-add h x (m - length h)) ∙ ap (λ (k : ℕ). drop k (h ++ x)) e

module _ {F : Form} {n : ℕ} (E : EncodingForm F n) (room : n ≤ 15) (o : T (open? F)) (b : Bits) where
  abbrev Brings : List (List ℕ) → Type 0
  Brings is =
      (x : List ℕ) (s : Record) (us h : List ℕ) (k j : ℕ) → Stands F b s us h → k ≡ j + length h → Run F b s x is
      → outcome F b k s is ≡ before us (expect E o b j (h ++ x))

  brings-end : Brings []
  unfolding before
  brings-end x s us h k j (holds w e g v) q (z, i) = rw (z, append-nil h, expect-part E o b j h (hold-part E h v), e) refl
  brings-end x s us h k j (waits u vs m d e v) q (z, (w, f)) = absurd (not_idle w d (sym e ∙ f))

  module _ (is : List (List ℕ)) (ih : Brings is) (i x : List ℕ) (s : Record) (k j : ℕ) where
    -- a pending unit comes out
    on-due : (u : ℕ) (us : List ℕ) (m : Meaning) → Due b m (u ∷ us) → sense_of F s ≡ valid m → Valid F m → k ≡ j → After F b x is (reading F b s i)
        → outcome F b k s (i ∷ is) ≡ before (u ∷ us) (expect E o b j x)
    unfolding before
    on-due u us m d e v q g =
        let (y, w) = due-rest F d v in
        let r = due-comes F s i d e in
        let a = went_on 0 is _ (omega arith) (subst (After F b x is) r g) in
        gave F b k s i is _ r refl ∙ ap (before (u ∷ [])) (ih x _ us [] (k + 0) j (stands-due E room b us y w) (omega arith) a)

    module _ (h z : List ℕ) (e : x ≡ i ++ z) (sense : sense_of F s ≡ valid (hold h)) (v : Valid F (hold h)) (q : k ≡ j + length h) (g : After F b x is (reading F b s i)) where
      abbrev all : List ℕ
      all = h ++ x

      same-all : h ++ i ++ z ≡ all
      same-all = append_assoc h i z ∙ ap (λ (y : List ℕ). h ++ y) (sym e)

      on-part : scan F (h ++ i) ≡ part → outcome F b k s (i ∷ is) ≡ expect E o b j all
      unfolding before
      on-part f =
          let r = reads-found F b s h i part sense f in
          let d : drop (length i) x ≡ z = ap (drop (length i)) e ∙ drop-append_seam i z in
          let a = rw d at (went_on 2 is _ (omega arith) (subst (After F b x is) r g)) in
          waited F b k s i is _ r refl
          ∙ ih z _ [] (h ++ i) (k + length i) j (stands-hold E room b (h ++ i) (part-hold E (h ++ i) f)) (omega (arith, length-append h i)) a
          ∙ ap (expect E o b j) same-all

      on-bad : (m : ℕ) → scan F (h ++ i) ≡ bad m → outcome F b k s (i ∷ is) ≡ expect E o b j all
      on-bad m f =
          let r = reads-found F b s h i (bad m) sense f in
          let l : k - length h ≡ j = omega arith in
          let p : scan F all ≡ bad m = ap (scan F) (sym same-all) ∙ E.scans.bad_stays (h ++ i) z m f in
          refused-at F b k s i is _ r refl (ended 3 is _ refl (subst (After F b x is) r g)) ∙ rw l (sym (expect-bad E o b j all m p))

      on-well : (c m : ℕ) → scan F (h ++ i) ≡ well c m → outcome F b k s (i ∷ is) ≡ expect E o b j all
      unfolding before
      on-well c m f =
          let y = reads (width b) h i (well c m) in
          let r = reads-found F b s h i (well c m) sense f in
          let part-h = hold-part E h v in
          let W = converts E room b h i c m part-h f in
          let l = ends-after E.scans h i c m part-h f in
          let p : scan F all ≡ well c m = ap (scan F) (sym same-all) ∙ E.scans.well_stays (h ++ i) z c m f in
          let d : drop y.answer.consumed x ≡ drop m all = ap (λ (t : ℕ). drop t x) W.takes ∙ rest-after h x m (omega arith) in
          let a = rw d at (went_on y.answer.number is _ (omega (arith, W.good)) (subst (After F b x is) r g)) in
          gave F b k s i is y r W.good
          ∙ ap (before (y.answer.unit ∷ [])) (ih (drop m all) y.next W.rest [] (k + y.answer.consumed) (j + m) W.stands (omega (arith, W.takes)) a)
          ∙ ap (λ (us : List ℕ). before us (expect E o b (j + m) (drop m all))) (ap (λ (u : ℕ). u ∷ W.rest) W.gives ∙ sym W.are)
          ∙ sym (expect-well E o b j all c m p)

      on-bytes : outcome F b k s (i ∷ is) ≡ expect E o b j all
      on-bytes = go (scan F (h ++ i)) refl
        where
          go : (y : Found) → scan F (h ++ i) ≡ y → outcome F b k s (i ∷ is) ≡ expect E o b j all
          go part f = on-part f
          go (bad m) f = on-bad m f
          go (well c m) f = on-well c m f

  brings : (is : List (List ℕ)) → Brings is
  unfolding before
  brings [] = brings-end
  brings (i ∷ is) = λ x s us h k j st q c. next (brings is) x s us h k j st q c
    where
      next : Brings is → (x : List ℕ) (s : Record) (us h : List ℕ) (k j : ℕ) → Stands F b s us h → k ≡ j + length h → Run F b s x (i ∷ is)
          → outcome F b k s (i ∷ is) ≡ before us (expect E o b j (h ++ x))
      next ih x s us h k j (waits u vs m d e v) q ((z, f), g) = on-due is ih i x s k j u vs m d e v (omega arith) g
      next ih x s us h k j (holds w e y v) q ((z, f), g) = on-bytes is ih i x s k j w z f y v q g

-- ---- every list of packets has a run

flatten_left : (p : List ℕ) (ps : List (List ℕ)) → flatten (left_of p ps) ≡ p ++ flatten ps
unfolding flatten
flatten_left [] ps = refl
flatten_left (x ∷ p) ps = refl

left-few : (p : List ℕ) (ps : List (List ℕ)) → length (left_of p ps) ≤ suc (length ps)
left-few [] ps = omega arith
left-few (x ∷ p) ps = omega arith

-- bytes, pending units and packets that are left: a sequence has a byte or more, and leaves at most three units
abbrev left_over : List (List ℕ) → List ℕ → ℕ
left_over ps us = 4 * length (flatten ps) + length us + length ps

module _ {F : Form} {n : ℕ} (E : EncodingForm F n) (room : n ≤ 15) (b : Bits) where
  abbrev Runs : ℕ → Type 0
  Runs most = (ps : List (List ℕ)) (s : Record) (us h : List ℕ) → Stands F b s us h → left_over ps us ≤ most → (is : List (List ℕ)) × InPackets F b s ps is

  stands-few : (s : Record) (us h : List ℕ) → Stands F b s us h → length us ≤ 3
  stands-few s us h (holds w e g v) = omega arith
  stands-few s us h (waits u vs m d e v) = due-few F d v

  -- the calls after a call over the packet p that gives y
  abbrev Next : List ℕ → List (List ℕ) → List (List ℕ) → Step → Type 0
  Next p ps is y = goes_on y.answer.number is (InPackets F b y.next (left_of (drop y.answer.consumed p) ps) is)

  module _ (most : ℕ) (ih : Runs most) where
    more : Runs (suc most)
    unfolding flatten
    more [] s us h (holds w e g v) l = ([], (w, g))
    more [] s us h (waits u vs m d e v) l =
        let (y, w) = due-rest F d v in
        let (is, c) = ih [] (record_of (left (width b) vs)) vs [] (stands-due E room b vs y w) (omega arith) in
        let r = due-comes F s [] d e in
        ([] ∷ is, (refl, ap (λ (t : Step). t.answer.number) r, subst (λ (t : Step). InPackets F b t.next [] is) (sym r) c))
    more (p ∷ ps) s us h (waits u vs m d e v) l =
        let (y, w) = due-rest F d v in
        let (is, c) = ih (left_of p ps) (record_of (left (width b) vs)) vs [] (stands-due E room b vs y w) (omega (arith, left-few p ps, ap (length {A = ℕ}) (flatten_left p ps))) in
        (p ∷ is, (refl, subst (Next p ps is) (sym (due-comes F s p d e)) (inr (omega arith, c))))
    more (p ∷ ps) s us h (holds w e g v) l = go (scan F (w ++ p)) refl
      where
        go : (y : Found) → scan F (w ++ p) ≡ y → (is : List (List ℕ)) × InPackets F b s (p ∷ ps) is
        go part f =
            let (is, c) = ih ps (record_of (hold (w ++ p))) [] (w ++ p) (stands-hold E room b (w ++ p) (part-hold E (w ++ p) f)) (omega (arith, length-append p (flatten ps))) in
            let d : drop (length p) p ≡ [] = drop-length p in
            (p ∷ is, (refl, subst (Next p ps is) (sym (reads-found F b s w p part g f)) (inr (omega arith, rw d c))))
        go (bad m) f = (p ∷ [], (refl, subst (Next p ps []) (sym (reads-found F b s w p (bad m) g f)) (inl (refl, refl))))
        go (well c m) f =
            let y = reads (width b) w p (well c m) in
            let part-w = hold-part E w v in
            let W = converts E room b w p c m part-w f in
            let q = drop y.answer.consumed p in
            let few = stands-few y.next W.rest [] W.stands in
            let k = ends-after E.scans w p c m part-w f in
            let i = ((E.scans.finds_well (w ++ p) c m).0 f).1 in
            let less : length q < length p = omega (arith, length-drop y.answer.consumed p, W.takes, k, i, length-append w p) in
            let (is, d) = ih (left_of q ps) y.next W.rest [] W.stands
            (omega (arith, ap (length {A = ℕ}) (flatten_left q ps), less, few, left-few q ps, length-append p (flatten ps), length-append q (flatten ps))) in
            (p ∷ is, (refl, subst (Next p ps is) (sym (reads-found F b s w p (well c m) g f)) (inr (omega (arith, W.good), d))))

  runs : (most : ℕ) → Runs most
  runs zero = none_left
    where
      none_left : Runs 0
      none_left [] s us h (holds w e g v) l = ([], (w, g))
      none_left [] s us h (waits u vs m d e v) l = absurd (omega arith)
      none_left (p ∷ ps) s us h st l = absurd (omega arith)
  runs (suc most) = more most (runs most)

  -- ---- which is one over their bytes

  in_packets : (is ps : List (List ℕ)) (s : Record) → InPackets F b s ps is → Run F b s (flatten ps) is
  unfolding flatten
  in_packets [] [] s c = (refl, c)
  in_packets [] (p ∷ ps) s c = absurd c
  in_packets (i ∷ is) [] s (e, z, c) =
      let y = reading F b s i in
      (([], rw e refl), inr (omega arith, rw (drop-nil {A = ℕ} y.answer.consumed) (in_packets is [] y.next c)))
  in_packets (i ∷ is) (p ∷ ps) s (e, c) = ((flatten ps, ap (λ (t : List ℕ). t ++ flatten ps) (sym e)), ⊎_elim inl (on (λ qs. in_packets is qs)) c)
    where
      y : Step
      y = reading F b s i

      rest : List ℕ
      rest = drop y.answer.consumed p

      whole : drop y.answer.consumed (p ++ flatten ps) ≡ flatten (left_of rest ps)
      whole = drop-append-le y.answer.consumed p (flatten ps) (omega (arith, (readings E room).within_input b s i, ap (length {A = ℕ}) e)) ∙ sym (flatten_left rest ps)

      on : ((qs : List (List ℕ)) (s : Record) → InPackets F b s qs is → Run F b s (flatten qs) is) → (y.answer.number < 3) × InPackets F b y.next (left_of rest ps) is
          → goes_on y.answer.number is (Run F b y.next (drop y.answer.consumed (p ++ flatten ps)) is)
      on ih (l, d) = inr (l, rw whole (ih (left_of rest ps) y.next d))

-- ---- for a coding

module _ (K : Coding) where
  fits : longest K ≤ 15
  fits = omega (arith, longest-few K)

  abbrev opened : T (open? (writer_form K))
  opened = (sound K).regular.is_open

  without-surro : (flags_of 4).surro ≡ false
  unfolding flags_of
  without-surro = refl

  told : (b : Bits) (x : List ℕ) → expect (encodes K) opened b 0 x ≡ at_once K b x
  told b x =
      ap (tells b 0 x)
      (sym (accepted K 4 (length x) x (takes-strict K) ∙ ap (λ (F : Form). Whole.reading F (flags_of 4) (length x) x) (same_form K (flags_of 4) without-surro)))
      ∙ rw (zero-add (Whole.decoding_in K 4 (length x) x).consumed) refl

  as_read : (b : Bits) (x : List ℕ) (is : List (List ℕ)) → Run (writer_form K) b start x is → outcome (writer_form K) b 0 start is ≡ at_once K b x
  unfolding before
  as_read b x is r = brings (encodes K) fits opened b is x start [] [] 0 0 (stands-hold (encodes K) fits b [] tt) refl r ∙ told b x

  pub uncut-steps : UncutSteps K
  uncut-steps =
      record {
        same = λ b x is js r t. as_read b x is r ∙ sym (as_read b x js t);
        as_read = as_read;
        some_run = λ b ps. runs (encodes K) fits b (left_over ps []) ps start [] [] (stands-hold (encodes K) fits b [] tt) (omega arith);
        in_packets = λ b ps is. in_packets (encodes K) fits b is ps start;
      }
