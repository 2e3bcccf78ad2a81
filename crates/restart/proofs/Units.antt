-- The units of a code come out in order, and the step back makes its sequence of them again. Assumes nothing.
use mathlib.Core.Path.{◌≡◌, refl, sym, ap, ap₂, ◌∙◌, subst}
use mathlib.Core.Bool.{Bool, true, false}
use mathlib.Core.List.{List, [], ◌∷◌, ◌++◌, map, append-nil, map-map, map-id}
use Prim.Native.Nat.{ℕ, suc, ◌≤◌, ◌<◌}
use native.Mathlib.Omega.{arith}
use lib.Dec.{eqb}
use lib.ListN.{length, take}
use lib.Seq.{take-length, take-take, take-append_seam}
use borrow.Author.Tests.{eqb-true}
use Rattle.form.specs.Table.{Form, plain, cesu, In, Codes, Scalar}
use Rattle.form.specs.Scan.{well}
use Rattle.form.specs.Text.{sequence}
use Rattle.form.proofs.Rows.{true_in, false_in}
use Rattle.form.proofs.Sequences.{scalar-outside}
use Rattle.form.proofs.Cesu.{cesu_form}
use Rattle.form.proofs.EncodingForms.{EncodingForm, plain_form}
use Rattle.utf16.specs.Utf16.{highs, lows, utf16, paired}
use Rattle.utf16.proofs.Laws.{Coded, alone, pair, scalar-units}
use Rattle.state.specs.Meaning.{Meaning, starting, held, trail, low, high, Valid, valid, record_of, sense_of}
use Rattle.state.specs.declared.Record.{Record}
use Rattle.units.specs.Width.{left}
use Rattle.advance.specs.Step.{continuation, Told, tell, to, reads, step}
use Rattle.back.specs.Back as Back
use Rattle.back.specs.Back.{step_back}
use Rattle.restart.specs.Runs.{Bits, eight, sixteen, thirty_two, width, reading, answers, state_after, bytes_back, state_back}
use Rattle.restart.specs.Packets.{start}
use Rattle.restart.proofs.States.{Units, code_units, sense-state, sense-valid, reads_on, fits}

-- ---- pending units

-- what a step finds pending
pub data Due : Bits → Meaning → List ℕ → Type 0 where
  none : {b : Bits} {m : Meaning} → Due b m []
  some : (us : List ℕ) → Due eight (trail us) us
  one : (u : ℕ) → Due sixteen (low u) (u ∷ [])

due : (b : Bits) (m : Meaning) → Due b m ((width b).due m)
due eight starting = none
due eight (held h) = none
due eight (trail us) = some us
due eight (low u) = none
due eight (high u) = none
due sixteen starting = none
due sixteen (held h) = none
due sixteen (trail us) = none
due sixteen (low u) = one u
due sixteen (high u) = none
due thirty_two m = none

-- a call brings the first of them, and the others stay
pub due-comes : (F : Form) {b : Bits} {m : Meaning} {u : ℕ} {us : List ℕ} (s : Record) (i : List ℕ) → Due b m (u ∷ us) → sense_of F s ≡ valid m
    → reading F b s i ≡ to (tell continuation 0 u 0 0) (left (width b) us)
unfolding step
due-comes F s i (some vs) e = rw e refl
due-comes F s i (one v) e = rw e refl

pub due-rest : (F : Form) {b : Bits} {m : Meaning} {u : ℕ} {us : List ℕ} → Due b m (u ∷ us) → Valid F m → Due b (left (width b) us) us × Valid F (left (width b) us)
due-rest F {us = []} (some vs) v = (none, tt)
due-rest F {us = x ∷ us} (some vs) v = (some (x ∷ us), ((omega arith, omega arith), v.1.1))
due-rest F (one u) v = (none, tt)

-- where none are left the state is the starting state
left-none : (b : Bits) (us : List ℕ) → us ≡ [] → record_of (left (width b) us) ≡ start
left-none b us e = rw e refl

pub due-few : (F : Form) {b : Bits} {m : Meaning} {us : List ℕ} → Due b m us → Valid F m → length us ≤ 3
due-few F none v = omega arith
due-few F (some us) v = v.0.1
due-few F (one u) v = omega arith

pub pending_few : (F : Form) (b : Bits) (m : Meaning) → Valid F m → length ((width b).due m) ≤ 3
pending_few F b m v = due-few F (due b m) v

one-due : {m : Meaning} {us : List ℕ} → Due sixteen m us → length us ≤ 1
one-due none = omega arith
one-due (one u) = omega arith

pub pending_one : (m : Meaning) → length ((width sixteen).due m) ≤ 1
pending_one m = one-due (due sixteen m)

-- ---- a whole sequence

pub code_zero : (b : Bits) → (width b).units 0 ≡ 0 ∷ []
unfolding plain utf16
code_zero eight = refl
code_zero sixteen = refl
code_zero thirty_two = refl

-- the others are due in that state
pub rest-due : (b : Bits) (c : ℕ) → Scalar c → (u : Units (width b) c) → Due b (left (width b) u.rest) u.rest
rest-due b c s u = go b u.first u.rest u.are
  where
    go : (b : Bits) (x : ℕ) (us : List ℕ) → (width b).units c ≡ x ∷ us → Due b (left (width b) us) us
    go eight x [] e = none
    go eight x (y ∷ us) e = some (y ∷ us)
    go thirty_two x us e = let r : us ≡ [] = cc in rw r none
    go sixteen x us e = by (utf16 c) e (scalar-units c s)
      where
        by : (vs : List ℕ) → vs ≡ x ∷ us → Coded c vs → Due sixteen (left (width sixteen) us) us
        by vs q (alone t l) = let r : us ≡ [] = cc in rw r none
        by vs q (pair h l i j k) = let r : us ≡ l ∷ [] = cc in rw r (one l)

told-units : (us : List ℕ) → map (λ (t : Told). t.unit) (map (λ u. tell continuation 0 u 0 0) us) ≡ us
told-units us = map-map (λ (t : Told). t.unit) (λ u. tell continuation 0 u 0 0) us ∙ map-id us

-- ---- for any form

module _ {F : Form} {n : ℕ} (E : EncodingForm F n) (room : n ≤ 15) where
  -- they come out of as many calls
  out : (us : List ℕ) (b : Bits) (m : Meaning) (s : Record) (is : List (List ℕ)) → Due b m us → sense_of F s ≡ valid m → length is ≡ length us
      → (answers F b s is ≡ map (λ u. tell continuation 0 u 0 0) us) × ((us ≡ [] → s ≡ start) → state_after F b s is ≡ start)
  out [] b m s [] d e l = (refl, λ h. h refl)
  out [] b m s (i ∷ is) d e l = absurd (omega arith)
  out (u ∷ us) b m s [] d e l = absurd (omega arith)
  out (u ∷ us) b m s (i ∷ is) d e l =
      let n = left (width b) us in
      let (q, v) = due-rest F d (sense-valid E s m e) in
      let r = out us b n (record_of n) is q (sense-state E room n v) (omega arith) in
      rw (due-comes F s i d e) (ap (λ (t : List Told). tell continuation 0 u 0 0 ∷ t) r.0, λ h. r.1 (left-none b us))

  pub pending : (b : Bits) (s : Record) (m : Meaning) (is : List (List ℕ)) → sense_of F s ≡ valid m → length is ≡ length ((width b).due m)
      → (answers F b s is ≡ map (λ u. tell continuation 0 u 0 0) ((width b).due m)) × ((1 ≤ length is) → state_after F b s is ≡ start)
  pending b s m is e l =
      let r = out ((width b).due m) b m s is (due b m) e l in
      (r.0, λ h. r.1 (λ q. absurd (omega (arith, ap (length {A = ℕ}) q))))

  found : (b : Bits) (w : List ℕ) (c : ℕ) → Codes F w c → reading F b start w ≡ reads (width b) [] w (well c (length w))
  found b w c d =
      reads_on F b start [] w (sense-state E room starting tt) ∙ ap (reads (width b) [] w) ((E.scans.finds_well w c (length w)).1 (rw (take-length w) d, omega arith))

  pub consumes : (b : Bits) (w : List ℕ) (c : ℕ) → Codes F w c → (reading F b start w).answer.consumed ≡ length w
  consumes b w c d = go (eqb c 0) refl
    where
      go : (t : Bool) → eqb c 0 ≡ t → (reading F b start w).answer.consumed ≡ length w
      go true e =
          let z : w ≡ 0 ∷ [] = (E.ascii w 0 (omega arith)).0 (subst (λ (x : ℕ). Codes F w x) (eqb-true c 0 e) d) in
          rw (found b w c d, e) (sym (ap (length {A = ℕ}) z))
      go false e = rw (found b w c d, e) (omega arith)

  -- its first unit, and the state for the others
  first : (b : Bits) (w : List ℕ) (c : ℕ) → Codes F w c → (u : Units (width b) c)
      → ((reading F b start w).answer.unit ≡ u.first) × ((reading F b start w).next ≡ record_of (left (width b) u.rest))
  first b w c d u = go (eqb c 0) refl
    where
      go : (t : Bool) → eqb c 0 ≡ t → ((reading F b start w).answer.unit ≡ u.first) × ((reading F b start w).next ≡ record_of (left (width b) u.rest))
      go true e =
          let q : 0 ∷ [] ≡ u.first ∷ u.rest = sym (code_zero b) ∙ ap (width b).units (sym (eqb-true c 0 e)) ∙ u.are in
          let z : u.first ≡ 0 = cc in
          let r : u.rest ≡ [] = cc in
          rw (found b w c d, e, z, r) (refl, refl)
      go false e = rw (found b w c d, e, u.are) (refl, refl)

  pub whole : (b : Bits) (w : List ℕ) (c : ℕ) (is : List (List ℕ)) → Codes F w c → suc (length is) ≡ length ((width b).units c)
      → (map (λ (t : Told). t.unit) (answers F b start (w ∷ is)) ≡ (width b).units c) × (state_after F b start (w ∷ is) ≡ start)
  whole b w c is d l =
      let s = E.scalar w c d in
      let u = code_units b c s in
      let m = left (width b) u.rest in
      let (f, n) = first b w c d u in
      let r = out u.rest b m (record_of m) is (rest-due b c s u) (sense-state E room m (u.kept F)) (omega (arith, ap (length {A = ℕ}) u.are)) in
      rw (n, u.are) (ap₂ (λ (x : ℕ) (y : List ℕ). x ∷ y) f (ap (map (λ (t : Told). t.unit)) r.0 ∙ told-units u.rest), r.1 (left-none b u.rest))

-- ---- the step back

-- the bytes told are the sequence again
told-bytes : (c : ℕ) → take (length (sequence plain c)) (take 4 (sequence plain c ++ (0 ∷ 0 ∷ 0 ∷ 0 ∷ []))) ++ [] ≡ sequence plain c
told-bytes c =
    let w = sequence plain c in
    append-nil _ ∙ take-take (length w) 4 (w ++ (0 ∷ 0 ∷ 0 ∷ 0 ∷ [])) (plain_form.few c) ∙ take-append_seam w (0 ∷ 0 ∷ 0 ∷ 0 ∷ [])

back_alone : (c : ℕ) → Scalar c → c < 0x10000 → step_back start c ≡ Back.to (Back.tell Back.bytes 0 (sequence plain c) 0) starting
unfolding step_back
back_alone c s l =
    rw (sense-state plain_form fits starting tt, false_in highs c (λ h. omega (arith, scalar-outside c s h.0)), false_in lows c (λ h. omega (arith, scalar-outside c s (omega arith)))) refl

back-high : (h : ℕ) → In highs h → step_back start h ≡ Back.to (Back.tell Back.unit_held 0 [] 0) (high h)
unfolding step_back
back-high h p = rw (sense-state plain_form fits starting tt, true_in highs h p) refl

back_low : (h l : ℕ) → In highs h → In lows l → step_back (record_of (high h)) l ≡ Back.to (Back.tell Back.bytes 0 (sequence plain (paired h l)) 0) starting
unfolding step_back
back_low h l p q = rw (sense-state plain_form fits (high h) p, true_in lows l q) refl

pub back : (c : ℕ) → Scalar c → (bytes_back start (utf16 c) ≡ sequence plain c) × (state_back start (utf16 c) ≡ start)
back c s = go (utf16 c) (scalar-units c s)
  where
    go : (us : List ℕ) → Coded c us → (bytes_back start us ≡ sequence plain c) × (state_back start us ≡ start)
    go us (alone t l) = rw (state_back, back_alone c t l) (told-bytes c, refl)
    go us (pair h l p q e) = rw (state_back, back-high h p, back_low h l p q, e) (told-bytes c, refl)

pub there_and_back : (w : List ℕ) (c : ℕ) (is : List (List ℕ)) → Codes plain w c → suc (length is) ≡ length (utf16 c)
    → bytes_back start (map (λ (t : Told). t.unit) (answers plain sixteen start (w ∷ is))) ≡ w
there_and_back w c is d l = ap (bytes_back start) (whole plain_form fits sixteen w c is d l).0 ∙ (back c (plain_form.scalar w c d)).0 ∙ plain_form.only w c d

pub back_and_there : (c : ℕ) (is : List (List ℕ)) → Scalar c → suc (length is) ≡ length (utf16 c)
    → map (λ (t : Told). t.unit) (answers plain sixteen start (bytes_back start (utf16 c) ∷ is)) ≡ utf16 c
back_and_there c is s l =
    (whole plain_form fits sixteen (bytes_back start (utf16 c)) c is (rw (back c s).0 (plain_form.some c s)) l).0

pub cesu8_to_utf8 : (w : List ℕ) (c : ℕ) (is : List (List ℕ)) → Codes cesu w c → suc (length is) ≡ length (utf16 c)
    → bytes_back start (map (λ (t : Told). t.unit) (answers cesu sixteen start (w ∷ is))) ≡ sequence plain c
cesu8_to_utf8 w c is d l = ap (bytes_back start) (whole cesu_form (omega arith) sixteen w c is d l).0 ∙ (back c (cesu_form.scalar w c d)).0
