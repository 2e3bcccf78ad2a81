-- The outer loop has read up to a place, and the inner loop walks the stages from there. Assumes nothing.
use mathlib.Core.Path.{◌≡◌, refl, sym, ◌∙◌}
use mathlib.Core.Bool.{cond}
use mathlib.Core.List.{List}
use Prim.Native.Nat.{ℕ, ◌+◌, ◌-◌, ◌<◌, max}
use native.Mathlib.Omega.{arith}
use lib.Dec.{eqb}
use lib.ListN.{length, take, drop}
use borrow.Author.Rules.{rules, scaled_Fits}
use Rattle.flags.specs.declared.Flags.{Flags}
use Rattle.forms.specs.declared.Form.{Form}
use Rattle.forms.specs.Forms.{rows_of}
use Rattle.form.specs.Pattern.{bits}
use Rattle.readings.specs.Reading.{turn, convert}
use Rattle.reader.proofs.Places.{Reached, reached-start, reached-within, reached-next, ends-stop, ends-full, ends-used-up, Walking, walk_begun, NoneAt, walk_on, turn_whole, turn_waits, none_partial, none_bad, none-strict, none_lax}
use Rattle.reader.proofs.read_as.Statement.{statement}
use Rattle.reader.proofs.read_as.Lts.{then-stage-le-WHOLE, else-stage-le-WHOLE+then-end-s+then-m}
use Rattle.reader.proofs.read_as.Tie as tie

abbrev invariant-bytes : tie.invariant-bytes
invariant-bytes form m s codes at n k stage₀ end₀ stage end = Walking form s at end stage

abbrev decreases-bytes : tie.decreases-bytes
decreases-bytes form m s codes at n k stage₀ end₀ stage end = length s - end

abbrev invariant-places : tie.invariant-places
invariant-places form m s codes₀ at₀ n₀ k₀ codes at n k = Reached (rows_of form) m s codes₀ codes at n × (k ≡ 0)

abbrev decreases-places : tie.decreases-places
decreases-places form m s codes₀ at₀ n₀ k₀ codes at n k = length codes₀ - n

-- ---- at a place of the outer loop

abbrev start : tie.At-places invariant-bytes decreases-bytes invariant-places decreases-places → tie.Start invariant-bytes decreases-bytes invariant-places decreases-places
start p = p.before.before.before

abbrev bytes : tie.At-places invariant-bytes decreases-bytes invariant-places decreases-places → List ℕ
bytes p = (start p).args.s.now

abbrev mode : tie.At-places invariant-bytes decreases-bytes invariant-places decreases-places → Flags
mode p = (start p).args.m

abbrev form : tie.At-places invariant-bytes decreases-bytes invariant-places decreases-places → Form
form p = (start p).args.form

room-left : (p : tie.At-places invariant-bytes decreases-bytes invariant-places decreases-places) → (p.places.n ≡ length p.places.codes → ⊥) → p.places.n < length (start p).args.codes.now
room-left p h = omega (arith, p.places.invariant.0.room, p.places.invariant.0.same)

-- ---- where the inner loop has ended

abbrev place : tie.At-bytes invariant-bytes decreases-bytes invariant-places decreases-places → tie.At-places invariant-bytes decreases-bytes invariant-places decreases-places
place b = b.before.before.before.before

abbrev rest : tie.At-bytes invariant-bytes decreases-bytes invariant-places decreases-places → List ℕ
rest b = drop (place b).places.at (bytes (place b))

abbrev size : tie.At-bytes invariant-bytes decreases-bytes invariant-places decreases-places → ℕ
size b = b.bytes.end - (place b).places.at

whole : (c : tie.Then-found-eq-WHOLE invariant-bytes decreases-bytes invariant-places decreases-places)
    → turn (rows_of (form (place c.before.before))) (mode (place c.before.before)) (rest c.before.before)
    ≡ convert (bits (take (size c.before.before) (rest c.before.before))) (size c.before.before)
whole c =
    let b = c.before.before in
    elim c.if-stage-le-WHOLE.branch [
      | then-stage-le-WHOLE w ↦ turn_whole b.bytes.invariant (mode (place b)) (sym w.found-is ∙ c.if-found-eq-WHOLE.true)
      | else-stage-le-WHOLE+then-end-s+then-m w ↦ absurd (omega (arith, w.found-is, c.if-found-eq-WHOLE.true))
    ]

none : (c : tie.Else-found-eq-WHOLE invariant-bytes decreases-bytes invariant-places decreases-places)
    → NoneAt (form (place c.before.before)) (mode (place c.before.before)) (bytes (place c.before.before)) (place c.before.before).places.at
    (cond (eqb c.bytes.stage 0) (max 1 (size c.before.before - 1)) (size c.before.before))
none c =
    let b = c.before.before in
    elim c.if-stage-le-WHOLE.branch [
      | then-stage-le-WHOLE w ↦ none_bad b.bytes.invariant (mode (place b)) (omega (arith, w.if-stage-le-WHOLE.true, w.found-is, c.if-found-eq-WHOLE.false))
      | else-stage-le-WHOLE+then-end-s+then-m w ↦ none_partial b.bytes.invariant (mode (place b)) w.if-stage-le-WHOLE.false w.if-end-s.true w.if-m.true
    ]

-- by the length that the code has
none-by : (u : tie.After-subpart_by-len invariant-bytes decreases-bytes invariant-places decreases-places)
    → NoneAt (form (place u.before.before.before)) (mode (place u.before.before.before)) (bytes (place u.before.before.before)) (place u.before.before.before).places.at
    u.subpart_by-len.result
none-by u = rw u.subpart_by-len.ensures (none u.before)

-- ---- the turns

places-holds : tie.Need-places-init invariant-bytes decreases-bytes invariant-places decreases-places
places-holds c = (reached-start _ _ _ _, refl)

bytes-holds : tie.Need-bytes-init invariant-bytes decreases-bytes invariant-places decreases-places
bytes-holds c =
    let p = c.before.before.before in
    walk_begun (form p) (bytes p) p.places.at c.first-stage.result (omega (arith, p.places.invariant.0.place))
    (omega (arith, c.shared_slice_known-in-places-1.given p.places.at))
    c.first-stage.ensures

bytes-again : tie.Need-bytes-preserved invariant-bytes decreases-bytes invariant-places decreases-places
bytes-again c =
    let b = c.before.before.before.before in
    walk_on b.bytes.invariant (mode (place b)) c.next-stage.result (omega arith) (omega (arith, b.bytes.invariant.within)) c.next-stage.ensures

places-again : tie.Need-places-preserved-then-found-eq-WHOLE invariant-bytes decreases-bytes invariant-places decreases-places
places-again c =
    let b = c.before.before.before.before.before in
    let p = place b in
    let e : p.places.at + size b ≡ b.bytes.end = omega (arith, b.bytes.invariant.begins) in
    let r = reached-next p.places.invariant.0 _ (size b) (whole c.before.before.before) (room-left p (λ e. omega arith)) in
    (rw c.code_of.ensures (rw e at r), p.places.invariant.1)

places-again-2 : tie.Need-places-preserved invariant-bytes decreases-bytes invariant-places decreases-places
places-again-2 c =
    let u = c.before.before.before.before.before in
    let p = place u.before.before.before in (
      rw (c.stray.ensures, c.taken-at.ensures)
          (reached-next p.places.invariant.0 _ _ (none_lax (none-by u) c.if-m-2.false) (room-left p c.if-n-codes-2.false)),
      p.places.invariant.1,
    )

-- ---- the stops

returns : tie.Need-returns-then-at-s invariant-bytes decreases-bytes invariant-places decreases-places
returns c = let p = c.before in rw p.places.invariant.1 (ends-used-up p.places.invariant.0 c.if-at-s.true)

returns-2 : tie.Need-returns-else-m invariant-bytes decreases-bytes invariant-places decreases-places
returns-2 c =
    let b = c.before.before.before in
    let p = place b in
    rw p.places.invariant.1 (ends-stop p.places.invariant.0 2 0 (turn_waits b.bytes.invariant (mode p) c.if-stage-le-WHOLE.false c.if-end-s.true c.if-m.false))

returns-3 : tie.Need-returns-then-n-codes invariant-bytes decreases-bytes invariant-places decreases-places
returns-3 c =
    let p = place c.before.before.before in
    rw p.places.invariant.1 (ends-full p.places.invariant.0 _ _ (whole c.before) (c.if-n-codes.true ∙ p.places.invariant.0.same))

returns-4 : tie.Need-returns-then-m-2 invariant-bytes decreases-bytes invariant-places decreases-places
returns-4 c =
    let u = c.before in
    let p = place u.before.before.before in
    ends-stop p.places.invariant.0 3 u.subpart_by-len.result (none-strict (none-by u) c.if-m-2.true)

returns-5 : tie.Need-returns-then-n-codes-2 invariant-bytes decreases-bytes invariant-places decreases-places
returns-5 c =
    let u = c.before.before in
    let p = place u.before.before.before in
    rw p.places.invariant.1 (ends-full p.places.invariant.0 _ _ (none_lax (none-by u) c.if-m-2.false) (c.if-n-codes-2.true ∙ p.places.invariant.0.same))

pub read_as_spec : {M : Type 1} → statement M
read_as_spec =
    tie.close
    (tie.spec
    invariant-bytes
    decreases-bytes
    invariant-places
    decreases-places
    places-holds
    (λ c. omega (arith, c.places.invariant.0.place))
    (λ c κs. search rules)
    (λ c. omega (arith, c.places.invariant.0.place))
    bytes-holds
    (λ c. omega (arith, c.bytes.invariant.within))
    (λ c κs. search rules)
    (λ c. omega (arith, c.bytes.invariant.within))
    (λ c. omega (arith, c.bytes.invariant.within))
    bytes-again
    (λ c. omega (arith, c.bytes.invariant.begins))
    (λ c. omega (arith, c.bytes.invariant.begins))
    (λ c. c.bytes.invariant.within)
    (λ c κs. search rules)
    (λ c. let p = place c.before.before.before.before.before in scaled_Fits p.places.n (length (start p).args.codes.now) 4 (room-left p c.if-n-codes.false) (start p).well_formed.1.1.1.0.1)
    (λ c. let p = place c.before.before.before.before.before in omega (arith, p.places.invariant.0.same, room-left p c.if-n-codes.false))
    (λ c. let p = place c.before.before.before.before.before in omega (arith, room-left p c.if-n-codes.false))
    (λ c. let p = place c.before.before.before.before.before in omega (arith, room-left p c.if-n-codes.false))
    places-again
    (λ c. let b = c.before.before in omega (arith, b.bytes.invariant.begins))
    (λ c κs. search rules)
    (λ c. let b = c.before.before.before.before.before.before in omega (arith, b.bytes.invariant.begins, b.bytes.invariant.within))
    (λ c κs. search rules)
    (λ c. let p = place c.before.before.before.before.before.before.before in scaled_Fits p.places.n (length (start p).args.codes.now) 4 (room-left p c.if-n-codes-2.false) (start p).well_formed.1.1.1.0.1)
    (λ c. let p = place c.before.before.before.before.before.before.before in omega (arith, p.places.invariant.0.same, room-left p c.if-n-codes-2.false))
    (λ c. let p = place c.before.before.before.before.before.before.before in omega (arith, room-left p c.if-n-codes-2.false))
    (λ c κs. search rules)
    (λ c.
    let u = c.before.before.before.before.before in
    let p = place u.before.before.before in
    omega (arith, c.taken-at.ensures, reached-within p.places.invariant.0 _ _ (none_lax (none-by u) c.if-m-2.false)))
    (λ c. let p = place c.before.before.before.before.before.before.before.before in omega (arith, room-left p c.if-n-codes-2.false))
    places-again-2
    (λ c. c.places.invariant.0.same)
    returns
    (λ c. (place c.before.before.before).places.invariant.0.same)
    returns-2
    (λ c. (place c.before.before.before).places.invariant.0.same)
    returns-3
    (λ c. (place c.before.before.before.before).places.invariant.0.same)
    returns-4
    (λ c. (place c.before.before.before.before.before).places.invariant.0.same)
    returns-5)
