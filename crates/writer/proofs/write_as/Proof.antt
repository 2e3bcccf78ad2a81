-- The loop goes from place to place as the writing does. Assumes nothing.
use mathlib.Core.Path.{◌≡◌}
use Prim.Native.Nat.{ℕ, ◌-◌, ◌<◌}
use native.Mathlib.Omega.{arith}
use lib.ListN.{length, get_or}
use borrow.Author.Rules.{rules, scaled_Fits}
use Rattle.forms.specs.Forms.{rows_of}
use Rattle.sequence.specs.Leaf.{coded_of}
use Rattle.writings.proofs.Given.{given}
use Rattle.writer.proofs.Offered.{some-offered}
use Rattle.writer.proofs.Places.{Reached, reached-start, reached_end, reached-refused, reached-full, reached-next, answered}
use Rattle.forms.proofs.Forms.{form_writer}
use Rattle.writer.proofs.write_as.Statement.{statement}
use Rattle.writer.proofs.write_as.Tie as tie

abbrev invariant-codes : tie.invariant-codes
invariant-codes form m codes dst₀ at₀ n₀ dst at n = Reached (rows_of form) m codes dst₀ dst at n

abbrev decreases-codes : tie.decreases-codes
decreases-codes form m codes dst₀ at₀ n₀ dst at n = length codes - at

-- what the function was handed
abbrev start : tie.At-codes invariant-codes decreases-codes → tie.Start invariant-codes decreases-codes
start c = c.before.before.before

-- the place of the code that is written, or refused
abbrev place : tie.After-written-w invariant-codes decreases-codes → tie.At-codes invariant-codes decreases-codes
place c = c.before.before.before

abbrev code : tie.After-written-w invariant-codes decreases-codes → ℕ
code c = get_or (start (place c)).args.codes.now (place c).codes.at 0

is_code : (c : tie.After-written-w invariant-codes decreases-codes) → (place c).codes.at < length (start (place c)).args.codes.now
is_code c = omega (arith, (place c).codes.invariant.place)

is-given : (c : tie.After-written-w invariant-codes decreases-codes) → c.written-w.result ≡ coded_of (given (rows_of (start (place c)).args.form) (start (place c)).args.m (code c))
is-given c = c.written-w.ensures

-- where there is room for its bytes
abbrev turn : tie.After-struct_known-in-codes-2-1 invariant-codes decreases-codes → tie.After-put-arg-1 invariant-codes decreases-codes
turn c = c.before.before.before.before

abbrev with-room : tie.After-put-arg-1 invariant-codes decreases-codes → tie.After-written-w invariant-codes decreases-codes
with-room c = c.before.before.before.before.before

codes-holds : tie.Need-codes-init invariant-codes decreases-codes
codes-holds c = reached-start _ _ _ _

mul-written : tie.Need-offset_bounds-codes-at invariant-codes decreases-codes
mul-written c = scaled_Fits _ _ 4 (omega (arith, c.codes.invariant.place)) (start c.before).well_formed.1.1.0.1

shared-slice-read-written : tie.Need-bounds-codes-at invariant-codes decreases-codes
shared-slice-read-written c = omega (arith, c.codes.invariant.place)

sub-if3 : tie.Need-overflow_sub-dst invariant-codes decreases-codes
sub-if3 c = let r = (place c.before.before).codes.invariant in omega (arith, r.room, r.same)

put-requires : tie.Need-put-requires invariant-codes decreases-codes
put-requires c κs =
    let w = with-room c in
    let r = (place w).codes.invariant in
    let o = some-offered (rows_of (start (place w)).args.form) (form_writer (start (place w)).args.form) (start (place w)).args.m (code w) w.written-w.result (is-given w) c.if-w-eq0.false in
    (omega arith, o.most, omega (arith, r.room, r.same))

add-n : tie.Need-overflow_add-n invariant-codes decreases-codes
add-n c = let r = (place (with-room (turn c))).codes.invariant in omega (arith, r.room, r.same)

add_at : tie.Need-overflow_add-at invariant-codes decreases-codes
add_at c = omega (arith, is_code (with-room (turn c)))

codes-less : tie.Need-codes-smaller invariant-codes decreases-codes
codes-less c = omega (arith, is_code (with-room (turn c)))

codes-again : tie.Need-codes-preserved invariant-codes decreases-codes
codes-again c =
    let w = with-room (turn c) in
    rw c.put.ensures
    (reached-next (place w).codes.invariant (form_writer (start (place w)).args.form) w.written-w.result (is_code w) (is-given w) (turn c).if-w-eq0.false (omega arith))

same_length : tie.Need-shape_of-dst-then-at-codes invariant-codes decreases-codes
same_length c = c.codes.invariant.same

returns : tie.Need-returns-then-at-codes invariant-codes decreases-codes
returns c = let d = c.before in answered 0 d.codes.invariant (reached_end d.codes.invariant c.if-at-codes.true)

same-length-2 : tie.Need-shape_of-dst-then-w-eq0 invariant-codes decreases-codes
same-length-2 c = (place c.before.before).codes.invariant.same

returns-2 : tie.Need-returns-then-w-eq0 invariant-codes decreases-codes
returns-2 c =
    let w = c.before.before in
    let r = (place w).codes.invariant in
    answered 3 r (reached-refused r (form_writer (start (place w)).args.form) w.written-w.result (is_code w) (is-given w) c.if-w-eq0.true)

same-length-3 : tie.Need-shape_of-dst-then-dst-n invariant-codes decreases-codes
same-length-3 c = (place c.before.before.before.before).codes.invariant.same

returns-3 : tie.Need-returns-then-dst-n invariant-codes decreases-codes
returns-3 c =
    let w = c.before.before.before.before in
    let r = (place w).codes.invariant in
    answered 1 r (reached-full r (form_writer (start (place w)).args.form) w.written-w.result (is_code w) (is-given w) c.if-w-eq0.false (omega arith))

pub write_as_spec : {M : Type 1} → statement M
write_as_spec =
    tie.close
    (tie.spec
    invariant-codes
    decreases-codes
    codes-holds
    mul-written
    shared-slice-read-written
    (λ c κs. search rules)
    sub-if3
    put-requires
    add-n
    add_at
    codes-less
    codes-again
    same_length
    returns
    same-length-2
    returns-2
    same-length-3
    returns-3)
