use Rattle.std.proofs.Common.{◌<◌, length, sym, ◌∙◌, arith}
use Rattle.writings.proofs.Come.{come_start, come_within, come_ended}
use Rattle.encode.proofs.Answers.{refused, answers, by-produced, one_taken, called-one}
use Rattle.encode.proofs.encode_in.Goals as goal

pub returns-then-writer_refuses_in : goal.returns-then-writer_refuses_in
returns-then-writer_refuses_in g c =
    let refusal = refused c.args.coding c.args.flags _ c.args.dst.now (sym c.writer_refuses_in.ensures ∙ c.if-writer_refuses_in.true) in
    let (a, o) = by-produced _ _ _ c.args.dst.now _ _ refusal in
    record { answer = a; output = o }

pub loop-place-init : goal.loop-place-init
loop-place-init g c = come_start _ _ _ _

pub slice_bounds-write_as-count : goal.slice_bounds-write_as-count
slice_bounds-write_as-count g c = (come_within (c.leap-place.ensures.keeps _ c.loop-place.invariant)).1

pub slice_bounds-write_as-start : goal.slice_bounds-write_as-start
slice_bounds-write_as-start g c = (come_within (c.leap-place.ensures.keeps _ c.loop-place.invariant)).1

pub overflow_add-place : goal.overflow_add-place
overflow_add-place g c =
    let leapt = c.leap-place.ensures.keeps _ c.loop-place.invariant in
    let within : c.leap-place.result.at < length (g.C.Source.codes c.args.codes.now) = omega (arith, (come_within leapt).0) in
    let code = c.one-one.ensures ∙ g.met.C.Source.singles _ _ _ (one_taken _ _ within _ c.get.ensures) in
    let one = called-one leapt within _ c.get.ensures _ code _ _ c.write_as-r.ensures.answer c.write_as-r.ensures.output in
    omega (arith, one.place)

pub overflow_add-place-in-loop-place : goal.overflow_add-place-in-loop-place
overflow_add-place-in-loop-place g c =
    let leapt = c.leap-place.ensures.keeps _ c.loop-place.invariant in
    let within : c.leap-place.result.at < length (g.C.Source.codes c.args.codes.now) = omega (arith, (come_within leapt).0) in
    let code = c.one-one.ensures ∙ g.met.C.Source.singles _ _ _ (one_taken _ _ within _ c.get.ensures) in
    let one = called-one leapt within _ c.get.ensures _ code _ _ c.write_as-r.ensures.answer c.write_as-r.ensures.output in
    omega (arith, one.room, one.same)

pub loop-place-smaller : goal.loop-place-smaller
loop-place-smaller g c =
    let leapt = c.leap-place.ensures.keeps _ c.loop-place.invariant in
    let within : c.leap-place.result.at < length (g.C.Source.codes c.args.codes.now) = omega (arith, (come_within leapt).0) in
    let code = c.one-one.ensures ∙ g.met.C.Source.singles _ _ _ (one_taken _ _ within _ c.get.ensures) in
    let one = called-one leapt within _ c.get.ensures _ code _ _ c.write_as-r.ensures.answer c.write_as-r.ensures.output in
    omega (arith, c.leap-place.ensures.codes_forth, one.forth c.if-r-ne0.false, one.place)

pub loop-place-preserved : goal.loop-place-preserved
loop-place-preserved g c =
    let leapt = c.leap-place.ensures.keeps _ c.loop-place.invariant in
    let within : c.leap-place.result.at < length (g.C.Source.codes c.args.codes.now) = omega (arith, (come_within leapt).0) in
    let code = c.one-one.ensures ∙ g.met.C.Source.singles _ _ _ (one_taken _ _ within _ c.get.ensures) in
    let one = called-one leapt within _ c.get.ensures _ code _ _ c.write_as-r.ensures.answer c.write_as-r.ensures.output in
    one.goes_on c.if-r-ne0.false

pub returns-then-place-count : goal.returns-then-place-count
returns-then-place-count g c =
    let accepted = sym c.writer_refuses_in.ensures ∙ c.if-writer_refuses_in.false in
    let leapt = c.leap-place.ensures.keeps _ c.loop-place.invariant in
    let ended = answers _ _ _ _ accepted c.writer_form-form.ensures c.flags_of-m.ensures _ (come_ended leapt (c.if-place-count.true ∙ c.count-count.ensures)) in
    let (a, o) = by-produced _ _ _ c.args.dst.now _ _ ended in
    record { answer = a; output = o }

pub returns-then-r-ne0 : goal.returns-then-r-ne0
returns-then-r-ne0 g c =
    let accepted = sym c.writer_refuses_in.ensures ∙ c.if-writer_refuses_in.false in
    let leapt = c.leap-place.ensures.keeps _ c.loop-place.invariant in
    let within : c.leap-place.result.at < length (g.C.Source.codes c.args.codes.now) = omega (arith, (come_within leapt).0) in
    let code = c.one-one.ensures ∙ g.met.C.Source.singles _ _ _ (one_taken _ _ within _ c.get.ensures) in
    let one = called-one leapt within _ c.get.ensures _ code _ _ c.write_as-r.ensures.answer c.write_as-r.ensures.output in
    let ended = answers _ _ _ _ accepted c.writer_form-form.ensures c.flags_of-m.ensures _ (one.ends c.if-r-ne0.true) in
    let (a, o) = by-produced _ _ _ c.args.dst.now _ _ ended in
    record { answer = a; output = o }
