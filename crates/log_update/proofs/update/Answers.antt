use Rattle.std.proofs.Common.{◌≡◌, ◌⊎◌, ◌<◌, ◌*◌, ◌+◌, ◌-◌, ap, sym, ◌∙◌, length, arith, inl, inr}
use borrow.Rule.Slice.PartMut.{put_mid}
use Rattle.numbers.specs.Number.{over}
use Rattle.log_index.specs.Update.{Indexing, refused, updating}
use Rattle.log_index.proofs.Bytes.{updating-outside}
use Rattle.log_update.specs.Answer.{answer_of}
use Rattle.log_update.proofs.Answer.{told_answer}
use Rattle.log_update.proofs.Assembled.{updated-full, updated-all}
use Rattle.log_update.proofs.update.Goals as goal
use Rattle.log_update.proofs.update.Goals.{Joined-then-log-was, Then-not-are_few, After-lay_records-laid, then-log-was-via-then-log-was, then-log-was-via-else-log-was+then-room-old}

outside : (c : Joined-then-log-was) → updating c.args.log.now c.args.was c.args.index.now c.args.old ≡ refused 15
outside c =
    let h : (length c.args.log.now < c.args.was) ⊎ (length c.args.index.now < c.args.old * 8) =
    elim c.then-log-was.branch [ then-log-was-via-then-log-was w ↦ inl w.if-log-was.true | then-log-was-via-else-log-was+then-room-old w ↦ inr (omega (arith, w.if-room-old.true)) ]
    in
    updating-outside c.args.log.now c.args.was c.args.index.now c.args.old h

pub returns-then-log-was-clause-answer : goal.returns-then-log-was-clause-answer
returns-then-log-was-clause-answer c = ap answer_of (sym (outside c))

pub returns-then-log-was-clause-output : goal.returns-then-log-was-clause-output
returns-then-log-was-clause-output c =
    ap (λ (I : Indexing). over I.bytes c.args.index.now) (sym (outside c))

full : (c : Then-not-are_few) → updating c.args.log.now c.args.was c.args.index.now c.args.old ≡ refused 1
full c =
    updated-full c.args.log.now c.args.index.now c.args.was c.args.old (omega arith) (omega arith) c.count_standing-count.result c.count_standing-count.ensures.count
    c.resume_after-place.result.0 c.resume_after-place.ensures.place c.resume_after-place.result.1 c.resume_after-place.ensures.skip (sym c.are_few.ensures ∙ c.if-not-are_few.true)

pub returns-then-not-are_few-clause-answer : goal.returns-then-not-are_few-clause-answer
returns-then-not-are_few-clause-answer c = ap answer_of (sym (full c))

pub returns-then-not-are_few-clause-output : goal.returns-then-not-are_few-clause-output
returns-then-not-are_few-clause-output c =
    ap (λ (I : Indexing). over I.bytes c.args.index.now) (sym (full c))

whole : (c : After-lay_records-laid)
    → let I = updating c.args.log.now c.args.was c.args.index.now c.args.old in
    let k = c.count_standing-count.result in
    (I.number ≡ 0) × (I.records ≡ k + c.lay_records-laid.result) × (put_mid (k * 8) (length c.args.index.now - k * 8) c.args.index.now c.lay_records-laid.new.out ≡ over I.bytes c.args.index.now)
whole c =
    updated-all c.args.log.now c.args.index.now c.args.was c.args.old (omega arith) (omega arith) c.count_standing-count.result c.count_standing-count.ensures.count
    c.resume_after-place.result.0 c.resume_after-place.ensures.place c.resume_after-place.result.1 c.resume_after-place.ensures.skip
    (λ i. omega (arith, c.slice_known-1.given i)) (sym c.are_few.ensures ∙ c.if-not-are_few.false) c.lay_records-laid.result c.lay_records-laid.new.out (c.lay_records-laid.ensures.answer, c.lay_records-laid.ensures.output)

pub returns-clause-answer : goal.returns-clause-answer
returns-clause-answer c = let (a, b, o) = whole (goal.at.returns-clause-answer c).After-lay_records-laid in told_answer (updating c.args.log.now c.args.was c.args.index.now c.args.old) _ (a, b)

pub returns-clause-output : goal.returns-clause-output
returns-clause-output c = (whole (goal.at.returns-clause-output c).After-lay_records-laid).2
