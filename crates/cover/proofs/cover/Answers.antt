use Rattle.std.proofs.Common.{◌-◌, refl, sym, ◌∙◌, arith}
use Rattle.cover.proofs.Window.{moved, unmoved, refused}
use Rattle.cover.proofs.cover.Goals as goal

pub returns-then-log-p : goal.returns-then-log-p
returns-then-log-p c = refused c.args.log.now c.args.p c.if-log-p.true

pub returns-in_err-c : goal.returns-in_err-c
returns-in_err-c c =
    absurd (unmoved c.args.log.now c.args.p c.saturating_sub-first.result c.min-end.result (c.args.p - c.saturating_sub-first.result) (omega arith) (omega arith) (omega arith) refl
    (sym c.in_err-c.was ∙ c.cover_in.ensures))

pub overflow_add-result : goal.overflow_add-result
overflow_add-result c =
    let m = moved c.args.log.now c.args.p c.saturating_sub-first.result c.min-end.result (c.args.p - c.saturating_sub-first.result) (omega arith) (omega arith) (omega arith) refl
    c.in_ok-c.c (sym c.in_ok-c.was ∙ c.cover_in.ensures) in
    omega (arith, m.0)

pub returns : goal.returns
returns c =
    (moved c.args.log.now c.args.p c.saturating_sub-first.result c.min-end.result (c.args.p - c.saturating_sub-first.result) (omega arith) (omega arith) (omega arith) refl
    c.in_ok-c.c (sym c.in_ok-c.was ∙ c.cover_in.ensures)).1
