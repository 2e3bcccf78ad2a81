-- The unused places are the part of the array from the count on. Assumes nothing.
use Rattle.std.proofs.Common.{arith, rules, ap, ◌∙◌}
use Rattle.std.specs.Bool.{then_some}
use Rattle.forms.specs.Forms.{rows_of}
use Rattle.state.specs.Meaning.{sense_of}
use Rattle.validity.proofs.ByKind.{numbered, unnumbered, beyond, unknown, clear, unclear}
use Rattle.validity.proofs.kind_of.Goals.{then-all_in, else-all_in}
use Rattle.validity.proofs.kind_of.Goals as goal

pub returns-in_err-used : goal.returns-in_err-used
unfolding sense_of
returns-in_err-used c =
    c.from_residual.ensures ∙ beyond (rows_of c.args.form) c.args.s.count c.args.s.bytes c.args.s.kind (omega (arith, c.in_err-used.ensures.cases))

pub returns-in_err-kind : goal.returns-in_err-kind
unfolding sense_of
returns-in_err-kind c =
    c.from_residual-in_err-kind.ensures
    ∙ unknown (rows_of c.args.form) c.args.s.count c.args.s.bytes c.args.s.kind (omega (arith, c.in_ok-used.ensures.cases.0)) (unnumbered _ _ c.try_from.ensures (search rules))

pub returns : goal.returns
unfolding sense_of
returns c =
    let p = c.in_ok-used.ensures.cases in
    let n = numbered _ _ c.in_ok-kind.kind c.try_from.ensures (search rules) in
    c.then_some.ensures
    ∙ elim c.if-all_in.branch [
      | then-all_in w ↦
          ap (λ b. then_some b c.in_ok-kind.kind) w.then_some-is
          ∙ clear (rows_of c.args.form) c.args.s.count c.args.s.bytes _ _ _ _ _ n c.from.ensures p _ w.if-all_in.ensures w.is_valid.ensures
      | else-all_in w ↦
          ap (λ b. then_some b c.in_ok-kind.kind) (w.then_some-is ∙ w.if-all_in.false)
          ∙ unclear (rows_of c.args.form) c.args.s.count c.args.s.bytes _ _ _ _ _ n c.from.ensures p w.if-all_in.ensures
    ]
