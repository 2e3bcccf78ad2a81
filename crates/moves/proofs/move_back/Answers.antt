-- Each arm is what that kind is to the step back. Assumes nothing.
use Rattle.std.proofs.Common.{◌≡◌, ℕ, [], ◌∷◌, Some, None, arith, rules, sym, ap, ◌∙◌}
use types.Run.{OneOf}
use denote.Enum.Declared.{tag_of}
use mathlib.Core.Logic.{⊎_elim}
use Rattle.form.specs.Table.{plain}
use Rattle.form.proofs.Utf8.{plain-scans}
use Rattle.state.specs.declared.Kind.{Kind}
use Rattle.state.specs.declared.Kind.TheVariants.{Starting, Partial, Trail, Low, High}
use Rattle.state.specs.contracts.Kind.{the_type}
use Rattle.state.specs.declared.Record.{Record}
use Rattle.state.specs.Meaning.{Sense, valid, high, sense_of}
use Rattle.state.proofs.Laid.{shows, unit_where}
use Rattle.validity.proofs.Told.{Is, told_is}
use Rattle.back.specs.Back.{refuse, after, back_by, step_back}
use Rattle.moves.proofs.move_back.Goals as goal

module _ (s : Record) (u : ℕ) where
  at : (x : Sense) → sense_of plain s ≡ x → back_by x s u ≡ step_back s u
  unfolding step_back
  at x e = ap (λ (y : Sense). back_by y s u) (sym e)

  -- of the kinds that are refused, none is the step back's
  refuses : (k : Kind) → OneOf (1 ∷ 2 ∷ 3 ∷ []) (tag_of the_type k) → Is (Some k) (sense_of plain s) → refuse s ≡ step_back s u
  refuses Starting t e = absurd (⊎_elim (λ z. omega arith) (⊎_elim (λ z. omega arith) (λ z. omega arith)) t)
  refuses Partial t (h, e) = at _ e
  refuses Trail t (us, e) = at _ e
  refuses Low t (l, e) = at _ e
  refuses High t e = absurd (⊎_elim (λ z. omega arith) (⊎_elim (λ z. omega arith) (λ z. omega arith)) t)

pub returns-in-Some-Starting : goal.returns-in-Some-Starting
returns-in-Some-Starting c =
    c.back_alone.ensures ∙ at c.args.s c.args.u _ (told_is _ (Some Starting) _ (c.in-Some-Starting.is ∙ ap Some c.in-Some-Starting.field-0-is) c.kind_of.ensures)

pub returns-in-Some-High : goal.returns-in-Some-High
returns-in-Some-High c =
    let s = c.args.s in
    let (h, e) = told_is _ (Some High) _ (c.in-Some-High.is ∙ ap Some c.in-Some-High.field-0-is) c.kind_of.ensures in
    let v = shows plain-scans (high h) s e in
    c.back_after.ensures ∙ ap (λ (x : ℕ). after x c.args.u) (c.unit_of.ensures ∙ unit_where s.count h s.bytes v.within v.says) ∙ at s c.args.u (valid (high h)) e

pub returns-in-Some-Partial : goal.returns-in-Some-Partial
returns-in-Some-Partial c =
    let t : OneOf (1 ∷ 2 ∷ 3 ∷ []) (tag_of the_type c.in-Some-Partial.field-0) = search rules in
    c.refused.ensures ∙ refuses c.args.s c.args.u c.in-Some-Partial.field-0 t (told_is _ (Some c.in-Some-Partial.field-0) _ c.in-Some-Partial.is c.kind_of.ensures)

pub returns-in-None : goal.returns-in-None
returns-in-None c = c.refused-in-None.ensures ∙ at c.args.s c.args.u _ (told_is _ None _ c.in-None.is c.kind_of.ensures)
