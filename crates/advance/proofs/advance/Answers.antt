-- Each arm is what that kind is to a step. Assumes nothing.
use Rattle.std.proofs.Common.{arith, refl, sym, ap, ◌∙◌, subst, rules, length, ℕ, ◌≡◌, Option, Some, None, List, [], ◌∷◌}
use types.Run.{OneOf}
use denote.Enum.Declared.{tag_of}
use mathlib.Core.Logic.{⊎_elim}
use Rattle.forms.specs.declared.Form.{Form}
use Rattle.forms.specs.Forms.{rows_of}
use Rattle.forms.proofs.Forms.{form_scans, form_nil}
use Rattle.state.specs.declared.Kind.{Kind}
use Rattle.state.specs.declared.Kind.TheVariants.{Starting, Partial, Trail, Low, High}
use Rattle.state.specs.contracts.Kind.{the_type}
use Rattle.state.specs.declared.Record.{Record}
use Rattle.state.specs.Meaning.{low, valid, sense_of}
use Rattle.advance.specs.Advance.{Advances, Holding}
use Rattle.validity.proofs.Told.{Is, told_is}
use Rattle.advance.proofs.From.{holding-start, holding-held, from-trail, from_low, from-high, from-invalid}
use Rattle.advance.proofs.advance.Goals.{in-Some+in-High-1, in-None-1}
use Rattle.advance.proofs.advance.Goals as goal

-- of the kinds that are read, each holds the bytes of a partial sequence, or none
holds : (f : Form) (s : Record) (k : Kind) → length s.bytes ≡ 14 → OneOf (0 ∷ 1 ∷ []) (tag_of the_type k) → Is (Some k) (sense_of (rows_of f) s) → Holding (rows_of f) s
holds f s Starting l t e = holding-start (form_scans f) s l (form_nil f) e
holds f s Partial l t (h, e) = holding-held (form_scans f) s l h e
holds f s Trail l t e = absurd (⊎_elim (λ z. omega arith) (λ z. omega arith) t)
holds f s Low l t e = absurd (⊎_elim (λ z. omega arith) (λ z. omega arith) t)
holds f s High l t e = absurd (⊎_elim (λ z. omega arith) (λ z. omega arith) t)

pub read-requires : goal.read-requires
read-requires c =
    let t : OneOf (0 ∷ 1 ∷ []) (tag_of the_type c.in-Some-Starting.field-0) = search rules in
    holds c.args.form c.args.s c.in-Some-Starting.field-0 (search rules) t (told_is _ (Some c.in-Some-Starting.field-0) _ c.in-Some-Starting.is c.kind_of.ensures)

pub returns-in-Some-Trail : goal.returns-in-Some-Trail
returns-in-Some-Trail c =
    let (us, e) = told_is _ (Some Trail) _ (c.in-Some-Trail.is ∙ ap Some c.in-Some-Trail.field-0-is) c.kind_of.ensures in
    let (rest, (f, g)) = from-trail (form_scans c.args.form) c.args.s c.args.input.now us e in
    (rest, (f, c.after_first.ensures ∙ g))

pub returns-in-Some-Low : goal.returns-in-Some-Low
returns-in-Some-Low c =
    let (u, e) = told_is _ (Some Low) _ (c.in-Some-Low.is ∙ ap Some c.in-Some-Low.field-0-is) c.kind_of.ensures in
    let (f, g) = from_low (form_scans c.args.form) c.args.s c.args.input.now u e in
    (f ∙ ap (λ (x : ℕ). valid (low x)) (sym c.unit_of.ensures), c.start.ensures)

pub returns-in-Some-High : goal.returns-in-Some-High
returns-in-Some-High c =
    elim c.in-Some-High-1.branch [
      | in-Some+in-High-1 w ↦
          let e : c.kind_of.result ≡ Some High = search rules in
          let (u, h) = told_is _ (Some High) _ e c.kind_of.ensures in
          subst (Advances (rows_of c.args.form) c.args.s c.args.input.now) (sym c.done.ensures) (from-high (form_scans c.args.form) c.args.s c.args.input.now u h)
      | in-None-1 w ↦
          let e : c.kind_of.result ≡ None = search rules in
          let h = told_is _ None _ e c.kind_of.ensures in
          subst (Advances (rows_of c.args.form) c.args.s c.args.input.now) (sym c.done.ensures) (from-invalid (form_scans c.args.form) c.args.s c.args.input.now h)
    ]
