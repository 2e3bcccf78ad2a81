-- Each branch gives what the writer's definition does in any form. Assumes nothing.
use mathlib.Core.Path.{◌≡◌, refl, sym, ap, ◌∙◌}
use mathlib.Core.List.{List, [], ◌∷◌}
use Prim.Native.Nat.{ℕ, ◌-◌, ◌≤◌}
use native.Mathlib.Omega.{arith}
use borrow.Author.Rules.{rules}
use Rattle.forms.specs.Forms.{rows_of}
use Rattle.sequence.specs.declared.Coded.{Coded}
use Rattle.sequence.specs.Leaf.{coded_of}
use Rattle.writings.proofs.Given.{given, given-ascii, given-high, given-surro, given-strict, given-escape, given-other}
use Rattle.forms.proofs.Forms.{form_writer}
use Rattle.writer.proofs.written.Statement.{statement}
use Rattle.writer.proofs.written.Lts.{by_way16}
use Rattle.writer.proofs.written.Tie as tie

-- a result that is the bytes of w, where w is given
is-given : (s : tie.Start) (w : List ℕ) (r : Coded) → r ≡ coded_of w → given (rows_of s.args.form) s.args.m s.args.c ≡ w
    → r ≡ coded_of (given (rows_of s.args.form) s.args.m s.args.c)
is-given s w r e h = e ∙ ap coded_of (sym h)

returns-2 : tie.Need-returns-then-c-gt65535
returns-2 c =
    let s = c.before.before.before in
    let a = s.args in
    is-given s _ _ c.bytes_of.ensures (given-high (rows_of a.form) (form_writer a.form) a.m a.c (omega arith))

-- ---- from 80 to FFFF

abbrev start : tie.Else-c-gt65535 → tie.Start
start d = d.before.before

few : (d : tie.Else-c-gt65535) → (start d).args.c ≤ 0xFFFF
few d = omega (arith, d.if-c-gt65535.false)

returns-3 : tie.Need-returns-then-m
returns-3 c =
    let d = c.before.before in
    let a = (start d).args in
    is-given (start d) _ _ c.bytes_of-then-m.ensures (given-surro (rows_of a.form) (form_writer a.form) a.m a.c (few d) c.if-m.true)

returns-4 : tie.Need-returns-then-m-2
returns-4 c =
    let d = c.before.before.before in
    let a = (start d).args in
    is-given (start d) _ _ c.bytes_of-then-m-2.ensures (given-strict (rows_of a.form) (form_writer a.form) a.m a.c (few d) c.if-m.false c.if-m-2.true)

pub written_spec : {M : Type 1} → statement M
written_spec =
    tie.close
    (tie.spec
    (λ c. search rules)
    (λ c. unfold coded_of in let s = c.before in let a = s.args in is-given s (a.c ∷ []) _ refl (given-ascii (rows_of a.form) (form_writer a.form) a.m a.c (omega arith)))
    (λ c κs. search rules)
    returns-2
    (λ c κs. search rules)
    returns-3
    (λ c κs. search rules)
    returns-4
    (λ c. search rules)
    (λ c. search rules)
    (λ c κs. search rules)
    (λ c.
    unfold coded_of in
    let e = c.before in
    let d = e.before.before in
    let a = (start d).args in
    is-given (start d) ((a.c - 0xDC00) ∷ []) _ refl
    (given-escape (rows_of a.form) (form_writer a.form) a.m a.c (few d) e.if-m.false e.if-m-2.false (omega arith)))
    (λ c.
    let e = c.before.before in
    let d = e.before.before in
    let a = (start d).args in
    is-given (start d) _ _ c.bytes_of-in_default.ensures
    (given-other (rows_of a.form) (form_writer a.form) a.m a.c (few d) e.if-m.false e.if-m-2.false
    (λ h. by_way16 tie.the-claims tie.handed_pre tie.handed_post c.in_default.branch (λ w. omega arith) (λ w. omega arith)))))
