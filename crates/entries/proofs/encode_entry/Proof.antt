-- Each refusal by its test, and otherwise what the call gives. Assumes nothing.
use mathlib.Core.Path.{◌≡◌, sym, ap, subst, ◌∙◌}
use mathlib.Core.List.{[], ◌∷◌, ◌++◌}
use Prim.Native.Nat.{◌≤◌}
use native.Mathlib.Omega.{arith}
use mir.Syntax.{w64}
use mir.ValLaws.{to_z-of_z}
use lib.ListN.{length}
use borrow.Author.Rules.{rules, sfits_of}
use borrow.Author.Tests.{eq-eqb, ne_eqb, le-leb, lt-leb}
use Rattle.writer.specs.declared.Encoded.{Encoded}
use Rattle.writings.specs.Writing.{Writing, encoding_in}
use Rattle.writer.specs.Encoded.{encoded_of}
use Rattle.writings.proofs.Theorems.{refused_nothing, within}
use Rattle.numbers.specs.Number.{low_first}
use Rattle.quads.specs.Bytes.{codes_of}
use Rattle.entries.specs.Entry.{answer_of, given, encode_entry_in}
use Rattle.entries.proofs.Answers.{refuses, tells, encode-given}
use Rattle.entries.proofs.encode_entry.Statement.{statement}
use Rattle.entries.proofs.encode_entry.Tie as tie

returns : tie.Need-returns-then-report-ne-REPORT
unfolding encode_entry_in
returns c = simp (ne_eqb _ _ c.if-report-ne-REPORT.true)

returns-2 : tie.Need-returns-then-codes-gt-LIMIT
unfolding encode_entry_in
returns-2 c = simp (eq-eqb _ _ c.if-report-ne-REPORT.false, lt-leb _ _ c.if-codes-gt-LIMIT.true)

returns-4 : tie.Need-returns-then-codes-ne0
unfolding encode_entry_in
returns-4 c = simp (eq-eqb _ _ c.if-report-ne-REPORT.false, le-leb _ _ c.if-codes-gt-LIMIT.false, le-leb _ _ c.if-dst-gt-LIMIT.false, ne_eqb _ _ c.if-codes-ne0.true)

module _ (c : tie.After-encode_packed-r) where
  abbrev start : tie.Start
  start = c.before.before.before.before.before.before.before.before.before

  abbrev W : Writing
  W = encoding_in start.args.coding start.args.flags (length start.args.dst.now) (codes_of start.args.codes.now)

  gives : given W.number W.consumed (length W.written) 0 W.written start.args.dst.now start.args.report.now
      ≡ encode_entry_in start.args.coding start.args.codes.now start.args.dst.now start.args.flags start.args.report.now
  gives = encode-given start.args.coding start.args.codes.now start.args.dst.now start.args.report.now start.args.flags c.before.before.before.before.before.if-report-ne-REPORT.false c.before.before.before.before.if-codes-gt-LIMIT.false (omega arith) c.before.before.if-codes-ne0.false

  number : W.number ≡ c.encode_packed-r.result.number
  unfolding encoded_of
  number = sym (ap (λ (x : Encoded). x.number) c.encode_packed-r.ensures.0)

  few : c.encode_packed-r.result.produced ≤ 1048576
  unfolding encoded_of
  few = rw c.encode_packed-r.ensures.0 (omega (arith, (within start.args.coding start.args.flags (length start.args.dst.now) (codes_of start.args.codes.now)).0))

returns-6 : tie.Need-returns
unfolding encoded_of
returns-6 c =
    let t = c.before.before.before in
    let d = t.before.before.before.before.before.before in
    let told = subst (λ (x : Encoded). (c.answer.result ≡ answer_of x.number x.produced) × (t.put_report.new.report ≡ low_first 8 x.consumed ++ (0 ∷ []))) d.encode_packed-r.ensures.0 (c.answer.ensures, t.put_report.ensures) in
    simp (to_z-of_z w64 c.answer.result (sfits_of c.answer.type_inv))
    (tells _ _ _ _ _ _ _ _ _ _ (λ e. t.if-r-eq4.false (sym (number d) ∙ e)) d.encode_packed-r.ensures.1 told ∙ gives d)

pub encode_entry_spec : {M : Type 1} → statement M
encode_entry_spec =
    tie.close
    (tie.spec
    returns
    returns-2
    (λ c. unfold encode_entry_in in simp (eq-eqb _ _ c.if-report-ne-REPORT.false, le-leb _ _ c.if-codes-gt-LIMIT.false, lt-leb (length c.args.dst.now) 1048576 (omega arith)))
    returns-4
    (λ c κs. search rules)
    (λ c. search rules)
    (λ c. let d = c.before.before.before.before in let e = number d ∙ c.if-r-eq4.true in refuses _ _ _ _ _ _ _ _ e (refused_nothing _ _ _ _ e).1 d.encode_packed-r.ensures.1 ∙ gives d)
    (λ c κs. search rules)
    (λ c κs. few c.before.before.before.before.before.before.before.before)
    (λ c. search rules)
    (λ c. search rules)
    returns-6)
