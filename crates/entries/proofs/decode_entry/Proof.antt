-- Each refusal by its test, and otherwise what the call gives. Assumes nothing.
use mathlib.Core.Path.{◌≡◌, sym, ap, subst, ◌∙◌}
use mathlib.Core.List.{[], ◌∷◌, ◌++◌}
use Prim.Native.Nat.{◌/◌, ◌≤◌, ◌<◌}
use native.Mathlib.Omega.{arith}
use mir.Syntax.{w64}
use mir.ValLaws.{to_z-of_z}
use lib.ListN.{length}
use borrow.Author.Rules.{rules, sfits_of}
use borrow.Author.Tests.{eq-eqb, ne_eqb, le-leb, lt-leb}
use Rattle.codings.proofs.Laws.{longest-few}
use Rattle.reader.specs.declared.Decoded.{Decoded}
use Rattle.readings.specs.Reading.{Reading, stopped, decoding_in}
use Rattle.reader.specs.Decoded.{decoded_of}
use Rattle.readings.proofs.Readings.{refused_nothing}
use Rattle.readings.proofs.Theorems.{refused-exactly, within, subpart-few}
use Rattle.numbers.specs.Number.{low_first}
use Rattle.quads.specs.Bytes.{laid}
use Rattle.entries.specs.Entry.{answer_of, given, decode_entry_in}
use Rattle.entries.proofs.Answers.{refuses, tells, decode-given}
use Rattle.entries.proofs.decode_entry.Statement.{statement}
use Rattle.entries.proofs.decode_entry.Tie as tie

returns : tie.Need-returns-then-report-ne-REPORT
unfolding decode_entry_in
returns c = simp (ne_eqb _ _ c.if-report-ne-REPORT.true)

returns-3 : tie.Need-returns-then-codes-gt-LIMIT
unfolding decode_entry_in
returns-3 c = simp (eq-eqb _ _ c.if-report-ne-REPORT.false, le-leb _ _ c.if-src-gt-LIMIT.false, lt-leb _ _ c.if-codes-gt-LIMIT.true)

module _ (c : tie.After-decode_packed-r) where
  abbrev start : tie.Start
  start = c.before.before.before.before.before.before.before.before

  abbrev R : Reading
  R = decoding_in start.args.coding start.args.flags (length start.args.codes.now / 4) start.args.src.now

  gives : given R.number R.consumed (length R.codes) R.subpart (laid R.codes) start.args.codes.now start.args.report.now
      ≡ decode_entry_in start.args.coding start.args.src.now start.args.codes.now start.args.flags start.args.report.now
  gives = decode-given start.args.coding start.args.src.now start.args.codes.now start.args.report.now start.args.flags c.before.before.before.before.if-report-ne-REPORT.false (omega arith) c.before.before.if-codes-gt-LIMIT.false

  number : R.number ≡ c.decode_packed-r.result.number
  unfolding decoded_of
  number = sym (ap (λ (x : Decoded). x.number) c.decode_packed-r.ensures.0)

  none : R.number ≡ 4 → laid R.codes ≡ []
  unfolding stopped
  none e = ap (λ (X : Reading). laid X.codes) (refused_nothing _ _ _ _ ((refused-exactly _ _ _ _).0 e))

  few : c.decode_packed-r.result.produced ≤ 1048576
  unfolding decoded_of
  few = rw c.decode_packed-r.ensures.0 (omega (arith, (within start.args.coding start.args.flags (length start.args.codes.now / 4) start.args.src.now).1, c.before.before.if-codes-gt-LIMIT.false))

  short : c.decode_packed-r.result.subpart < 256
  unfolding decoded_of
  short = rw c.decode_packed-r.ensures.0 (omega (arith, subpart-few start.args.coding start.args.flags (length start.args.codes.now / 4) start.args.src.now, longest-few start.args.coding))

returns-5 : tie.Need-returns
unfolding decoded_of
returns-5 c =
    let t = c.before.before.before in
    let d = t.before.before.before.before.before.before.before in
    let told = subst (λ (x : Decoded). (c.answer.result ≡ answer_of x.number x.produced) × (t.put_report.new.report ≡ low_first 8 x.consumed ++ (x.subpart ∷ []))) d.decode_packed-r.ensures.0 (c.answer.ensures, t.put_report.ensures) in
    simp (to_z-of_z w64 c.answer.result (sfits_of c.answer.type_inv))
    (tells _ _ _ _ _ _ _ _ _ _ (λ e. t.if-r-eq4.false (sym (number d) ∙ e)) d.decode_packed-r.ensures.1 told ∙ gives d)

pub decode_entry_spec : {M : Type 1} → statement M
decode_entry_spec =
    tie.close
    (tie.spec
    returns
    (λ c. unfold decode_entry_in in simp (eq-eqb _ _ c.if-report-ne-REPORT.false, lt-leb (length c.args.src.now) 1048576 (omega arith)))
    returns-3
    (λ c κs. search rules)
    (λ c. search rules)
    (λ c. let d = c.before.before.before.before in let e = number d ∙ c.if-r-eq4.true in refuses _ _ _ _ _ _ _ _ e (none d e) d.decode_packed-r.ensures.1 ∙ gives d)
    (λ c. omega (arith, short c.before.before.before.before.before))
    (λ c κs. search rules)
    (λ c κs. few c.before.before.before.before.before.before.before.before.before)
    (λ c. search rules)
    (λ c. search rules)
    returns-5)
