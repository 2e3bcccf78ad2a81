use Rattle.std.proofs.Common.{◌≡◌, ap, refl, ◌∙◌, arith, length}
use Rattle.form.specs.Pattern.{pattern, cesu_pattern}
use Rattle.form.specs.Text.{sequence}
use Rattle.form.proofs.Cesu.{cesu-long}
use Rattle.forms.specs.Forms.{rows_of}
use Rattle.forms.proofs.Forms.{form_writer}
use Rattle.writings.specs.Singled.{Ascii, Single}
use Rattle.writings.proofs.Leaps.{pattern-two, pattern-three, pattern_four, writes-ascii, writes-escape, writes-single}
use Rattle.writings.proofs.Leaping.{leaping-one, leaping-short, leaping-long, leaping-run}
use Rattle.write_leap.proofs.leap.Goals as goal

pub loop-at-preserved-then-c-lt128 : goal.loop-at-preserved-then-c-lt128
loop-at-preserved-then-c-lt128 g c =
    let F = rows_of c.args.form in
    let W = form_writer c.args.form in
    let first = leaping-one c.loop-at.invariant _ (omega arith) c.get-c.ensures c.low.result c.low.ensures (λ t. writes-ascii F W c.args.m _ t (omega arith)) (omega arith) in
    leaping-run first Ascii _ _ _ (omega arith) c.rest.ensures.left c.run_out-k.ensures (writes-ascii F W c.args.m)

pub loop-at-preserved-then-c-lt2048 : goal.loop-at-preserved-then-c-lt2048
loop-at-preserved-then-c-lt2048 g c =
    leaping-short c.loop-at.invariant _ (omega arith) c.get-c.ensures (form_writer c.args.form) _ 2 (omega arith) (λ u. omega arith)
    (ap length (pattern-two _ (omega arith) (omega arith))) (omega arith) c.put2.ensures

pub loop-at-preserved-then-c-lt-FIRST_SURROGATE : goal.loop-at-preserved-then-c-lt-FIRST_SURROGATE
loop-at-preserved-then-c-lt-FIRST_SURROGATE g c =
    leaping-short c.loop-at.invariant _ (omega arith) c.get-c.ensures (form_writer c.args.form) _ 3 (omega arith) (λ u. omega arith)
    (ap length (pattern-three _ (omega arith) (omega arith))) (omega arith) c.put3.ensures

pub loop-at-preserved-then-has_pairs : goal.loop-at-preserved-then-has_pairs
loop-at-preserved-then-has_pairs g c =
    let x = c.get-c.result in
    let pair : sequence (rows_of c.args.form) x ≡ cesu_pattern x = c.has_pairs.ensures x (omega arith) (omega arith) ∙ rw c.if-has_pairs.true refl in
    leaping-long c.loop-at.invariant x (omega arith) c.get-c.ensures (form_writer c.args.form) _ _ 6 (omega arith) (omega arith) pair
    (ap length (cesu-long x _ _ refl refl (omega arith) (omega arith))) (omega arith) c.put6.ensures

pub loop-at-preserved-then-c-gt65535 : goal.loop-at-preserved-then-c-gt65535
loop-at-preserved-then-c-gt65535 g c =
    let x = c.get-c.result in
    let own : sequence (rows_of c.args.form) x ≡ pattern x = c.has_pairs.ensures x (omega arith) (omega arith) ∙ rw c.if-has_pairs.false refl in
    leaping-long c.loop-at.invariant x (omega arith) c.get-c.ensures (form_writer c.args.form) _ _ 4 (omega arith) (omega arith) own
    (ap length (pattern_four x (omega arith))) (omega arith) c.put4.ensures

pub loop-at-preserved-then-c-gt57343 : goal.loop-at-preserved-then-c-gt57343
loop-at-preserved-then-c-gt57343 g c =
    leaping-short c.loop-at.invariant _ (omega arith) c.get-c.ensures (form_writer c.args.form) _ 3 (omega arith) (λ u. omega arith)
    (ap length (pattern-three _ (omega arith) (omega arith))) (omega arith) c.put3-then-c-gt57343.ensures

pub loop-at-preserved : goal.loop-at-preserved
loop-at-preserved g c =
    let F = rows_of c.args.form in
    let W = form_writer c.args.form in
    let lax = c.careful.ensures c.if-careful.false in
    let first = leaping-one c.loop-at.invariant _ (omega arith) c.get-c.ensures c.low-in-loop-at.result c.low-in-loop-at.ensures
    (λ t. writes-escape F W c.args.m _ t lax.1 lax.0 (c.no_escape.ensures c.if-no_escape.false)) (omega arith)
    in
    leaping-run first Single _ _ _ (omega arith) c.rest-in-loop-at.ensures.left c.escapes_out-k.ensures (λ x t. writes-single F W c.args.m x t lax.1 lax.0)
