-- What was consumed is within the bytes, and the rest begins there. Assumes nothing.
use mathlib.Core.Path.{refl, ap, ◌∙◌}
use Prim.Native.Nat.{ℕ, ◌≤◌}
use native.Mathlib.Omega.{arith}
use lib.ListN.{length, drop}
use borrow.Author.Rules.{rules}
use borrow.Author.Rules.{part_to_end}
use Rattle.codings.specs.declared.Coding.TheVariants.{Utf8}
use Rattle.reader.specs.declared.Decoded.{Decoded}
use Rattle.reader.specs.Decoded.{decoded_of}
use Rattle.readings.proofs.Theorems.{within}
use Rattle.rest.proofs.decode_rest.Statement.{statement}
use Rattle.rest.proofs.decode_rest.Tie as tie

consumed-within : (c : tie.After-decode-r) → c.decode-r.result.consumed ≤ length c.args.s.now
unfolding decoded_of
consumed-within c =
    let a = c.args in
    rw c.decode-r.ensures.0 (within Utf8 a.flags (length a.codes.now) a.s.now).0

returns : tie.Need-returns
unfolding decoded_of
returns c =
    let d = c.before.before.before in
    let s = d.args.s in
    let k = d.decode-r.result.consumed in
    let e = d.decode-r.ensures.0 in
    let h = ap (λ (r : Decoded). r.consumed) e in
    (record { bytes = part_to_end s.now k ∙ ap (λ (i : ℕ). drop i s.now) h; block = refl; offset = omega (arith, h) }, (ap (λ (r : Decoded). r.number) e, (ap (λ (r : Decoded). r.produced) e, (ap (λ (r : Decoded). r.subpart) e, d.decode-r.ensures.1))))

pub decode_rest_spec : {M : Type 1} → statement M
decode_rest_spec =
    tie.close
    (tie.spec (λ c κs. search rules) (λ c. consumed-within c.before.before) (λ c. consumed-within c.before.before) (λ c. search rules) (λ c. search rules) returns)
