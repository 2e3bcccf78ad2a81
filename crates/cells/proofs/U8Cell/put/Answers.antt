use Rattle.std.proofs.Common.{◌≡◌, ℕ, ◌+◌, ◌*◌, ◌/◌, ◌%◌, suc, refl, ◌∙◌, arith}
use Rattle.std.specs.Int.{w32, to_le_bytes}
use lib.Seq.{sets-eq}
use Rattle.numbers.specs.Number.{low_first}
use Rattle.cells.proofs.U8Cell.put.Goals as goal

le-low_first : (x : ℕ) → to_le_bytes w32 x ≡ low_first 4 x
le-low_first x =
    let e1 : x / 65536 % 256 ≡ x / 256 / 256 % 256 = omega arith in
    let e2 : x / 16777216 % 256 ≡ x / 256 / 256 / 256 % 256 = omega arith in
    rw (e1, e2) refl

-- four stores are one write of four bytes
pub returns-then-n-codes-clause-inside : goal.returns-then-n-codes-clause-inside
returns-then-n-codes-clause-inside c h =
    let at : ℕ = c.args.n * 4 in
    let e1 : at + 1 ≡ suc at = omega arith in
    let e2 : at + 2 ≡ suc (suc at) = omega arith in
    let e3 : at + 3 ≡ suc (suc (suc at)) = omega arith in
    rw (c.to_le_bytes.ensures ∙ le-low_first c.args.code, e1, e2, e3) (sets-eq (low_first 4 c.args.code) c.args.codes.now at (omega arith))
