use Rattle.std.proofs.Common.{◌≡◌, [], ◌∷◌, ◌+◌, ◌-◌, length, ◌∙◌, refl, arith}
use borrow.Rule.Slice.PartMut.{mid_of, mid_len}
use Rattle.readings.proofs.Come.{none-empty, puts-join}
use Rattle.read_leap.proofs.Four.{puts_lent}
use Rattle.read_leap.proofs.put_four.Goals as goal

pub returns : goal.returns
returns g c =
    let L = g.met.C.Cell.laws in
    let w = g.C.Cell.cells in
    let p = c.args in
    let d = p.codes.now in
    let e : c.cells-first.result ≡ w p.n = omega (arith, c.cells-first.ensures, c.requires) in
    let k : c.cells.result ≡ w 4 = omega (arith, c.cells.ensures, c.requires) in
    let s = mid_of c.cells-first.result (c.cells-first.result + c.cells.result - c.cells-first.result) d in
    let m : length s ≡ w 4 = mid_len c.cells-first.result (c.cells-first.result + c.cells.result) d (omega (arith, c.requires)) ∙ (let z : c.cells-first.result + c.cells.result - c.cells-first.result ≡ w 4 = omega arith in z) in
    let z = none-empty L in
    let one = c.put.ensures.inside (omega (arith, m, z, L.adds 1 3)) in
    let two = c.put-2.ensures.inside (omega (arith, m, L.adds 1 1, L.adds 2 2, c.put.auto.codes)) in
    let three = c.put-3.ensures.inside (omega (arith, m, L.adds 2 1, L.adds 3 1, c.put.auto.codes, c.put-2.auto.codes)) in
    let four = c.put-4.ensures.inside (omega (arith, m, L.adds 3 1, c.put.auto.codes, c.put-2.auto.codes, c.put-3.auto.codes)) in
    let both = puts-join L s _ _ 0 1 (p.a ∷ []) (p.b ∷ []) refl (omega (arith, m, z, L.adds 2 2)) (rw c.from.ensures at one) (rw c.from-2.ensures at two) in
    let most = puts-join L s _ _ 0 2 (p.a ∷ p.b ∷ []) (p.c ∷ []) refl (omega (arith, m, z, L.adds 3 1)) both (rw c.from-3.ensures at three) in
    let all = puts-join L s _ _ 0 3 (p.a ∷ p.b ∷ p.c ∷ []) (p.d ∷ []) refl (omega (arith, m, z)) most (rw c.from-4.ensures at four) in
    rw (e, k) (puts_lent L d _ p.n 4 (p.a ∷ p.b ∷ p.c ∷ p.d ∷ []) refl c.requires (omega (arith, rw (e, k) at m, z)) (rw (e, k) at all))
