use Rattle.std.proofs.Common.{◌+◌, ◌≤◌, length, refl, arith}
use Rattle.readings.proofs.Come.{singles-put, singles-same}
use Rattle.read_leap.proofs.strays.Goals as goal

pub loop-n-preserved : goal.loop-n-preserved
loop-n-preserved g c =
    let L = g.met.C.Cell.laws in
    let H = g.met.C.Cell.rooms in
    let r = c.loop-n.invariant in
    let n = c.loop-n.n in
    let h : g.C.Cell.cells n + g.C.Cell.cells 1 ≤ length c.args.codes.now = omega (arith, L.adds n 1, H.fits (n + 1) (length c.args.codes.now) (omega arith)) in
    singles-put L r _ _ _ (omega arith) refl c.single_of-in-loop-n.ensures (λ _. omega arith) h (c.put-in-loop-n.ensures.inside (omega (arith, h, singles-same L r)))
