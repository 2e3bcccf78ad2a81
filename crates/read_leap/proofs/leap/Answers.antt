use Rattle.std.proofs.Common.{◌≡◌, ◌+◌, length, arith}
use Rattle.read_leap.proofs.Way.{way-ascii, way-sequence, way-passed, way-strays}
use Rattle.read_leap.proofs.leap.Goals as goal

pub places-preserved-then-s-at-lt128 : goal.places-preserved-then-s-at-lt128
places-preserved-then-s-at-lt128 g c =
    let L = g.met.C.Cell.laws in
    let e : c.cells-cell.result ≡ g.C.Cell.cells c.places.n = omega (arith, c.cells-cell.ensures, c.places.invariant.room) in
    rw e (way-ascii L c.args.m c.careful-care.ensures (omega arith) c.places.invariant _ _ (rw e at c.ascii-run.ensures)).0

pub overflow_add-at-in-Some : goal.overflow_add-at-in-Some
overflow_add-at-in-Some g c =
    let L = g.met.C.Cell.laws in
    let e : c.cells-cell.result ≡ g.C.Cell.cells c.places.n = omega (arith, c.cells-cell.ensures, c.places.invariant.room) in
    omega (arith, (way-sequence L c.args.m c.careful-care.ensures (omega arith) c.places.invariant _ _ (rw e at c.in-Some.ensures)).1)

pub places-preserved-in-Some : goal.places-preserved-in-Some
places-preserved-in-Some g c =
    let L = g.met.C.Cell.laws in
    let e : c.cells-cell.result ≡ g.C.Cell.cells c.places.n = omega (arith, c.cells-cell.ensures, c.places.invariant.room) in
    rw e (way-sequence L c.args.m c.careful-care.ensures (omega arith) c.places.invariant _ _ (rw e at c.in-Some.ensures)).0

pub overflow_add-n-in-places : goal.overflow_add-n-in-places
overflow_add-n-in-places g c =
    let L = g.met.C.Cell.laws in
    let e : c.cells-cell.result ≡ g.C.Cell.cells c.places.n = omega (arith, c.cells-cell.ensures, c.places.invariant.room) in
    let y = way-strays L c.args.m c.careful-care.ensures (omega arith) c.places.invariant _ (rw e at c.in_default.ensures) c.if-care.false _ _ (rw e at c.strays-run.ensures) in
    omega (arith, g.met.C.Cell.rooms.most (c.places.n + c.strays-run.result) (length c.args.codes.now) (omega (arith, y.0.room, y.0.same)), c.room.ensures, c.room.type_inv)

pub places-preserved : goal.places-preserved
places-preserved g c =
    let L = g.met.C.Cell.laws in
    let e : c.cells-cell.result ≡ g.C.Cell.cells c.places.n = omega (arith, c.cells-cell.ensures, c.places.invariant.room) in
    rw e (way-strays L c.args.m c.careful-care.ensures (omega arith) c.places.invariant _ (rw e at c.in_default.ensures) c.if-care.false _ _ (rw e at c.strays-run.ensures)).0

pub returns-then-care : goal.returns-then-care
returns-then-care g c =
    let L = g.met.C.Cell.laws in
    let e : c.cells-cell.result ≡ g.C.Cell.cells c.places.n = omega (arith, c.cells-cell.ensures, c.places.invariant.room) in
    rw e ((way-passed L c.args.m c.careful-care.ensures (omega arith) c.places.invariant _ (rw e at c.in_default.ensures)).onward c.args.m c.careful-care.ensures)

pub returns-then-run-eq0 : goal.returns-then-run-eq0
returns-then-run-eq0 g c =
    let L = g.met.C.Cell.laws in
    let e : c.cells-cell.result ≡ g.C.Cell.cells c.places.n = omega (arith, c.cells-cell.ensures, c.places.invariant.room) in
    rw e ((way-ascii L c.args.m c.careful-care.ensures (omega arith) c.places.invariant _ _ (rw e at c.ascii-run.ensures)).0.onward c.args.m c.careful-care.ensures)

pub returns-then-run-eq0-2 : goal.returns-then-run-eq0-2
returns-then-run-eq0-2 g c =
    let L = g.met.C.Cell.laws in
    let e : c.cells-cell.result ≡ g.C.Cell.cells c.places.n = omega (arith, c.cells-cell.ensures, c.places.invariant.room) in
    rw e ((way-strays L c.args.m c.careful-care.ensures (omega arith) c.places.invariant _ (rw e at c.in_default.ensures) c.if-care.false _ _ (rw e at c.strays-run.ensures)).0.onward c.args.m c.careful-care.ensures)
