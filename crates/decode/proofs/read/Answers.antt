use Rattle.std.proofs.Common.{◌≡◌, ◌⊎◌, ◌+◌, ◌≤◌, length, arith, rules}
use Rattle.readings.proofs.Come.{come_start, come_same, come-room}
use Rattle.reader.proofs.Onward.{ended}
use Rattle.decode.proofs.Item.{item_read}
use Rattle.decode.proofs.read.Goals as goal

pub items-init : goal.items-init
items-init g c =
    come_start g.met.C.Cell.laws _ _ _ _

pub returns-then-place-s-clause-answer : goal.returns-then-place-s-clause-answer
returns-then-place-s-clause-answer g c =
    let L = g.met.C.Cell.laws in
    let k = c.leap-place.ensures.keeps c.args.codes.now c.items.invariant in
    (ended L k (g.C.Cell.room (length c.args.codes.now)) (g.met.C.Cell.rooms.most c.leap-place.result.n (length c.args.codes.now) (come-room L k)) c.if-place-s.true).0

pub returns-then-place-s-clause-output : goal.returns-then-place-s-clause-output
returns-then-place-s-clause-output g c =
    let L = g.met.C.Cell.laws in
    let k = c.leap-place.ensures.keeps c.args.codes.now c.items.invariant in
    (ended L k (g.C.Cell.room (length c.args.codes.now)) (g.met.C.Cell.rooms.most c.leap-place.result.n (length c.args.codes.now) (come-room L k)) c.if-place-s.true).1

pub slice_bounds-read_one-count : goal.slice_bounds-read_one-count
slice_bounds-read_one-count g c =
    let L = g.met.C.Cell.laws in
    let k = c.leap-place.ensures.keeps c.args.codes.now c.items.invariant in
    omega (arith, k.converts.within)

pub slice_bounds-read_one-start : goal.slice_bounds-read_one-start
slice_bounds-read_one-start g c =
    let L = g.met.C.Cell.laws in
    let k = c.leap-place.ensures.keeps c.args.codes.now c.items.invariant in
    omega (arith, k.converts.within)

pub offset_bounds-codes-cell : goal.offset_bounds-codes-cell
offset_bounds-codes-cell g c =
    let L = g.met.C.Cell.laws in
    let k = c.leap-place.ensures.keeps c.args.codes.now c.items.invariant in
    let e : c.cells-cell.result ≡ g.C.Cell.cells c.leap-place.result.n = omega (arith, c.cells-cell.ensures, come-room L k, come_same L k) in
    let h : c.cells-cell.result ≤ length c.leap-place.new.codes = omega (arith, come-room L k, come_same L k) in
    search rules

pub slice_bounds-read_one-count-in-items : goal.slice_bounds-read_one-count-in-items
slice_bounds-read_one-count-in-items g c =
    let L = g.met.C.Cell.laws in
    let k = c.leap-place.ensures.keeps c.args.codes.now c.items.invariant in
    let e : c.cells-cell.result ≡ g.C.Cell.cells c.leap-place.result.n = omega (arith, c.cells-cell.ensures, come-room L k, come_same L k) in
    omega (arith, come-room L k, come_same L k)

pub slice_bounds-read_one-start-in-items : goal.slice_bounds-read_one-start-in-items
slice_bounds-read_one-start-in-items g c =
    let L = g.met.C.Cell.laws in
    let k = c.leap-place.ensures.keeps c.args.codes.now c.items.invariant in
    let e : c.cells-cell.result ≡ g.C.Cell.cells c.leap-place.result.n = omega (arith, c.cells-cell.ensures, come-room L k, come_same L k) in
    omega (arith, come-room L k, come_same L k)

pub overflow_add-place : goal.overflow_add-place
overflow_add-place g c =
    let L = g.met.C.Cell.laws in
    let k = c.leap-place.ensures.keeps c.args.codes.now c.items.invariant in
    let e : c.cells-cell.result ≡ g.C.Cell.cells c.leap-place.result.n = omega (arith, c.cells-cell.ensures, come-room L k, come_same L k) in
    let i = item_read L g.met.C.Cell.rooms k _ e _ _ c.read_one-r.ensures.answer c.read_one-r.ensures.output in
    omega (arith, i.place)

pub overflow_add-place-in-items : goal.overflow_add-place-in-items
overflow_add-place-in-items g c =
    let L = g.met.C.Cell.laws in
    let k = c.leap-place.ensures.keeps c.args.codes.now c.items.invariant in
    let e : c.cells-cell.result ≡ g.C.Cell.cells c.leap-place.result.n = omega (arith, c.cells-cell.ensures, come-room L k, come_same L k) in
    let i = item_read L g.met.C.Cell.rooms k _ e _ _ c.read_one-r.ensures.answer c.read_one-r.ensures.output in
    omega (arith, i.few, c.room-room.type_inv)

pub returns-then-done-clause-answer : goal.returns-then-done-clause-answer
returns-then-done-clause-answer g c =
    let L = g.met.C.Cell.laws in
    let k = c.leap-place.ensures.keeps c.args.codes.now c.items.invariant in
    let e : c.cells-cell.result ≡ g.C.Cell.cells c.leap-place.result.n = omega (arith, c.cells-cell.ensures, come-room L k, come_same L k) in
    let i = item_read L g.met.C.Cell.rooms k _ e _ _ c.read_one-r.ensures.answer c.read_one-r.ensures.output in
    let u : (c.read_one-r.result.number ≡ 1 → ⊥) ⊎ (c.leap-place.result.n + c.read_one-r.result.produced ≡ g.C.Cell.room (length c.args.codes.now)) = grind (arith, c.room-room.ensures) in
    (i.ends u).0

pub returns-then-done-clause-output : goal.returns-then-done-clause-output
returns-then-done-clause-output g c =
    let L = g.met.C.Cell.laws in
    let k = c.leap-place.ensures.keeps c.args.codes.now c.items.invariant in
    let e : c.cells-cell.result ≡ g.C.Cell.cells c.leap-place.result.n = omega (arith, c.cells-cell.ensures, come-room L k, come_same L k) in
    let i = item_read L g.met.C.Cell.rooms k _ e _ _ c.read_one-r.ensures.answer c.read_one-r.ensures.output in
    let u : (c.read_one-r.result.number ≡ 1 → ⊥) ⊎ (c.leap-place.result.n + c.read_one-r.result.produced ≡ g.C.Cell.room (length c.args.codes.now)) = grind (arith, c.room-room.ensures) in
    (i.ends u).1

pub items-smaller : goal.items-smaller
items-smaller g c =
    let L = g.met.C.Cell.laws in
    let k = c.leap-place.ensures.keeps c.args.codes.now c.items.invariant in
    let e : c.cells-cell.result ≡ g.C.Cell.cells c.leap-place.result.n = omega (arith, c.cells-cell.ensures, come-room L k, come_same L k) in
    let i = item_read L g.met.C.Cell.rooms k _ e _ _ c.read_one-r.ensures.answer c.read_one-r.ensures.output in
    omega (arith, (i.goes_on (omega arith) (λ e. omega arith)).1, i.few, c.leap-place.ensures.forth)

pub items-preserved : goal.items-preserved
items-preserved g c =
    let L = g.met.C.Cell.laws in
    let k = c.leap-place.ensures.keeps c.args.codes.now c.items.invariant in
    let e : c.cells-cell.result ≡ g.C.Cell.cells c.leap-place.result.n = omega (arith, c.cells-cell.ensures, come-room L k, come_same L k) in
    let i = item_read L g.met.C.Cell.rooms k _ e _ _ c.read_one-r.ensures.answer c.read_one-r.ensures.output in
    (i.goes_on (omega arith) (λ e. omega arith)).0
