use Rattle.std.proofs.Common.{◌≡◌, [], ◌∷◌, ◌+◌, ◌≤◌, min, length, ℕ, sym, ap, ◌∙◌, arith}
use Rattle.forms.specs.Forms.{rows_of}
use Rattle.readings.specs.Reading.{reading}
use Rattle.readings.proofs.Come.{none-empty, puts-front}
use Rattle.decode.proofs.Item.{one}
use Rattle.decode.proofs.read_one.Goals as goal

pub returns-clause-output : goal.returns-clause-output
returns-clause-output g c =
    let L = g.met.C.Cell.laws in
    let a = c.args in
    let o = one (rows_of a.form) a.m a.s.now c.min-room.result c.read_as-r.result (0 ∷ []) c.read_as-r.new.codes (omega arith) (omega arith) c.read_as-r.ensures.answer c.read_as-r.ensures.output in
    let h : g.C.Cell.cells 0 + g.C.Cell.cells 1 ≤ length a.codes.now = omega (arith, none-empty L, g.met.C.Cell.rooms.fits 1 (length a.codes.now) (omega (arith, o.few))) in
    let e : c.min-room.result ≡ min (g.C.Cell.room (length a.codes.now)) 1 = c.min-room.ensures ∙ ap (λ (k : ℕ). min k 1) c.room.ensures in
    rw (sym (ap (λ (k : ℕ). (reading (rows_of a.form) a.m k a.s.now).codes) e) ∙ o.a_code (λ z. omega arith))
    (puts-front L a.codes.now _ (_ ∷ []) h (c.put.ensures.inside h))
