use Rattle.std.proofs.Common.{sym, ◌∙◌, length}
use Rattle.forms.specs.Forms.{rows_of}
use Rattle.decode.proofs.Item.{answered, refused}
use Rattle.decode.proofs.decode_in.Goals as goal

pub returns-then-reader_refuses_in-clause-answer : goal.returns-then-reader_refuses_in-clause-answer
returns-then-reader_refuses_in-clause-answer g c =
    let a = c.args in
    (refused g.met.C.Cell.laws a.coding a.flags (g.C.Cell.room (length a.codes.now)) a.s.now a.codes.now (sym c.reader_refuses_in.ensures ∙ c.if-reader_refuses_in.true)).0

pub returns-clause-answer : goal.returns-clause-answer
returns-clause-answer g c =
    let a = c.args in
    (answered g.met.C.Cell.laws a.coding a.flags (g.C.Cell.room (length a.codes.now)) a.s.now (rows_of c.reader_form-form.result) c.flags_of-m.result _ _ _ (sym c.reader_refuses_in.ensures ∙ c.if-reader_refuses_in.false)
    c.flags_of-m.ensures c.reader_form-form.ensures c.read.ensures.answer c.read.ensures.output).0

pub returns-then-reader_refuses_in-clause-output : goal.returns-then-reader_refuses_in-clause-output
returns-then-reader_refuses_in-clause-output g c =
    let a = c.args in
    (refused g.met.C.Cell.laws a.coding a.flags (g.C.Cell.room (length a.codes.now)) a.s.now a.codes.now (sym c.reader_refuses_in.ensures ∙ c.if-reader_refuses_in.true)).1

pub returns-clause-output : goal.returns-clause-output
returns-clause-output g c =
    let a = c.args in
    (answered g.met.C.Cell.laws a.coding a.flags (g.C.Cell.room (length a.codes.now)) a.s.now (rows_of c.reader_form-form.result) c.flags_of-m.result _ _ _ (sym c.reader_refuses_in.ensures ∙ c.if-reader_refuses_in.false)
    c.flags_of-m.ensures c.reader_form-form.ensures c.read.ensures.answer c.read.ensures.output).1
