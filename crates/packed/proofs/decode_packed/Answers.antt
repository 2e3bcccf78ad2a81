use Rattle.std.proofs.Common.{◌++◌, ◌/◌, ◌*◌, drop, length, ℕ, sym, ap, ◌∙◌}
use Rattle.readings.specs.Reading.{decoding_in}
use Rattle.reader.specs.declared.Decoded.{Decoded}
use Rattle.reader.specs.Decoded.{decoded_of}
use Rattle.quads.specs.Bytes.{laid}
use Rattle.packed.proofs.Layouts.{four_bytes}
use Rattle.packed.proofs.decode_packed.Goals as goal

-- the codes produced are those that the reading gives
pub returns-clause-output : goal.returns-clause-output
unfolding decoded_of
returns-clause-output c =
    let a = c.args in
    let d = a.codes.now in
    let l = (decoding_in a.coding a.flags (length d / 4) a.src.now).codes in
    let e = ap (λ (q : Decoded). q.produced) c.decode_in.ensures.answer in
    c.decode_in.ensures.output ∙ ap (λ (k : ℕ). laid l ++ drop k d) (ap (λ (k : ℕ). k * 4) e ∙ sym (four_bytes.lengths l))
