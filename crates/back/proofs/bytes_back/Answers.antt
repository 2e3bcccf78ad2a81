-- The leaf's count and its first four bytes are the answer's. Assumes nothing.
use Rattle.std.proofs.Common.{ap, List, ℕ, length}
use Rattle.form.specs.Table.{plain}
use Rattle.form.specs.Text.{sequence}
use Rattle.form.proofs.EncodingForms.{plain_form}
use Rattle.state.specs.Meaning.{starting}
use Rattle.sequence.specs.Leaf.{coded_of}
use Rattle.back.specs.Back.{bytes, back_of, to}
use Rattle.back.proofs.Places.{four_places}
use Rattle.back.proofs.bytes_back.Goals as goal

pub returns : goal.returns
unfolding back_of coded_of
returns c =
    let w = sequence plain c.args.c in
    rw (c.bytes_of-w.ensures, c.start.ensures)
    (ap (λ (v : List ℕ). to (record { name = bytes; number = 0; bytes = v; count = length w; consumed = 1; held = 0 }) starting) (four_places w (plain_form.few c.args.c)))
