-- The leaf gives the units; those after the first are pending. Assumes nothing.
use Rattle.std.proofs.Common.{refl, arith}
use Rattle.form.proofs.EncodingForms.{plain_form}
use Rattle.units.specs.Width.{split_of}
use Rattle.units.proofs.Splits.{coded, rest_state}
use Rattle.units.proofs.Bits8Width.split.Goals as goal

pub overflow_cast-w : goal.overflow_cast-w
overflow_cast-w c = let (l, p) = coded c.args.c _ c.bytes_of-w.ensures in omega (arith, plain_form.few c.args.c)

pub returns : goal.returns
unfolding split_of
returns c =
    let (l, p) = coded c.args.c _ c.bytes_of-w.ensures in
    rw (c.after_first.ensures, rest_state _ _ _ l p, c.into.ensures, p.first) refl
