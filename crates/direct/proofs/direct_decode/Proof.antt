-- The count is a part of the answer of the call below. Assumes nothing.
use mathlib.Core.Path.{ap}
use borrow.Author.Rules.{rules}
use Rattle.reader.specs.declared.Decoded.{Decoded}
use Rattle.reader.specs.Decoded.{decoded_of}
use Rattle.direct.proofs.direct_decode.Statement.{statement}
use Rattle.direct.proofs.direct_decode.Tie as tie

returns : tie.Need-returns
unfolding decoded_of
returns c = let e = c.decode-reading.ensures in (ap (λ (r : Decoded). r.produced) e.0, e.1)

pub direct_decode_spec : {M : Type 1} → statement M
direct_decode_spec = tie.close (tie.spec (λ c κs. search rules) (λ c. search rules) returns)
