-- The count is a part of the answer of the call below. Assumes nothing.
use mathlib.Core.Path.{ap}
use borrow.Author.Rules.{rules}
use Rattle.writer.specs.declared.Encoded.{Encoded}
use Rattle.writer.specs.Encoded.{encoded_of}
use Rattle.direct.proofs.direct_encode.Statement.{statement}
use Rattle.direct.proofs.direct_encode.Tie as tie

returns : tie.Need-returns
unfolding encoded_of
returns c = let e = c.encode-writing.ensures in (ap (λ (r : Encoded). r.produced) e.0, e.1)

pub direct_encode_spec : {M : Type 1} → statement M
direct_encode_spec = tie.close (tie.spec (λ c κs. search rules) (λ c. search rules) returns)
