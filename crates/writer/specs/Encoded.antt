-- The answer of the call that writes. Assumes nothing.
use Rattle.std.specs.Prelude.{length}
use Rattle.writings.specs.Writing.{Writing}
use Rattle.writer.specs.declared.Encoded.{Encoded}

unfoldable pub encoded_of : Writing → Encoded
encoded_of W = record { number = W.number; consumed = W.consumed; produced = length W.written }
