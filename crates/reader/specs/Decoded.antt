-- The answer of the call that reads. Assumes nothing.
use Rattle.std.specs.Prelude.{length}
use Rattle.readings.specs.Reading.{Reading}
use Rattle.reader.specs.declared.Decoded.{Decoded}

unfoldable pub decoded_of : Reading → Decoded
decoded_of R = record { number = R.number; consumed = R.consumed; produced = length R.codes; subpart = R.subpart }
