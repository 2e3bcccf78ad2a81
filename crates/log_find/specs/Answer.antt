-- The answer of `find`: the place, if there is one. Assumes nothing.
use Rattle.std.proofs.Math.Option as maybe
use Rattle.std.specs.Prelude.{ℕ, Option, None, Some}

abbrev pub place_of : maybe.Option ℕ → Option ℕ
place_of maybe.none = None
place_of (maybe.some p) = Some p
