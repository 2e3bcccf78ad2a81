-- Codes of four bytes are laid as the laws of reading want it. Assumes nothing.
use Rattle.std.specs.Prelude.{ℕ, ◌*◌}
use Rattle.quads.specs.Bytes.{laid}
use Rattle.readings.specs.Come.{Layout}
use Rattle.readings.proofs.Come.{packed}

pub four_bytes : Layout laid (λ (n : ℕ). n * 4)
four_bytes = packed
