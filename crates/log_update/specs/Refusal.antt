-- The number of a refusal (C-17). Assumes nothing.
use Rattle.std.specs.Prelude.{ℕ}
use Rattle.log_update.specs.declared.Refusal.{Refusal}
use Rattle.log_update.specs.declared.Refusal.TheVariants.{NoRoom, Outside}

abbrev pub number_of : Refusal → ℕ
number_of NoRoom = 1
number_of Outside = 15
