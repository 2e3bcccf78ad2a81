-- What building and updating answer (C-17). Assumes nothing.
use Rattle.std.specs.Prelude.{cond, ℕ, eqb, Result, Ok, Err}
use Rattle.log_index.specs.Update.{Indexing}
use Rattle.log_update.specs.declared.Refusal.{Refusal}
use Rattle.log_update.specs.declared.Refusal.TheVariants.{NoRoom, Outside}

-- number 0 is the records, 1 no room, and 15, which alone is left, what is not there
abbrev pub answer_of : Indexing → Result ℕ Refusal
answer_of I = cond (eqb I.number 0) (Ok I.records) (cond (eqb I.number 1) (Err NoRoom) (Err Outside))
