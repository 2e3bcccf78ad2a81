-- What an answer tells of the number and the records that building and updating give. Assumes nothing.
use mathlib.Core.Path.{◌≡◌, refl}
use mathlib.Core.Logic.{◌⊎◌, inl, inr}
use mathlib.Core.Bool.{Bool, true, false}
use mathlib.Core.List.{List}
use Prim.Native.Nat.{ℕ, ◌*◌}
use lib.Dec.{ltb, leb}
use lib.ListN.{length}
use Rattle.std.specs.Prelude.{Result, Ok, Err, MatchResult}
use Rattle.numbers.specs.Number.{values_in}
use Rattle.log_index.specs.Index.{log_index}
use Rattle.log_index.specs.Update.{Indexing, fitting, building, updated, updating}
use Rattle.log_update.specs.declared.Refusal.{Refusal}
use Rattle.log_update.specs.declared.Refusal.TheVariants.{NoRoom, Outside}
use Rattle.log_update.specs.Refusal.{number_of}
use Rattle.log_update.specs.Answer.{answer_of}

-- the numbers that building and updating give, and no other
abbrev pub Given : Indexing → Type 0
Given I = (I.number ≡ 0) ⊎ (I.number ≡ 1) ⊎ (I.number ≡ 15)

fitting_given : (room : ℕ) (rs : List ℕ) → Given (fitting room rs)
unfolding fitting
fitting_given room rs = go (leb (length rs * 8) room) refl
  where
    go : (b : Bool) → leb (length rs * 8) room ≡ b → Given (fitting room rs)
    go true e = inl (rw e refl)
    go false e = inr (inl (rw e refl))

pub updating_given : (log : List ℕ) (n : ℕ) (w : List ℕ) (old : ℕ) → Given (updating log n w old)
unfolding updating
updating_given log n w old = go (ltb (length log) n) (ltb (length w) (old * 8)) refl refl
  where
    go : (b d : Bool) → ltb (length log) n ≡ b → ltb (length w) (old * 8) ≡ d → Given (updating log n w old)
    go true d e f = inr (inr (rw e refl))
    go false true e f = inr (inr (rw (e, f) refl))
    go false false e f = rw (e, f) (fitting_given (length w) (updated log n (values_in 8 old w)))

pub building_given : (log : List ℕ) (room : ℕ) → Given (building log room)
unfolding building
building_given log room = fitting_given room (log_index log)

-- Ok has the number 0 and the records, Err the number of its refusal
abbrev pub Tells : Result ℕ Refusal → Indexing → Type 0
Tells r I = MatchResult r (λ n. (I.number ≡ 0) × (I.records ≡ n)) (λ refusal. I.number ≡ number_of refusal)

answered : (I : Indexing) → Given I → Tells (answer_of I) I
answered I (inl h) = rw h (refl, refl)
answered I (inr (inl h)) = rw h refl
answered I (inr (inr h)) = rw h refl

-- what `update` and `build` answer
pub updating_told : (log : List ℕ) (n : ℕ) (w : List ℕ) (old : ℕ) (r : Result ℕ Refusal) → r ≡ answer_of (updating log n w old) → Tells r (updating log n w old)
updating_told log n w old r e = rw e (answered (updating log n w old) (updating_given log n w old))

pub building_told : (log : List ℕ) (room : ℕ) (r : Result ℕ Refusal) → r ≡ answer_of (building log room) → Tells r (building log room)
building_told log room r e = rw e (answered (building log room) (building_given log room))

-- and what tells so is the answer
pub told_answer : (I : Indexing) (r : Result ℕ Refusal) → Tells r I → r ≡ answer_of I
told_answer I (Ok n) h = rw (h.0, h.1) refl
told_answer I (Err NoRoom) h = rw h refl
told_answer I (Err Outside) h = rw h refl
