-- The index of a log, and what is found by it (C-17). That it is a full reading's answer needs no belief: `found_true` says so. Assumes nothing.
use Rattle.std.proofs.Math.Option.{Option, none, some}
use Rattle.std.specs.Prelude.{List, [], ◌∷◌, ℕ, zero, suc, ◌/◌, ◌%◌, length, drop}
use Rattle.std.proofs.Math.ListN.{get_elem?}
use Rattle.form.specs.Table.{plain}
use Rattle.form.specs.Text.{items, places}
use Rattle.numbers.specs.Number.{values_in}

-- where the codes of s start from place p on, read afresh there with LAST alone; from 0 on it is the full reading
abbrev pub starts : List ℕ → ℕ → List ℕ
starts s p = places p (items plain 0 (drop p s))

-- of a list, every 64th element from number k on
abbrev pub every : ℕ → List ℕ → List ℕ
every k [] = []
every zero (p ∷ l) = p ∷ every 63 l
every (suc k) (p ∷ l) = every k l

-- the records from a place on, which has the first of them
abbrev pub onward : List ℕ → ℕ → List ℕ
onward s p = every 0 (starts s p)

-- the places of the codes 0, 64, 128, ..
unfoldable pub log_index : List ℕ → List ℕ
log_index s = onward s 0

-- so many items on from the place recorded; a record that is missing, or a place recorded or reached at or past the end, has none
abbrev pub reached : List ℕ → Option ℕ → ℕ → Option ℕ
reached s none n = none
reached s (some p) n = get_elem? (starts s p) n

-- the place of code k, from one record and at most 63 items after it
unfoldable pub finding : List ℕ → List ℕ → ℕ → Option ℕ
finding s rs k = reached s (get_elem? rs (k / 64)) (k % 64)

-- the whole records of index bytes
abbrev pub records : List ℕ → List ℕ
records w = values_in 8 (length w / 8) w
