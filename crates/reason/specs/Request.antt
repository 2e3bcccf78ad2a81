-- C-14, sentence by sentence. Assumes nothing.
use Rattle.std.specs.Prelude.{◌≡◌, ◌↔◌, List, ℕ, suc, ◌≤◌, ◌<◌, length, take, drop, get_or}
use Rattle.form.specs.Table.{plain, tail, In, Begins}
use Rattle.form.specs.Subpart.{StartsNone, Subpart}
use Rattle.form.specs.Text.{Bytes}
use Rattle.reason.specs.Reason.{number, Holds, reason}
use Rattle.reason.specs.declared.Reason.{Reason}
use Rattle.reason.specs.declared.Reason.TheVariants.{Good, Lone, Never, Beyond, TooLong, Surrogate, TooHigh, CutShort, Unfinished, AtEnd}

-- at this place of these bytes exactly one reason holds, and it is the one that is given
pub record Exactly (s : List ℕ) (place : ℕ) : Type 0 where
  pub holds : Holds (reason s place) (drop place s)
  pub only : (r : Reason) → Holds r (drop place s) → r ≡ reason s place

-- n bytes of s begin a well-formed sequence, and no sequence begins with these and the next
pub record LeavesNone (s : List ℕ) (n : ℕ) : Type 0 where
  pub inside : n < length s
  pub begins : Begins plain (take n s)
  pub ends : Begins plain (take (suc n) s) → ⊥

-- where the byte stands that leaves no well-formed sequence: at the place; behind it; where a continuation was due; nowhere
abbrev pub Judged : Reason → List ℕ → Type 0
Judged Good s = Unit {0}
Judged Lone s = LeavesNone s 0
Judged Never s = LeavesNone s 0
Judged Beyond s = LeavesNone s 0
Judged TooLong s = LeavesNone s 1
Judged Surrogate s = LeavesNone s 1
Judged TooHigh s = LeavesNone s 1
Judged CutShort s = (n : ℕ) × (1 ≤ n) × LeavesNone s n × (In tail (get_or s n 0) → ⊥)
Judged Unfinished s = Begins plain s
Judged AtEnd s = Unit {0}

pub record Request : Type 0 where
  -- "For a bad place in plain UTF-8, LAST given and SURRO absent, name the reason": one of 1 to 8 is given exactly where there is a byte and no
  -- well-formed sequence starts
  pub bad_place : (s : List ℕ) (place : ℕ) → Bytes s
      → ((1 ≤ number (reason s place)) × (number (reason s place) ≤ 8)) ↔ ((place < length s) × StartsNone plain (drop place s))
  -- "judged at the first byte that leaves no well-formed sequence"
  pub judged_there : (r : Reason) (s : List ℕ) → Holds r s → Judged r s
  -- "at or past the end 9", and nowhere else
  pub past_end : (s : List ℕ) (place : ℕ) → Bytes s → (number (reason s place) ≡ 9) ↔ (length s ≤ place)
  -- "Exactly one is true", at any place
  pub exactly : (s : List ℕ) (place : ℕ) → Bytes s → Exactly s place
  -- with C-16: the maximal subpart is one byte for the reasons 1 to 6, and one to three for 7 and 8
  pub one_byte : (s : List ℕ) (place n : ℕ) → 1 ≤ number (reason s place) → number (reason s place) ≤ 6 → Bytes s → Subpart plain (drop place s) n → n ≡ 1
  pub few_bytes : (s : List ℕ) (place n : ℕ) → 7 ≤ number (reason s place) → number (reason s place) ≤ 8 → Bytes s → Subpart plain (drop place s) n → (1 ≤ n) × (n ≤ 3)
