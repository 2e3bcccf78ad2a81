-- Bytes that a reading step is given call by call (request C-18, the steps). Assumes nothing.
use Rattle.std.specs.Prelude.{◌≡◌, ◌⊎◌, cond, ℕ, ◌+◌, ◌-◌, ◌<◌, eqb, length, drop}
use mathlib.Core.List.{List, [], ◌∷◌, ◌++◌, flatten, flat_map}
use Rattle.std.proofs.Math.Option.{Option, none, some}
use Rattle.form.specs.Table.{Form}
use Rattle.codings.specs.declared.Coding.{Coding}
use Rattle.codings.specs.Codings.{writer_form}
use Rattle.readings.specs.Reading.{decoding_in}
use Rattle.state.specs.Meaning.{starting, valid, record_of, sense_of}
use Rattle.state.specs.declared.Record.{Record}
use Rattle.advance.specs.Step.{Told, hold}
use Rattle.restart.specs.Runs.{Bits, width, reading, answers, state_after}
use Rattle.restart.specs.Packets.{start}

-- ---- runs

-- no unit is pending: bytes are held, or none
abbrev pub Idle : Form → Record → Type 0
Idle F s = (h : List ℕ) × (sense_of F s ≡ valid (hold h))

-- after an answer with this number: a bad one (3) ends the run, and after one with 0 or 2 it goes on as T says. No call of a run is refused (5)
abbrev pub goes_on : ℕ → List (List ℕ) → Type 0 → Type 0
goes_on number is T = ((number ≡ 3) × (is ≡ [])) ⊎ ((number < 3) × T)

-- `is` are the inputs of the calls of a run from the state s over the bytes x. Each call is given a beginning of the bytes that are left: all, some or none
-- of them. The run ends at the first bad answer, or when the bytes and the pending units are used up
abbrev pub Run : Form → Bits → Record → List ℕ → List (List ℕ) → Type 0
Run F b s x [] = (x ≡ []) × Idle F s
Run F b s x (i ∷ is) =
    let y = reading F b s i in
    ((z : List ℕ) × (x ≡ i ++ z)) × goes_on y.answer.number is (Run F b y.next (drop y.answer.consumed x) is)

-- the packets, where this is left of the first
abbrev pub left_of : List ℕ → List (List ℕ) → List (List ℕ)
left_of [] ps = ps
left_of (x ∷ p) ps = (x ∷ p) ∷ ps

-- `is` are those of a run over packets. Each call is given what is left of the first, so that an empty packet is one call; behind the last packet the pending
-- units come out without input
abbrev pub InPackets : Form → Bits → Record → List (List ℕ) → List (List ℕ) → Type 0
InPackets F b s [] [] = Idle F s
InPackets F b s (p ∷ ps) [] = ⊥
InPackets F b s [] (i ∷ is) = (i ≡ []) × ((reading F b s i).answer.number ≡ 0) × InPackets F b (reading F b s i).next [] is
InPackets F b s (p ∷ ps) (i ∷ is) =
    let y = reading F b s i in
    (i ≡ p) × goes_on y.answer.number is (InPackets F b y.next (left_of (drop y.answer.consumed p) ps) is)

-- ---- what a run gives

-- a bad place, and the length of the maximal subpart there
pub record BadPlace : Type 0 where
  pub place : ℕ
  pub subpart : ℕ

-- the units in order, the first bad place, and the end state
pub record Outcome : Type 0 where
  pub units : List ℕ
  pub bad : Option BadPlace
  pub end : Record

-- an answer with number 0 gives a unit
abbrev pub units_of : List Told → List ℕ
units_of [] = []
units_of (a ∷ l) = cond (eqb a.number 0) (a.unit ∷ units_of l) (units_of l)

-- after k bytes: the bytes consumed before that call, less the bytes held
abbrev pub first_bad : ℕ → List Told → Option BadPlace
first_bad k [] = none
first_bad k (a ∷ l) = cond (eqb a.number 3) (some (record { place = k - a.held; subpart = a.subpart })) (first_bad (k + a.consumed) l)

-- of calls from the state s, after k bytes
abbrev pub outcome : Form → Bits → ℕ → Record → List (List ℕ) → Outcome
outcome F b k s is = record { units = units_of (answers F b s is); bad = first_bad k (answers F b s is); end = state_after F b s is }

-- what one call of the reader tells, with STRICT (4) and room for a code a byte: the units of its codes; the place where it stopped with 3; and the state in
-- which the partial sequence is held that it left unread
abbrev pub at_once : Coding → Bits → List ℕ → Outcome
at_once K b x =
    let R = decoding_in K 4 (length x) x in
    record {
      units = flat_map (width b).units R.codes;
      bad = cond (eqb R.number 3) (some (record { place = R.consumed; subpart = R.subpart })) none;
      end = record_of (cond (eqb R.number 3) starting (hold (drop R.consumed x)));
    }

-- the three reading steps of a coding
pub record UncutSteps (K : Coding) : Type 0 where
  -- "The same for the three reading steps from the start, without reset or refused calls between, each run ending at the first bad answer or when input and
  -- pending units are used up: units in order, the first bad place (bytes consumed before that call, less bytes held) and the end state are the same": any two
  -- runs over the same bytes, whatever each call is given of them
  pub same : (b : Bits) (x : List ℕ) (is js : List (List ℕ)) → Run (writer_form K) b start x is → Run (writer_form K) b start x js
      → outcome (writer_form K) b 0 start is ≡ outcome (writer_form K) b 0 start js
  -- and it is what the reader tells of these bytes at once
  pub as_read : (b : Bits) (x : List ℕ) (is : List (List ℕ)) → Run (writer_form K) b start x is → outcome (writer_form K) b 0 start is ≡ at_once K b x
  -- "Empty packets count": every list of packets has a run, and this is one over their bytes
  pub some_run : (b : Bits) (ps : List (List ℕ)) → (is : List (List ℕ)) × InPackets (writer_form K) b start ps is
  pub in_packets : (b : Bits) (ps is : List (List ℕ)) → InPackets (writer_form K) b start ps is → Run (writer_form K) b start (flatten ps) is
