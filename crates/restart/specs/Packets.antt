-- What the steps make of bytes that come in packets. Assumes nothing.
use Rattle.std.specs.Prelude.{◌≡◌, List, [], ◌∷◌, ◌++◌, map, ℕ, suc, ◌+◌, ◌-◌, ◌≤◌, length}
use Rattle.form.specs.Table.{Form, plain, cesu, Codes, Scalar}
use Rattle.form.specs.Text.{sequence}
use Rattle.utf16.specs.Utf16.{utf16}
use Rattle.state.specs.Meaning.{Meaning, starting, Valid, valid, record_of, sense_of}
use Rattle.state.specs.declared.Record.{Record}
use Rattle.advance.specs.Step.{Name, refused, continuation, incomplete, bad_sequence, null, unit, Told, tell, Step, hold}
use Rattle.restart.specs.Runs.{Bits, eight, sixteen, thirty_two, width, reading, answers, state_after, bytes_back, state_back, until_decided, total}

abbrev pub start : Record
start = record_of starting

-- a bad answer tells the bytes that came before this call as held
abbrev pub held_later : Name → ℕ → ℕ → ℕ
held_later refused h n = h
held_later continuation h n = h
held_later incomplete h n = h
held_later bad_sequence h n = h + n
held_later null h n = h
held_later unit h n = h

-- the same answer and state, where n bytes of the input came before this call and are not consumed in it
abbrev pub later : ℕ → Step → Step
later n x =
    record {
      answer =
          record {
            name = x.answer.name;
            number = x.answer.number;
            unit = x.answer.unit;
            consumed = x.answer.consumed - n;
            held = held_later x.answer.name x.answer.held n;
            subpart = x.answer.subpart;
          };
      next = x.next;
    }

-- the reading steps of a form whose longest sequence has n bytes
pub record Packets (F : Form) (n : ℕ) : Type 0 where
  -- with h held the next n - h bytes, in any cut into calls, bring an answer other than incomplete
  pub decided : (b : Bits) (s : Record) (h : List ℕ) (is : List (List ℕ)) → sense_of F s ≡ valid (hold h) → n ≤ length h + total is → (until_decided F b s is).answer.name ≡ incomplete → ⊥
  -- pending units, at most three of 8 bits and one of 16, come out one a call, whatever the input
  pub pending : (b : Bits) (s : Record) (m : Meaning) (is : List (List ℕ)) → sense_of F s ≡ valid m → length is ≡ length ((width b).due m)
      → (answers F b s is ≡ map (λ u. tell continuation 0 u 0 0) ((width b).due m)) × ((1 ≤ length is) → state_after F b s is ≡ start)
  pub pending_few : (b : Bits) (m : Meaning) → Valid F m → length ((width b).due m) ≤ 3
  pub pending_one : (m : Meaning) → length ((width sixteen).due m) ≤ 1
  -- from the start the units of a well-formed sequence are those of its code, in order, and the first call consumes it
  pub whole : (b : Bits) (w : List ℕ) (c : ℕ) (is : List (List ℕ)) → Codes F w c → suc (length is) ≡ length ((width b).units c)
      → (map (λ (t : Told). t.unit) (answers F b start (w ∷ is)) ≡ (width b).units c) × (state_after F b start (w ∷ is) ≡ start)
  pub consumes : (b : Bits) (w : List ℕ) (c : ℕ) → Codes F w c → (reading F b start w).answer.consumed ≡ length w
  -- an answer other than incomplete does not change when more bytes follow
  pub stays : (b : Bits) (s : Record) (i j : List ℕ) → ((reading F b s i).answer.name ≡ incomplete → ⊥) → reading F b s (i ++ j) ≡ reading F b s i
  -- and an incomplete one goes on to the answer of both inputs together
  pub goes_on : (b : Bits) (s : Record) (i j : List ℕ) → (reading F b s i).answer.name ≡ incomplete → reading F b (reading F b s i).next j ≡ later (length i) (reading F b s (i ++ j))

pub record ThereAndBack : Type 0 where
  -- the units of a code are its UTF-8, its UTF-16 or the code itself
  pub utf8_units : (w : List ℕ) (c : ℕ) → Codes plain w c → (width eight).units c ≡ w
  pub utf16_units : (c : ℕ) → (width sixteen).units c ≡ utf16 c
  pub code_units : (c : ℕ) → (width thirty_two).units c ≡ c ∷ []
  -- the step back turns the 16-bit units of a scalar value into its well-formed sequence
  pub back : (c : ℕ) → Scalar c → (bytes_back start (utf16 c) ≡ sequence plain c) × (state_back start (utf16 c) ≡ start)
  -- so that it is the inverse of the 16-bit step
  pub there_and_back : (w : List ℕ) (c : ℕ) (is : List (List ℕ)) → Codes plain w c → suc (length is) ≡ length (utf16 c) → bytes_back start (map (λ (t : Told). t.unit) (answers plain sixteen start (w ∷ is))) ≡ w
  pub back_and_there : (c : ℕ) (is : List (List ℕ)) → Scalar c → suc (length is) ≡ length (utf16 c) → map (λ (t : Told). t.unit) (answers plain sixteen start (bytes_back start (utf16 c) ∷ is)) ≡ utf16 c
  -- and turns what the step of CESU-8 gives into UTF-8
  pub cesu8_to_utf8 : (w : List ℕ) (c : ℕ) (is : List (List ℕ)) → Codes cesu w c → suc (length is) ≡ length (utf16 c) → bytes_back start (map (λ (t : Told). t.unit) (answers cesu sixteen start (w ∷ is))) ≡ sequence plain c
