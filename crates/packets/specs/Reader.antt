-- A byte string that the reader is given in packets (request C-18, the whole-buffer reader). Assumes nothing.
use Rattle.std.specs.Prelude.{◌≡◌, cond, List, [], ◌∷◌, ◌++◌, ℕ, ◌+◌, ◌-◌, ◌*◌, ◌/◌, ◌≤◌, eqb, length, drop}
use Rattle.codings.specs.declared.Coding.{Coding}
use Rattle.codings.specs.Codings.{writer_form, longest, runs}
use Rattle.form.specs.Text.{Bytes, Clean}
use Rattle.readings.specs.Reading.{Reading, follow, decoding_in}

-- bytes that come together, and the room for codes in the call that reads them
pub record Packet : Type 0 where
  pub bytes : List ℕ
  pub room : ℕ

-- the flags without LAST, which is 1
abbrev pub unlast : ℕ → ℕ
unlast flags = flags / 2 * 2

-- a reading and, unless it stopped with 3, the one that comes after it
unfoldable pub then : Reading → Reading → Reading
then R S = cond (eqb R.number 3) R (follow R.codes R.consumed S)

-- a call for each packet, after bytes that were left unread: each unread tail is put before the next packet, and only the last packet is read with LAST, if
-- the flags have it
abbrev pub run : Coding → ℕ → List ℕ → List Packet → Packet → Reading
run K flags tail [] last = decoding_in K flags last.room (tail ++ last.bytes)
run K flags tail (p ∷ ps) last =
    let s = tail ++ p.bytes in
    let R = decoding_in K (unlast flags) p.room s in
    then R (run K flags (drop R.consumed s) ps last)

-- the byte string that was cut
abbrev pub whole : List Packet → Packet → List ℕ
whole [] last = last.bytes
whole (p ∷ ps) last = p.bytes ++ whole ps last

-- each call has room for a code for each byte of its packet, and for n more
abbrev pub Roomy : ℕ → List Packet → Packet → Type 0
Roomy n [] last = length last.bytes + n ≤ last.room
Roomy n (p ∷ ps) last = (length p.bytes + n ≤ p.room) × Roomy n ps last

pub record Uncut (K : Coding) : Type 0 where
  -- "cut a byte string anywhere, mark only the last piece LAST, put each unread tail before the next piece, give room enough. Then codes, total consumed and
  -- the first bad place are those of a single call, under each allowed flag set": the two readings are equal, so also in the number and, where that is 3 and
  -- the total is the bad place, in the length of the maximal subpart. For every flag number; and the room is enough where neither ends for want of it (1)
  pub same : (flags room : ℕ) (ps : List Packet) (last : Packet) → ((run K flags [] ps last).number ≡ 1 → ⊥) → ((decoding_in K flags room (whole ps last)).number ≡ 1 → ⊥)
      → run K flags [] ps last ≡ decoding_in K flags room (whole ps last)
  -- room for a code a byte is enough for one call
  pub enough : (flags room : ℕ) (s : List ℕ) → length s ≤ room → (decoding_in K flags room s).number ≡ 1 → ⊥
  -- and for a run, in each call, room for its packet and for the longest tail: three bytes, in CESU-8 five
  pub enough_in_packets : (flags : ℕ) (ps : List Packet) (last : Packet) → Roomy (longest K - 1) ps last → (run K flags [] ps last).number ≡ 1 → ⊥
  -- so a run with LAST (1) alone gives a clean list, as demand 3 has it. Packets that are each read with LAST need not: `Lines`
  pub clean : (ps : List Packet) (last : Packet) → Bytes (whole ps last) → ((run K 1 [] ps last).number ≡ 1 → ⊥) → Clean (writer_form K) (runs K) (run K 1 [] ps last).codes
