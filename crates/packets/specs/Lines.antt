-- Lines of the request C-18. Assumes nothing.
use Rattle.std.specs.Prelude.{◌≡◌, List, [], ◌∷◌, ◌++◌, ℕ, length}
use Rattle.std.proofs.Math.Option.{none, some}
use Rattle.form.specs.Table.{plain}
use Rattle.form.specs.Text.{Clean, plain_runs}
use Rattle.codings.specs.declared.Coding.TheVariants.{Utf8}
use Rattle.readings.specs.Reading.{Reading, decoding}
use Rattle.state.specs.Meaning.{held, record_of}
use Rattle.restart.specs.Runs.{Bits, eight, sixteen, thirty_two}
use Rattle.restart.specs.Packets.{start}
use Rattle.packets.specs.Reader.{Packet, run}
use Rattle.packets.specs.Steps.{InPackets, Outcome, outcome}

-- ---- the reader

-- these bytes, with room for four codes
abbrev pub packet : List ℕ → Packet
packet s = record { bytes = s; room = 4 }

-- E1 80 E2, a packet for each byte
abbrev pub three : ℕ → Reading
three flags = run Utf8 flags [] (packet (0xE1 ∷ []) ∷ packet (0x80 ∷ []) ∷ []) (packet (0xE2 ∷ []))

-- 40′, cut inside its sign, with an empty packet in between
abbrev pub forty : Reading
forty = run Utf8 1 [] (packet (0x34 ∷ 0x30 ∷ 0xE2 ∷ 0x80 ∷ []) ∷ packet [] ∷ []) (packet (0xB2 ∷ []))

-- what a packet gives that is read by itself, with LAST
abbrev pub alone : List ℕ → List ℕ
alone s = (decoding 1 (length s) s).codes

abbrev pub CleanList : List ℕ → Type 0
CleanList = Clean plain plain_runs

-- ---- the steps

-- these packets are given by these calls, with this outcome
abbrev pub Gives : Bits → List (List ℕ) → List (List ℕ) → Outcome → Type 0
Gives b ps is o = InPackets plain b start ps is × (outcome plain b 0 start is ≡ o)

abbrev pub droplet_units : Outcome
droplet_units = record { units = 0xD83D ∷ 0xDCA7 ∷ []; bad = none; end = start }

pub record Lines : Type 0 where
  -- E1 80 waits, and is then one bad stretch
  pub marks : three 9 ≡ record { number = 0; consumed = 3; codes = 0xFFFD ∷ 0xFFFD ∷ []; subpart = 0 }
  pub marks_wait : three 8 ≡ record { number = 2; consumed = 2; codes = 0xFFFD ∷ []; subpart = 0 }
  pub strict : three 4 ≡ record { number = 3; consumed = 0; codes = []; subpart = 2 }
  pub strict_last : three 5 ≡ record { number = 3; consumed = 0; codes = []; subpart = 2 }
  pub refused : three 12 ≡ record { number = 4; consumed = 0; codes = []; subpart = 0 }
  -- the sign is whole again; with LAST in each packet its bytes are escapes, in two clean lists that are not clean together
  pub forty_minutes : forty ≡ record { number = 0; consumed = 5; codes = 0x34 ∷ 0x30 ∷ 0x2032 ∷ []; subpart = 0 }
  pub cut_alone : alone (0xE2 ∷ 0x80 ∷ []) ≡ 0xDCE2 ∷ 0xDC80 ∷ []
  pub rest_alone : alone (0xB2 ∷ []) ≡ 0xDCB2 ∷ []
  pub cut_clean : CleanList (alone (0xE2 ∷ 0x80 ∷ []))
  pub rest_clean : CleanList (alone (0xB2 ∷ []))
  pub both_unclean : CleanList (alone (0xE2 ∷ 0x80 ∷ []) ++ alone (0xB2 ∷ [])) → ⊥
  -- empty packets are calls, and the last of them brings the pending unit; without it a call behind the last packet does
  pub droplet :
      Gives sixteen ([] ∷ (0xF0 ∷ 0x9F ∷ []) ∷ [] ∷ (0x92 ∷ 0xA7 ∷ []) ∷ [] ∷ []) ([] ∷ (0xF0 ∷ 0x9F ∷ []) ∷ [] ∷ (0x92 ∷ 0xA7 ∷ []) ∷ [] ∷ []) droplet_units
  pub droplet_whole : Gives sixteen ((0xF0 ∷ 0x9F ∷ 0x92 ∷ 0xA7 ∷ []) ∷ []) ((0xF0 ∷ 0x9F ∷ 0x92 ∷ 0xA7 ∷ []) ∷ [] ∷ []) droplet_units
  -- a zero byte is a unit, and what is left of a packet is given again: the bad place is that of E2, which was held
  pub zero-bad :
      Gives eight ((0x00 ∷ 0xE2 ∷ []) ∷ (0x34 ∷ []) ∷ []) ((0x00 ∷ 0xE2 ∷ []) ∷ (0xE2 ∷ []) ∷ (0x34 ∷ []) ∷ [])
      (record { units = 0x00 ∷ []; bad = some (record { place = 1; subpart = 1 }); end = start })
  pub letter-bad :
      Gives thirty_two ((0x41 ∷ 0xE2 ∷ []) ∷ (0x34 ∷ []) ∷ []) ((0x41 ∷ 0xE2 ∷ []) ∷ (0xE2 ∷ []) ∷ (0x34 ∷ []) ∷ [])
      (record { units = 0x41 ∷ []; bad = some (record { place = 1; subpart = 1 }); end = start })
  -- at the end a partial sequence is held
  pub cut-held :
      Gives eight ((0xF0 ∷ 0x9F ∷ 0x92 ∷ []) ∷ []) ((0xF0 ∷ 0x9F ∷ 0x92 ∷ []) ∷ [])
      (record { units = []; bad = none; end = record_of (held (0xF0 ∷ 0x9F ∷ 0x92 ∷ [])) })
  pub no_packets : Gives eight [] [] (record { units = []; bad = none; end = start })
