-- Lines of the request C-12, in CESU-8. Assumes nothing.
use Rattle.std.specs.Prelude.{◌≡◌, List, [], ◌∷◌, ℕ, length}
use Rattle.form.specs.Table.{plain, cesu}
use Rattle.state.specs.Meaning.{held, record_of}
use Rattle.codings.specs.declared.Coding.TheVariants.{Cesu8}
use Rattle.readings.specs.Reading.{decoding_in, decoding}
use Rattle.writings.specs.Writing.{encoding_in}
use Rattle.roundtrip.specs.Demand.{CleanList}
use Rattle.advance.specs.Step.{continuation, incomplete, null, unit, Told, tell, tell_bad, refuse}
use Rattle.restart.specs.Runs.{Bits, sixteen, reading, answers, state_after}
use Rattle.restart.specs.Packets.{start}
use Rattle.worked.specs.Lines.{LAST, LAST+STRICT, LAST+SHOW}

-- with room for a code per byte the bytes s give the codes l, all are consumed, and the number is 0
abbrev pub Gives : ℕ → List ℕ → List ℕ → Type 0
Gives flags s l = decoding_in Cesu8 flags (length s) s ≡ record { number = 0; consumed = length s; codes = l; subpart = 0 }

-- without LAST all of s is left unread
abbrev pub Waits : List ℕ → Type 0
Waits s = decoding_in Cesu8 0 (length s) s ≡ record { number = 2; consumed = 0; codes = []; subpart = 0 }

-- without flags and with room w the codes l are written as the bytes s, all are consumed, and the number is 0
abbrev pub Writes : ℕ → List ℕ → List ℕ → Type 0
Writes w l s = encoding_in Cesu8 0 w l ≡ record { number = 0; consumed = length l; written = s }

-- from the starting state and back to it, the 16-bit step gives these answers to these inputs
abbrev pub Run : List (List ℕ) → List Told → Type 0
Run is l = (answers cesu sixteen start is ≡ l) × (state_after cesu sixteen start is ≡ start)

pub record Lines : Type 0 where
  -- the reader: the droplet and the highest code as surrogate pairs
  pub droplet : Gives LAST (0xED ∷ 0xA0 ∷ 0xBD ∷ 0xED ∷ 0xB2 ∷ 0xA7 ∷ []) (0x1F4A7 ∷ [])
  pub highest : Gives LAST (0xED ∷ 0xAF ∷ 0xBF ∷ 0xED ∷ 0xBF ∷ 0xBF ∷ []) (0x10FFFF ∷ [])
  -- four bytes and lone surrogates are escaped byte by byte
  pub four_bytes : Gives LAST (0xF0 ∷ 0x9F ∷ 0x92 ∷ 0xA7 ∷ []) (0xDCF0 ∷ 0xDC9F ∷ 0xDC92 ∷ 0xDCA7 ∷ [])
  pub lone_high : Gives LAST (0xED ∷ 0xA0 ∷ 0x80 ∷ []) (0xDCED ∷ 0xDCA0 ∷ 0xDC80 ∷ [])
  pub lone_low : Gives 0 (0xED ∷ 0xB0 ∷ 0x80 ∷ []) (0xDCED ∷ 0xDCB0 ∷ 0xDC80 ∷ [])
  pub high_letter : Gives LAST (0xED ∷ 0xA0 ∷ 0x80 ∷ 0x41 ∷ []) (0xDCED ∷ 0xDCA0 ∷ 0xDC80 ∷ 0x41 ∷ [])
  pub two_highs : Gives LAST (0xED ∷ 0xA0 ∷ 0x80 ∷ 0xED ∷ 0xA0 ∷ 0x80 ∷ 0xED ∷ 0xB0 ∷ 0x80 ∷ []) (0xDCED ∷ 0xDCA0 ∷ 0xDC80 ∷ 0x10000 ∷ [])
  -- up to five bytes are left unread
  pub three_wait : Waits (0xED ∷ 0xA0 ∷ 0x80 ∷ [])
  pub four_wait : Waits (0xED ∷ 0xA0 ∷ 0x80 ∷ 0xED ∷ [])
  pub five_wait : Waits (0xED ∷ 0xA0 ∷ 0x80 ∷ 0xED ∷ 0xB0 ∷ [])
  -- the same bytes as escapes, as marks for the maximal subparts of this table, and refused with the length of the first of them
  pub escapes : Gives LAST (0xED ∷ 0xA0 ∷ 0x80 ∷ 0xED ∷ 0x9F ∷ 0xBF ∷ []) (0xDCED ∷ 0xDCA0 ∷ 0xDC80 ∷ 0xD7FF ∷ [])
  pub marks : Gives LAST+SHOW (0xED ∷ 0xA0 ∷ 0x80 ∷ 0xED ∷ 0x9F ∷ 0xBF ∷ []) (0xFFFD ∷ 0xFFFD ∷ 0xFFFD ∷ [])
  pub strict :
      decoding_in Cesu8 LAST+STRICT 6 (0xED ∷ 0xA0 ∷ 0x80 ∷ 0xED ∷ 0x9F ∷ 0xBF ∷ []) ≡ record { number = 3; consumed = 0; codes = []; subpart = 4 }
  -- flag number 2 is SURRO
  pub surro_read : decoding_in Cesu8 2 1 (0x41 ∷ []) ≡ record { number = 4; consumed = 0; codes = []; subpart = 0 }
  pub surro_written : encoding_in Cesu8 2 1 (0x41 ∷ []) ≡ record { number = 4; consumed = 0; written = [] }
  -- the writer
  pub first_pair : Writes 6 (0x10000 ∷ []) (0xED ∷ 0xA0 ∷ 0x80 ∷ 0xED ∷ 0xB0 ∷ 0x80 ∷ [])
  pub no_room : encoding_in Cesu8 0 5 (0x10000 ∷ []) ≡ record { number = 1; consumed = 0; written = [] }
  pub escape_written : Writes 1 (0xDC80 ∷ []) (0x80 ∷ [])
  pub surrogate_written : Writes 3 (0xD800 ∷ []) (0xED ∷ 0xA0 ∷ 0x80 ∷ [])
  pub surrogates_written : Writes 6 (0xD800 ∷ 0xDC00 ∷ []) (0xED ∷ 0xA0 ∷ 0x80 ∷ 0xED ∷ 0xB0 ∷ 0x80 ∷ [])
  -- six bad bytes of UTF-8 are escapes there, and those are written here as a sequence
  pub across-read :
      decoding LAST 6 (0xED ∷ 0xA0 ∷ 0x80 ∷ 0xED ∷ 0xB0 ∷ 0x80 ∷ [])
      ≡ record { number = 0; consumed = 6; codes = 0xDCED ∷ 0xDCA0 ∷ 0xDC80 ∷ 0xDCED ∷ 0xDCB0 ∷ 0xDC80 ∷ []; subpart = 0 }
  pub across_written : Writes 6 (0xDCED ∷ 0xDCA0 ∷ 0xDC80 ∷ 0xDCED ∷ 0xDCB0 ∷ 0xDC80 ∷ []) (0xED ∷ 0xA0 ∷ 0x80 ∷ 0xED ∷ 0xB0 ∷ 0x80 ∷ [])
  -- six neighbouring escapes that stand for one sequence are not clean
  pub pair_clean : CleanList Cesu8 (0x10000 ∷ [])
  pub escapes_unclean : CleanList Cesu8 (0xDCED ∷ 0xDCA0 ∷ 0xDC80 ∷ 0xDCED ∷ 0xDCB0 ∷ 0xDC80 ∷ []) → ⊥
  -- the step: three bytes, three bytes, and the low surrogate
  pub run :
      Run ((0xED ∷ 0xA0 ∷ 0xBD ∷ []) ∷ (0xED ∷ 0xB2 ∷ 0xA7 ∷ []) ∷ [] ∷ [])
      (tell incomplete 2 0 3 0 ∷ tell unit 0 0xD83D 3 0 ∷ tell continuation 0 0xDCA7 0 0 ∷ [])
  pub five_held : Run ((0xED ∷ 0xA0 ∷ 0x80 ∷ 0xED ∷ 0xB0 ∷ []) ∷ (0x41 ∷ []) ∷ []) (tell incomplete 2 0 5 0 ∷ tell_bad 5 5 ∷ [])
  pub six_consumed : Run ((0xED ∷ 0xA0 ∷ 0x80 ∷ 0xED ∷ 0xB0 ∷ 0x80 ∷ []) ∷ [] ∷ []) (tell unit 0 0xD800 6 0 ∷ tell continuation 0 0xDC00 0 0 ∷ [])
  pub null_read : Run ((0x00 ∷ []) ∷ []) (tell null 0 0 1 0 ∷ [])
  -- ED begins sequences of both forms: A0 goes on in this one alone
  pub ED-here : reading cesu sixteen (record_of (held (0xED ∷ []))) (0xA0 ∷ []) ≡ record { answer = tell incomplete 2 0 1 0; next = record_of (held (0xED ∷ 0xA0 ∷ [])) }
  pub ED-plain : reading plain sixteen (record_of (held (0xED ∷ []))) (0xA0 ∷ []) ≡ record { answer = tell_bad 1 1; next = start }
  -- bytes held of the other form alone are 5, whatever the input
  pub other_here : (i : List ℕ) → reading cesu sixteen (record_of (held (0xF0 ∷ []))) i ≡ refuse (record_of (held (0xF0 ∷ [])))
  pub other_plain : (b : Bits) (i : List ℕ) → reading plain b (record_of (held (0xED ∷ 0xA0 ∷ []))) i ≡ refuse (record_of (held (0xED ∷ 0xA0 ∷ [])))
  -- a low surrogate that the plain step left comes out here, and the other way round
  pub low_from_plain : reading cesu sixteen (reading plain sixteen start (0xF0 ∷ 0x9F ∷ 0x92 ∷ 0xA7 ∷ [])).next [] ≡ record { answer = tell continuation 0 0xDCA7 0 0; next = start }
  pub low-to-plain :
      reading plain sixteen (reading cesu sixteen start (0xED ∷ 0xA0 ∷ 0xBD ∷ 0xED ∷ 0xB2 ∷ 0xA7 ∷ [])).next [] ≡ record { answer = tell continuation 0 0xDCA7 0 0; next = start }
