-- "Lines checked by hand": the rows marked *, and lines of the requests C-16 and C-11, under a single statement. Assumes nothing.
use Rattle.std.specs.Prelude.{◌≡◌, List, [], ◌∷◌, ℕ, length}
use Rattle.form.specs.Table.{plain}
use Rattle.readings.specs.Reading.{decoding}
use Rattle.writings.specs.Writing.{encoding}
use Rattle.codings.specs.declared.Coding.TheVariants.{Utf8}
use Rattle.roundtrip.specs.Demand.{CleanList}
use Rattle.advance.specs.Step.{continuation, incomplete, unit, Told, tell, tell_bad}
use Rattle.restart.specs.Runs.{sixteen, answers, state_after}
use Rattle.restart.specs.Packets.{start}

-- flag numbers
abbrev pub LAST : ℕ
LAST = 1

abbrev LAST+SURRO : ℕ
LAST+SURRO = 3

abbrev pub LAST+STRICT : ℕ
LAST+STRICT = 5

abbrev LAST+SURRO+STRICT : ℕ
LAST+SURRO+STRICT = 7

abbrev SHOW : ℕ
SHOW = 8

abbrev pub LAST+SHOW : ℕ
LAST+SHOW = 9

abbrev LAST+SURRO+SHOW : ℕ
LAST+SURRO+SHOW = 11

-- with room for a code per byte the bytes s give the codes l, all are consumed, and the number is 0
abbrev pub Gives : ℕ → List ℕ → List ℕ → Type 0
Gives flags s l = decoding flags (length s) s ≡ record { number = 0; consumed = length s; codes = l; subpart = 0 }

-- without flags and with room w the codes l are written as the bytes s, all are consumed, and the number is 0
abbrev pub Writes : ℕ → List ℕ → List ℕ → Type 0
Writes w l s = encoding 0 w l ≡ record { number = 0; consumed = length l; written = s }

-- from the starting state and back to it, the 16-bit step gives these answers to these inputs
abbrev pub Run : List (List ℕ) → List Told → Type 0
Run is l = (answers plain sixteen start is ≡ l) × (state_after plain sixteen start is ≡ start)

pub record Lines : Type 0 where
  pub none : Gives LAST [] []
  pub null : Gives LAST (0x00 ∷ []) (0x0 ∷ [])
  pub forty_minutes : Gives LAST (0x34 ∷ 0x30 ∷ 0xE2 ∷ 0x80 ∷ 0xB2 ∷ []) (0x34 ∷ 0x30 ∷ 0x2032 ∷ [])
  pub highest : Gives LAST (0xF4 ∷ 0x8F ∷ 0xBF ∷ 0xBF ∷ []) (0x10FFFF ∷ [])
  pub too_high : Gives LAST (0xF4 ∷ 0x90 ∷ 0x80 ∷ 0x80 ∷ []) (0xDCF4 ∷ 0xDC90 ∷ 0xDC80 ∷ 0xDC80 ∷ [])
  pub overlong : Gives LAST (0xC0 ∷ 0x80 ∷ []) (0xDCC0 ∷ 0xDC80 ∷ [])
  pub surrogate : Gives LAST (0xED ∷ 0xA0 ∷ 0x80 ∷ []) (0xDCED ∷ 0xDCA0 ∷ 0xDC80 ∷ [])
  pub surrogate_through : Gives LAST+SURRO (0xED ∷ 0xA0 ∷ 0x80 ∷ []) (0xD800 ∷ [])
  pub cut : Gives LAST (0xE2 ∷ 0x80 ∷ []) (0xDCE2 ∷ 0xDC80 ∷ [])
  pub cut_waits : decoding 0 2 (0xE2 ∷ 0x80 ∷ []) ≡ record { number = 2; consumed = 0; codes = []; subpart = 0 }
  pub droplet : Gives LAST (0xF0 ∷ 0x9F ∷ 0x92 ∷ 0xA7 ∷ []) (0x1F4A7 ∷ [])
  pub strict : decoding LAST+STRICT 2 (0x34 ∷ 0x80 ∷ []) ≡ record { number = 3; consumed = 1; codes = 0x34 ∷ []; subpart = 1 }
  -- how long a bad stretch is: a partial end with LAST, the table as SURRO widens it, and bytes held before
  pub cut_strict : decoding LAST+STRICT 2 (0xE1 ∷ 0x80 ∷ []) ≡ record { number = 3; consumed = 0; codes = []; subpart = 2 }
  pub surrogate_strict : decoding LAST+STRICT 3 (0xED ∷ 0xA0 ∷ 0x41 ∷ []) ≡ record { number = 3; consumed = 0; codes = []; subpart = 1 }
  pub surrogate_widened : decoding LAST+SURRO+STRICT 3 (0xED ∷ 0xA0 ∷ 0x41 ∷ []) ≡ record { number = 3; consumed = 0; codes = []; subpart = 2 }
  pub held_bad : Run ((0xE1 ∷ []) ∷ (0x80 ∷ 0x41 ∷ []) ∷ []) (tell incomplete 2 0 1 0 ∷ tell_bad 1 2 ∷ [])
  -- one mark for each maximal subpart: four and 41; by the table as SURRO widens it, and none for a code that SURRO reads; waiting for more of a partial end;
  -- and with room for a mark or none
  pub four_marks : Gives LAST+SHOW (0xE1 ∷ 0x80 ∷ 0xE2 ∷ 0xF0 ∷ 0x91 ∷ 0x92 ∷ 0xF1 ∷ 0xBF ∷ 0x41 ∷ []) (0xFFFD ∷ 0xFFFD ∷ 0xFFFD ∷ 0xFFFD ∷ 0x41 ∷ [])
  pub surrogate_marks : Gives LAST+SHOW (0xED ∷ 0xA0 ∷ 0x41 ∷ []) (0xFFFD ∷ 0xFFFD ∷ 0x41 ∷ [])
  pub surrogate_mark : Gives LAST+SURRO+SHOW (0xED ∷ 0xA0 ∷ 0x41 ∷ []) (0xFFFD ∷ 0x41 ∷ [])
  pub surrogate_unmarked : Gives LAST+SURRO+SHOW (0xED ∷ 0xB2 ∷ 0x80 ∷ []) (0xDC80 ∷ [])
  pub cut_marked : Gives LAST+SHOW (0xF0 ∷ 0x9F ∷ 0x92 ∷ []) (0xFFFD ∷ [])
  pub cut_unmarked : decoding SHOW 3 (0xE1 ∷ 0x80 ∷ 0xE2 ∷ []) ≡ record { number = 2; consumed = 2; codes = 0xFFFD ∷ []; subpart = 0 }
  pub no_room : decoding LAST+SHOW 0 (0xE1 ∷ 0x80 ∷ 0x41 ∷ []) ≡ record { number = 1; consumed = 0; codes = []; subpart = 0 }
  pub one_room : decoding LAST+SHOW 1 (0xE1 ∷ 0x80 ∷ 0x41 ∷ []) ≡ record { number = 1; consumed = 2; codes = 0xFFFD ∷ []; subpart = 0 }
  -- the writer's line
  pub escapes_written : Writes 3 (0xDCE2 ∷ 0xDC80 ∷ 0xDCB2 ∷ []) (0xE2 ∷ 0x80 ∷ 0xB2 ∷ [])
  pub prime_written : Writes 3 (0x2032 ∷ []) (0xE2 ∷ 0x80 ∷ 0xB2 ∷ [])
  pub prime_clean : CleanList Utf8 (0x2032 ∷ [])
  pub escapes_unclean : CleanList Utf8 (0xDCE2 ∷ 0xDC80 ∷ 0xDCB2 ∷ []) → ⊥
  -- the droplet as 16-bit units
  pub droplet_units : Run ((0xF0 ∷ 0x9F ∷ 0x92 ∷ 0xA7 ∷ []) ∷ [] ∷ []) (tell unit 0 0xD83D 4 0 ∷ tell continuation 0 0xDCA7 0 0 ∷ [])
  -- the 16-bit step, whole run
  pub run :
      Run ((0xF0 ∷ 0x9F ∷ []) ∷ (0x92 ∷ 0xA7 ∷ []) ∷ [] ∷ [] ∷ [])
      (tell incomplete 2 0 2 0 ∷ tell unit 0 0xD83D 2 0 ∷ tell continuation 0 0xDCA7 0 0 ∷ tell incomplete 2 0 0 0 ∷ [])
