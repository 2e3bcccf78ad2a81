-- The codings that a caller speaks: the tables that decide, the lengths of runs and sequences, and the flag numbers that are refused. Assumes nothing.
use Rattle.std.specs.Prelude.{Bool, false, ◌||◌, cond, List, ℕ}
use Rattle.flags.specs.declared.Flags.{Flags}
use Rattle.flags.specs.Number.{flags_of, reader_refuses, writer_refuses}
use Rattle.form.specs.Table.{Form, plain, surro, cesu}
use Rattle.form.specs.Text.{plain_runs, cesu_runs}
use Rattle.codings.specs.declared.Coding.{Coding}
use Rattle.codings.specs.declared.Coding.TheVariants.{Utf8, Cesu8}

-- the table that the reader goes by: SURRO widens that of UTF-8
abbrev pub reader_form : Coding → Flags → Form
reader_form Utf8 m = cond m.surro surro plain
reader_form Cesu8 m = cesu

-- the table that the writer goes by, before the surrogates
abbrev pub writer_form : Coding → Form
writer_form Utf8 = plain
writer_form Cesu8 = cesu

-- the bytes of the longest sequence
abbrev pub longest : Coding → ℕ
longest Utf8 = 4
longest Cesu8 = 6

-- how many neighbouring escapes may stand for one well-formed sequence
abbrev pub runs : Coding → List ℕ
runs Utf8 = plain_runs
runs Cesu8 = cesu_runs

-- document 02, C-12: in CESU-8 SURRO is refused
abbrev pub refuses_surro : Coding → Flags → Bool
refuses_surro Utf8 m = false
refuses_surro Cesu8 m = m.surro

-- beside what every coding refuses
unfoldable pub reader_refuses_in : Coding → ℕ → Bool
reader_refuses_in K n = refuses_surro K (flags_of n) || reader_refuses n

unfoldable pub writer_refuses_in : Coding → ℕ → Bool
writer_refuses_in K n = refuses_surro K (flags_of n) || writer_refuses n
