-- What holds of the rows of every form: a clause for each case of the enum. Assumes nothing.
use mathlib.Core.Path.{◌≡◌, ap}
use mathlib.Core.Bool.{Bool}
use mathlib.Core.List.{List, [], ◌∷◌}
use Prim.Native.Nat.{ℕ, ◌+◌, ◌≤◌, ◌<◌}
use native.Mathlib.Omega.{arith}
use lib.Dec.{T}
use lib.ListN.{drop}
use borrow.Author.Tests.{le-leb}
use Rattle.form.specs.Table as Table
use Rattle.form.specs.Table.{◌to◌, row, plain, surro, cesu, Codes}
use Rattle.form.specs.Pattern.{bits}
use Rattle.form.specs.Scan.{well, part, scan}
use Rattle.form.proofs.Tests.{Regular}
use Rattle.form.proofs.After.{scan-nil}
use Rattle.form.proofs.Between.{between, between-at}
use Rattle.form.proofs.Laws.{Scans, scans}
use Rattle.form.proofs.Utf8.{plain-regular, surro-regular, plain-bits, surro-bits}
use Rattle.form.proofs.Cesu.{cesu_sound, cesu_form, cesu-bits}
use Rattle.form.proofs.Writers.{Writer, wider, plain_writer, surro_writer, cesu_writer}
use Rattle.forms.specs.declared.Form.{Form}
use Rattle.forms.specs.declared.Form.TheVariants.{Plain, Surro, Cesu}
use Rattle.forms.specs.Forms.{rows_of}

pub form_regular : (f : Form) → Regular (rows_of f)
form_regular Plain = plain-regular
form_regular Surro = surro-regular
form_regular Cesu = cesu_sound.regular

-- no form has a longer sequence than six bytes
pub form_scans : (f : Form) → Scans (rows_of f) 6
unfolding plain surro
form_scans Plain = scans plain 6 plain-regular tt tt
form_scans Surro = scans surro 6 surro-regular tt tt
form_scans Cesu = cesu_form.scans

pub form_nil : (f : Form) → scan (rows_of f) [] ≡ part
form_nil f = scan-nil (rows_of f) (form_regular f).is_some (form_regular f).is_open

ascii-row : (F : Table.Form) (b : ℕ) (t : List ℕ) → b < 0x80 → scan (row 0 (0x00 to 0x7F ∷ []) ∷ F) (b ∷ t) ≡ well b 1
ascii-row F b t h = rw (le-leb 0 b (omega arith), le-leb b 0x7F (omega arith)) (ap (λ (c : ℕ). well c 1) (omega arith))

-- a byte below 80 is a sequence by itself
pub form_ascii : (f : Form) (b : ℕ) (t : List ℕ) → b < 0x80 → scan (rows_of f) (b ∷ t) ≡ well b 1
unfolding plain surro cesu
form_ascii Plain b t h = ascii-row (drop 1 plain) b t h
form_ascii Surro b t h = ascii-row (drop 1 surro) b t h
form_ascii Cesu b t h = ascii-row (drop 1 cesu) b t h

pub form_bits : (f : Form) (w : List ℕ) (c : ℕ) → Codes (rows_of f) w c → c ≡ bits w
form_bits Plain = plain-bits
form_bits Surro = surro-bits
form_bits Cesu = cesu-bits

-- and six bytes are enough for a code that is written
pub form_writer : (f : Form) → Writer (rows_of f) 6
form_writer Plain = wider 6 (omega arith) plain_writer
form_writer Surro = wider 6 (omega arith) surro_writer
form_writer Cesu = cesu_writer

-- a test of the rows and a byte, computed at each table over the n bytes from lo on
pub every_form : (P : Table.Form → ℕ → Bool) (lo n : ℕ) → T (between lo n (P plain)) → T (between lo n (P surro)) → T (between lo n (P cesu)) → (f : Form) (b : ℕ) → lo ≤ b → b < lo + n → T (P (rows_of f) b)
every_form P lo n t u v Plain b h g = between-at lo n (P plain) t b h g
every_form P lo n t u v Surro b h g = between-at lo n (P surro) u b h g
every_form P lo n t u v Cesu b h g = between-at lo n (P cesu) v b h g
