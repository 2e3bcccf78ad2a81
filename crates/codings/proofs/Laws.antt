-- What holds of every coding: a clause for each. Assumes nothing.
use mathlib.Core.Path.{◌≡◌, refl}
use mathlib.Core.Bool.{Bool, true, false, cond}
use Prim.Native.Nat.{ℕ, ◌≤◌, ◌<◌}
use native.Mathlib.Omega.{arith}
use lib.Dec.{T}
use Rattle.flags.specs.declared.Flags.{Flags}
use Rattle.flags.specs.Number.{flags_of, reader_refuses, writer_refuses}
use Rattle.form.specs.Table.{plain, surro}
use Rattle.form.proofs.Tests.{open?, Sound}
use Rattle.form.proofs.Laws.{Scans}
use Rattle.form.proofs.EncodingForms.{EncodingForm, plain_form}
use Rattle.form.proofs.Utf8.{plain_sound, plain-scans, surro-scans, plain-regular, surro-regular}
use Rattle.form.proofs.Cesu.{cesu_sound, cesu_form}
use Rattle.form.proofs.Writers.{Writer, plain_writer, cesu_writer}
use Rattle.codings.specs.declared.Coding.{Coding}
use Rattle.codings.specs.declared.Coding.TheVariants.{Utf8, Cesu8}
use Rattle.codings.specs.Codings.{reader_form, writer_form, longest, runs, refuses_surro, reader_refuses_in, writer_refuses_in}

-- ---- the reader's form, under any flags

pub reads-by : (K : Coding) (m : Flags) → Scans (reader_form K m) (longest K) × T (open? (reader_form K m))
reads-by Utf8 m = go m.surro
  where
    go : (t : Bool) → Scans (cond t surro plain) 4 × T (open? (cond t surro plain))
    go true = (surro-scans, surro-regular.is_open)
    go false = (plain-scans, plain-regular.is_open)
reads-by Cesu8 m = (cesu_form.scans, cesu_sound.regular.is_open)

pub many : (K : Coding) → 1 < longest K
many Utf8 = omega arith
many Cesu8 = omega arith

pub longest-few : (K : Coding) → longest K ≤ 6
longest-few Utf8 = omega arith
longest-few Cesu8 = omega arith

-- without SURRO it is the writer's
pub same_form : (K : Coding) (m : Flags) → m.surro ≡ false → reader_form K m ≡ writer_form K
same_form Utf8 m e = rw e refl
same_form Cesu8 m e = refl

-- ---- the writer's

pub writes-by : (K : Coding) → Writer (writer_form K) (longest K)
writes-by Utf8 = plain_writer
writes-by Cesu8 = cesu_writer

pub encodes : (K : Coding) → EncodingForm (writer_form K) (longest K)
encodes Utf8 = plain_form
encodes Cesu8 = cesu_form

-- demand 3's tests
pub sound : (K : Coding) → Sound (writer_form K) (runs K)
sound Utf8 = plain_sound
sound Cesu8 = cesu_sound

-- ---- flag numbers

-- plain UTF-8 refuses what it did before there was another coding
pub utf8_reader_refuses : (n : ℕ) → reader_refuses_in Utf8 n ≡ reader_refuses n
unfolding reader_refuses_in
utf8_reader_refuses n = refl

pub utf8_writer_refuses : (n : ℕ) → writer_refuses_in Utf8 n ≡ writer_refuses n
unfolding writer_refuses_in
utf8_writer_refuses n = refl

-- of the flags a coding looks at SURRO alone
pub surro_decides : (K : Coding) (m n : Flags) → m.surro ≡ n.surro → refuses_surro K m ≡ refuses_surro K n
surro_decides Utf8 m n e = refl
surro_decides Cesu8 m n e = e

pub surro_decides_form : (K : Coding) (m n : Flags) → m.surro ≡ n.surro → reader_form K m ≡ reader_form K n
surro_decides_form Utf8 m n e = rw e refl
surro_decides_form Cesu8 m n e = refl

-- every reader takes LAST alone and STRICT alone, and every writer no flags
pub takes-last : (K : Coding) → reader_refuses_in K 1 ≡ false
unfolding reader_refuses_in reader_refuses flags_of
takes-last Utf8 = refl
takes-last Cesu8 = refl

pub takes-strict : (K : Coding) → reader_refuses_in K 4 ≡ false
unfolding reader_refuses_in reader_refuses flags_of
takes-strict Utf8 = refl
takes-strict Cesu8 = refl

pub takes_none : (K : Coding) → writer_refuses_in K 0 ≡ false
unfolding writer_refuses_in writer_refuses flags_of
takes_none Utf8 = refl
takes_none Cesu8 = refl
