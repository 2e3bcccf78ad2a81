-- The lines are so, by computation. Assumes nothing.
use mathlib.Core.Path.{refl}
use mathlib.Core.List.{List, [], ◌∷◌, map}
use Prim.Native.Nat.{ℕ}
use native.Mathlib.Omega.{arith}
use Rattle.flags.specs.Number.{flags_of, reader_refuses, writer_refuses}
use Rattle.codings.specs.Codings.{reader_refuses_in, writer_refuses_in}
use Rattle.form.specs.Table.{plain, cesu, WellFormed, Escape}
use Rattle.form.specs.Text.{All, unescape}
use Rattle.form.proofs.Cesu.{cesu_form, cesu-run, cesu_demand3}
use Rattle.readings.specs.Reading.{stopped, follow, decoding_in}
use Rattle.writings.specs.Writing as Writing
use Rattle.writings.specs.Writing.{refuses, bytes, after, encoding_in}
use Rattle.utf16.specs.Utf16.{utf16}
use Rattle.state.specs.Meaning.{padded, record_of, meaning, sense, sense_of}
use Rattle.advance.specs.Step.{step}
use Rattle.worked.specs.Cesu8.{Lines}

pub lines_cesu8 : Lines
unfolding plain cesu flags_of reader_refuses writer_refuses stopped follow decoding_in reader_refuses_in Writing.stopped refuses bytes after encoding_in writer_refuses_in utf16 padded record_of meaning sense sense_of step
lines_cesu8 =
    record {
      droplet = refl;
      highest = refl;
      four_bytes = refl;
      lone_high = refl;
      lone_low = refl;
      high_letter = refl;
      two_highs = refl;
      three_wait = refl;
      four_wait = refl;
      five_wait = refl;
      escapes = refl;
      marks = refl;
      strict = refl;
      surro_read = refl;
      surro_written = refl;
      first_pair = refl;
      no_room = refl;
      escape_written = refl;
      surrogate_written = refl;
      surrogates_written = refl;
      across-read = refl;
      across_written = refl;
      pair_clean = cesu_demand3.clean (0xED ∷ 0xA0 ∷ 0x80 ∷ 0xED ∷ 0xB0 ∷ 0x80 ∷ []) (omega arith, (omega arith, (omega arith, (omega arith, (omega arith, (omega arith, tt))))));
      escapes_unclean =
          λ h.
          let l : List ℕ = 0xDCED ∷ 0xDCA0 ∷ 0xDC80 ∷ 0xDCED ∷ 0xDCB0 ∷ 0xDC80 ∷ [] in
          let e : All Escape l = ((omega arith, omega arith), ((omega arith, omega arith), ((omega arith, omega arith), ((omega arith, omega arith), ((omega arith, omega arith), ((omega arith, omega arith), tt)))))) in
          let w : WellFormed cesu (map unescape l) = (0x10000, ((cesu_form.scans.finds_well (map unescape l) 0x10000 6).0 refl).0) in
          h.1 [] l [] refl (cesu-run l e w) e w;
      run = (refl, refl);
      five_held = (refl, refl);
      six_consumed = (refl, refl);
      null_read = (refl, refl);
      ED-here = refl;
      ED-plain = refl;
      other_here = λ i. refl;
      other_plain = λ b i. refl;
      low_from_plain = refl;
      low-to-plain = refl;
    }
