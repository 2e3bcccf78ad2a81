-- The lines are so, by computation. Assumes nothing.
use mathlib.Core.Path.{refl}
use mathlib.Core.List.{List, [], ◌∷◌, map}
use Prim.Native.Nat.{ℕ}
use native.Mathlib.Omega.{arith}
use Rattle.flags.specs.Number.{flags_of, reader_refuses, writer_refuses}
use Rattle.codings.specs.Codings.{reader_refuses_in, writer_refuses_in}
use Rattle.form.specs.Table.{plain, surro, WellFormed, Escape}
use Rattle.form.specs.Text.{All, unescape}
use Rattle.form.proofs.Utf8.{plain-scans, plain-run, plain_demand3}
use Rattle.readings.specs.Reading.{stopped, follow, decoding_in}
use Rattle.writings.specs.Writing as Writing
use Rattle.writings.specs.Writing.{refuses, bytes, after, encoding_in}
use Rattle.utf16.specs.Utf16.{utf16}
use Rattle.state.specs.Meaning.{padded, record_of, meaning, sense, sense_of}
use Rattle.advance.specs.Step.{step}
use Rattle.worked.specs.Lines.{Lines}

pub lines : Lines
unfolding plain surro flags_of reader_refuses writer_refuses stopped follow decoding_in reader_refuses_in Writing.stopped refuses bytes after encoding_in writer_refuses_in utf16 padded record_of meaning sense sense_of step
lines =
    record {
      none = refl;
      null = refl;
      forty_minutes = refl;
      highest = refl;
      too_high = refl;
      overlong = refl;
      surrogate = refl;
      surrogate_through = refl;
      cut = refl;
      cut_waits = refl;
      droplet = refl;
      strict = refl;
      cut_strict = refl;
      surrogate_strict = refl;
      surrogate_widened = refl;
      held_bad = (refl, refl);
      four_marks = refl;
      surrogate_marks = refl;
      surrogate_mark = refl;
      surrogate_unmarked = refl;
      cut_marked = refl;
      cut_unmarked = refl;
      no_room = refl;
      one_room = refl;
      escapes_written = refl;
      prime_written = refl;
      prime_clean = plain_demand3.clean (0xE2 ∷ 0x80 ∷ 0xB2 ∷ []) (omega arith, (omega arith, (omega arith, tt)));
      escapes_unclean =
          λ h.
          let l : List ℕ = 0xDCE2 ∷ 0xDC80 ∷ 0xDCB2 ∷ [] in
          let e : All Escape l = ((omega arith, omega arith), ((omega arith, omega arith), ((omega arith, omega arith), tt))) in
          let w : WellFormed plain (map unescape l) = (0x2032, ((plain-scans.finds_well (map unescape l) 0x2032 3).0 refl).0) in
          h.1 [] l [] refl (plain-run l e w) e w;
      droplet_units = (refl, refl);
      run = (refl, refl);
    }
