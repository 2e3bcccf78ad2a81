-- The lines are so, by computation. Assumes nothing.
use mathlib.Core.Path.{refl}
use mathlib.Core.Logic.{inl, inr}
use mathlib.Core.List.{List, [], ◌∷◌, map}
use Prim.Native.Nat.{ℕ}
use native.Mathlib.Omega.{arith}
use Rattle.flags.specs.Number.{flags_of, reader_refuses}
use Rattle.codings.specs.Codings.{reader_refuses_in}
use Rattle.form.specs.Table.{plain, surro, WellFormed, Escape}
use Rattle.form.specs.Text.{All, unescape}
use Rattle.form.proofs.Utf8.{plain-scans, plain-run, plain_demand3}
use Rattle.readings.specs.Reading.{stopped, follow, decoding_in}
use Rattle.utf16.specs.Utf16.{utf16}
use Rattle.state.specs.Meaning.{padded, record_of, meaning, sense, sense_of}
use Rattle.advance.specs.Step.{step}
use Rattle.packets.specs.Reader.{then}
use Rattle.packets.specs.Lines.{Lines}

pub lines : Lines
unfolding plain surro flags_of reader_refuses stopped follow decoding_in reader_refuses_in utf16 padded record_of meaning sense sense_of step then
lines =
    record {
      marks = refl;
      marks_wait = refl;
      strict = refl;
      strict_last = refl;
      refused = refl;
      forty_minutes = refl;
      cut_alone = refl;
      rest_alone = refl;
      cut_clean = plain_demand3.clean (0xE2 ∷ 0x80 ∷ []) (omega arith, (omega arith, tt));
      rest_clean = plain_demand3.clean (0xB2 ∷ []) (omega arith, tt);
      both_unclean =
          λ h.
          let l : List ℕ = 0xDCE2 ∷ 0xDC80 ∷ 0xDCB2 ∷ [] in
          let e : All Escape l = ((omega arith, omega arith), ((omega arith, omega arith), ((omega arith, omega arith), tt))) in
          let w : WellFormed plain (map unescape l) = (0x2032, ((plain-scans.finds_well (map unescape l) 0x2032 3).0 refl).0) in
          h.1 [] l [] refl (plain-run l e w) e w;
      droplet =
          ((refl, inr (omega arith, (refl, inr (omega arith, (refl, inr (omega arith, (refl, inr (omega arith, (refl, inr (omega arith, ([], refl))))))))))), refl);
      droplet_whole = ((refl, inr (omega arith, (refl, refl, ([], refl)))), refl);
      zero-bad = ((refl, inr (omega arith, (refl, inr (omega arith, (refl, inl (refl, refl)))))), refl);
      letter-bad = ((refl, inr (omega arith, (refl, inr (omega arith, (refl, inl (refl, refl)))))), refl);
      cut-held = ((refl, inr (omega arith, (0xF0 ∷ 0x9F ∷ 0x92 ∷ [], refl))), refl);
      no_packets = (([], refl), refl);
    }
