-- The lines are so, by computation. Assumes nothing.
use mathlib.Core.Path.{refl}
use Rattle.form.specs.Table.{plain}
use Rattle.reason.specs.Reason.{judged, reason}
use Rattle.reason.specs.Lines.{Lines}

pub lines : Lines
unfolding plain judged reason
lines =
    record {
      letter = refl;
      e_acute = refl;
      inside_e_acute = refl;
      C0 = refl;
      after_C0 = refl;
      F5 = refl;
      FF = refl;
      E0-80 = refl;
      E0-9F-BF = refl;
      F0-8F = refl;
      ED-A0 = refl;
      F4-90 = refl;
      E0-letter = refl;
      F0-90-letter = refl;
      C2-zero = refl;
      E1-80-E2 = refl;
      last_E2 = refl;
      E0-alone = refl;
      cut_droplet = refl;
      cut_prime = refl;
      none = refl;
      at_end = refl;
      far_past = refl;
    }
