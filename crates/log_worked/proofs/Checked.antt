-- The lines are so, by computation. Assumes nothing.
use mathlib.Core.Path.{refl}
use Rattle.form.specs.Table.{plain}
use Rattle.log_index.specs.Index.{log_index, finding}
use Rattle.log_index.specs.Update.{updated, fitting, building, updating}
use Rattle.log_worked.specs.Lines.{Lines}

pub lines_index : Lines
unfolding plain log_index finding updated fitting building updating
lines_index =
    record {
      letters_128 = refl;
      letters_129 = refl;
      no_codes = refl;
      no_room = refl;
      prime_at_63 = refl;
      low_byte_first = refl;
      last_letter = refl;
      past_letters = refl;
      far_past = refl;
      first_of_none = refl;
      half_record = refl;
      inside_prime = refl;
      at_end = refl;
      reached_end = refl;
      prime_0 = refl;
      prime_1 = refl;
      prime_2 = refl;
      prime_3 = refl;
      cut_prime = refl;
      cut_droplet = refl;
      three_codes = refl;
      one_code = refl;
      fewer_codes = refl;
      fewer_records = refl;
      one_stands = refl;
      both_stand = refl;
      old_length = refl;
      old_records = refl;
      no_room_after = refl;
    }
