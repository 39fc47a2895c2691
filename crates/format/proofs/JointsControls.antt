-- The controls of the joints, each proved by computation. Assumes nothing.
use mathlib.Core.Path.{refl}
use Rattle.format.specs.JointsControls.{JointsControls}
use Rattle.format.proofs.Computing.{everything}

pub joints_controls : JointsControls
unfolding everything
joints_controls =
    record {
      laid = refl;
      empty_lists = refl;
      limits_back = refl;
      no_rotation_row = refl;
      no_translation_row = refl;
      joints_at_zero = refl;
      fifty_two = refl;
      fifty_one = refl;
      limit_bytes_first = refl;
      rotations_first = refl;
      six_before_five = refl;
      six_of_translations = refl;
      most_limits = refl;
      joints_fit = refl;
      joints_short = refl;
      greatest_id = refl;
      greatest_id_laid = refl;
      wide_id = refl;
      wide_id_second = refl;
      translation_id = refl;
      translation_id_laid = refl;
      six_before_wide = refl;
      six_of_others_before_wide = refl;
      wide_before_five = refl;
      rotation_one = refl;
      rotation_short = refl;
      rotation_greatest = refl;
      rotation_wide = refl;
      translation_one = refl;
      translation_short = refl;
      fresh = refl;
      fresh_limit = refl;
    }
