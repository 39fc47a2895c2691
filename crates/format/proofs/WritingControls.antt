-- The controls of writing, each proved by computation. Assumes nothing.
use mathlib.Core.Path.{refl}
use Rattle.format.specs.WritingControls.{WritingControls}
use Rattle.format.proofs.Computing.{everything}

pub writing_controls : WritingControls
unfolding everything
writing_controls =
    record {
      free_words = refl;
      one_root_pointers = refl;
      longest_name = refl;
      two_before_four = refl;
      most_bones = refl;
      four_before_one = refl;
      second_name = refl;
      one_before_five = refl;
      three_before_five = refl;
      just_fits = refl;
      five = refl;
    }
