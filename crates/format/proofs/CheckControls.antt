-- The controls of lookup and check, each proved by computation. Assumes nothing.
use mathlib.Core.Path.{refl}
use Rattle.format.specs.CheckControls.{CheckControls}
use Rattle.format.proofs.Computing.{everything}

pub check_controls : CheckControls
unfolding everything
check_controls =
    record {
      fourteen = refl;
      fourteen_first = refl;
      key_of32_bits = refl;
      position_of32_bits = refl;
      no_bucket_pointer = refl;
      no_bucket_count = refl;
      whole_array = refl;
      lookup_in98 = refl;
      lookup_at_zero = refl;
      parents_first = refl;
      children_first = refl;
      inverse_first = refl;
      one_before21 = refl;
      rows_of_no_bones = refl;
      no_children = refl;
      long_chain = refl;
      entry_tag_of32_bits = refl;
      check_at_zero = refl;
    }
