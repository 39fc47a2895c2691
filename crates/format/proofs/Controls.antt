-- The controls, each proved by computation. Assumes nothing.
use mathlib.Core.Path.{refl}
use Rattle.format.specs.Controls.{Controls}
use Rattle.format.proofs.Computing.{everything}

pub controls : Controls
unfolding everything
controls =
    record {
      lays = refl;
      reads_back = refl;
      accepted = refl;
      neither_half = refl;
      upper_bits = refl;
      parents_past_end = refl;
      children_past_end = refl;
      name_at_entry = refl;
      name_at_its_bone = refl;
      fourth_bone = refl;
      pointer15 = refl;
      twelve_before_ten = refl;
      ninety_eight = refl;
      ninety_seven = refl;
      pointer16 = refl;
      twelve_chains = refl;
      cut_chain = refl;
      wrong_position = refl;
      circular_chain = refl;
      wrong_parent = refl;
      wrong_child = refl;
      wrong_inverse = refl;
      wrong_local = refl;
      other_column4 = refl;
      children_at_parents = refl;
      children_at_parents_past_end = refl;
      children_at_parents_refused = refl;
      local_at_inverse = refl;
      local_at_inverse_refused = refl;
      lookups = refl;
      circular_lookup = refl;
      identity_inverse = refl;
      infinite_inverse = refl;
      nan_local = refl;
    }
