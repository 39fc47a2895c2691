-- The controls of deriving, each proved by computation. Assumes nothing.
use mathlib.Core.Path.{refl}
use Rattle.format.specs.DerivingControls.{DerivingControls}
use Rattle.format.proofs.Computing.{everything}

pub deriving_controls : DerivingControls
unfolding everything
deriving_controls =
    record {
      chain_counts = refl;
      root_minus_two = refl;
      root_least = refl;
      greatest_parent = refl;
      two_roots = refl;
      own_parent = refl;
      three_steps = refl;
      turned_otherwise = refl;
      climbs_to_no_negative = refl;
      sizes = refl;
      sizes_of_none = refl;
      sizes_of_one = refl;
    }
