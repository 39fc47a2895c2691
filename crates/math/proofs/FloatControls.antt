-- The controls of the four formulas, each proved by computation. Assumes nothing.
use mathlib.Core.Path.{refl}
use lib.Ieee as Ieee
use Rattle.math.specs.Word.{word_of}
use Rattle.math.specs.Vector.{quat_mul, quat_rotate}
use Rattle.math.specs.Matrix.{from_quat_pos}
use Rattle.math.specs.Inverse.{pick_mat, inverse}
use Rattle.math.specs.FloatControls.{FloatControls}

pub float_controls : FloatControls
unfolding Ieee.add Ieee.sub Ieee.mul Ieee.div Ieee.neg Ieee.eq Ieee.of_bits Ieee.to_bits word_of quat_mul quat_rotate from_quat_pos pick_mat inverse
float_controls =
    record {
      multiplied = refl;
      rotated = refl;
      placed = refl;
      inverted = refl;
    }
