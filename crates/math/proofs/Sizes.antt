-- Laws of sizes: a made matrix has sixteen floats.
-- Assumes nothing.
use mathlib.Core.Path.{◌≡◌, refl}
use mathlib.Core.Bool.{Bool, true, false}
use lib.ListN.{length}
use Rattle.math.specs.declared.Vec3.{Vec3}
use Rattle.math.specs.declared.Vec4.{Vec4}
use Rattle.math.specs.declared.Mat4.{Mat4}
use Rattle.math.specs.Matrix.{from_quat_pos}
use Rattle.math.specs.Inverse.{inverse, pick_mat}

pub length-from_quat_pos : (q : Vec4) (t : Vec3) → length (from_quat_pos q t).0 ≡ 16
unfolding from_quat_pos
length-from_quat_pos q t = refl

length_pick : (t : Bool) (a b : Mat4) → length a.0 ≡ 16 → length b.0 ≡ 16 → length (pick_mat t a b).0 ≡ 16
unfolding pick_mat
length_pick true a b h k = h
length_pick false a b h k = k

pub length-inverse : (m : Mat4) → length (inverse m).0 ≡ 16
unfolding inverse
length-inverse m = length_pick _ _ _ refl refl
