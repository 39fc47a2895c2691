-- `derive_matrices::walk::put_pose` meets its contract. Assumes nothing.
use native.Mathlib.Omega.{arith}
use lib.ListN.{length-set}
use Rattle.derive_matrices.specs.Walking.{meant_pose}
use Rattle.derive_matrices.proofs.Lanes.{pose_put}
use Rattle.derive_matrices.proofs.walk.put_pose.Goals as goal

pub bounds-s-i-2 : goal.bounds-s-i-2
bounds-s-i-2 c = simp length-set (omega (arith, c.requires.0, c.requires.1))

pub bounds-s-i-3 : goal.bounds-s-i-3
bounds-s-i-3 c = simp length-set (omega (arith, c.requires.0, c.requires.1))

pub bounds-s-i-4 : goal.bounds-s-i-4
bounds-s-i-4 c = simp length-set (omega (arith, c.requires.0, c.requires.1))

pub bounds-s-i-5 : goal.bounds-s-i-5
bounds-s-i-5 c = simp length-set (omega (arith, c.requires.0, c.requires.1))

pub bounds-s-i-6 : goal.bounds-s-i-6
bounds-s-i-6 c = simp length-set (omega (arith, c.requires.0, c.requires.1))

pub bounds-s-i-7 : goal.bounds-s-i-7
bounds-s-i-7 c = simp length-set (omega (arith, c.requires.0, c.requires.1))

pub returns : goal.returns
returns c = record { lanes = pose_put c.args.s.now c.args.i (meant_pose c.args.v) c.requires.1 c.requires.0 }
