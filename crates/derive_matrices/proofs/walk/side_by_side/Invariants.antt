-- Each walk from here, with the steps that are left, ends where the whole walk ends.
use Prim.Native.Nat.{◌-◌}
use lib.ListN.{length, get_or}
use Rattle.derive_matrices.proofs.Lanes.{FourWalks}
use Rattle.derive_matrices.proofs.walk.side_by_side.Given as goal

abbrev pub invariant-loop-steps : goal.invariant-loop-steps
invariant-loop-steps l =
    FourWalks l.bones l.steps l.initial.poses l.poses
    (get_or l.initial.parents 0 0) (get_or l.initial.parents 1 0) (get_or l.initial.parents 2 0) (get_or l.initial.parents 3 0)
    (get_or l.parents 0 0) (get_or l.parents 1 0) (get_or l.parents 2 0) (get_or l.parents 3 0)

abbrev pub decreases-loop-steps : goal.decreases-loop-steps
decreases-loop-steps l = length l.bones - l.steps
