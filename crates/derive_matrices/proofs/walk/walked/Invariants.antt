-- What is left of the walk ends where the whole walk ends.
use mathlib.Core.Path.{◌≡◌}
use mathlib.Core.List.{map}
use lib.ListN.{length}
use Prim.Native.Nat.{◌-◌}
use Rattle.format.specs.Rows.{bone_of}
use Rattle.format.specs.Matrices.{walk}
use Rattle.derive_matrices.specs.Walking.{walk_from}
use Rattle.derive_matrices.proofs.walk.walked.Given as goal

abbrev pub invariant-loop-step : goal.invariant-loop-step
invariant-loop-step g l =
    walk (map bone_of l.bones) (length l.bones - l._step) l.p (record { position = l.position; rotation = l.rotation })
    ≡ walk_from (map bone_of l.bones) (length l.bones - l.done) l.fn.from
