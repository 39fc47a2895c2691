-- The rows of the fours passed stand.
use Prim.Native.Nat.{◌*◌}
use mathlib.Core.List.{map}
use Rattle.format.specs.Matrices.{inverse_of}
use Rattle.format.specs.Rows.{bone_of}
use Rattle.derive_matrices.specs.Transforming.{Continues}
use Rattle.derive_matrices.proofs.matrices.put_fours.Given as goal

abbrev pub invariant-loop-four : goal.invariant-loop-four
invariant-loop-four l =
    Continues (inverse_of (map bone_of l.bones)) l.bones 0 (4 * l.four) l.initial.inverse l.inverse
