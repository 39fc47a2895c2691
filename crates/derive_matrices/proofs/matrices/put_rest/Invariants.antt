-- The rows below p stand.
use mathlib.Core.List.{map}
use Rattle.format.specs.Matrices.{inverse_of}
use Rattle.format.specs.Rows.{bone_of}
use Rattle.derive_matrices.specs.Transforming.{Continues}
use Rattle.derive_matrices.proofs.matrices.put_rest.Given as goal

abbrev pub invariant-loop-p : goal.invariant-loop-p
invariant-loop-p g l = Continues (inverse_of (map bone_of l.bones)) l.bones l.from l.p l.initial.inverse l.inverse
