-- The rows below p stand.
use Rattle.format.specs.Matrices.{local_of}
use Rattle.derive_matrices.specs.Transforming.{RowsPlaced}
use Rattle.derive_matrices.proofs.matrices.put_locals.Given as goal

abbrev pub invariant-loop-p : goal.invariant-loop-p
invariant-loop-p g l = RowsPlaced local_of l.bones l.initial.local l.local l.p
