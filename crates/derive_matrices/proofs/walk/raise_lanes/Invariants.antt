-- `derive_matrices::walk::raise_lanes` meets its contract. The loop's invariant: the lanes below i are a step further, and the others are
-- as they were. Assumes nothing.
use Prim.Native.Nat.{◌≤◌}
use Rattle.derive_matrices.proofs.Lanes.{Raising}
use Rattle.derive_matrices.proofs.walk.raise_lanes.Given as goal

abbrev pub invariant-loop-i : goal.invariant-loop-i
invariant-loop-i l = (l.i ≤ 4) × Raising l.parents l.initial.s l.s l.i
