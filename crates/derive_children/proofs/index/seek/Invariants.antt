-- `derive_children::index::seek` meets its contract. The loop's invariant: the rest of the chain holds what the whole chain holds of v.
-- Assumes nothing.
use Prim.Native.Nat.{◌≤◌}
use lib.ListN.{length}
use Rattle.derive_children.specs.Index.{link_at}
use Rattle.derive_children.proofs.Seeking.{Seeking, left}
use Rattle.derive_children.proofs.index.seek.Given as goal

abbrev pub invariant-loop-at : goal.invariant-loop-at
invariant-loop-at l = Seeking l.parents (link_at l.parents l.t) l.v l.from l.at × (l.at ≤ length l.parents)

abbrev pub decreases-loop-at : goal.decreases-loop-at
decreases-loop-at l = left (length l.parents) l.at
