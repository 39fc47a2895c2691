-- The loop's invariant: the positions from i on are entered.
use Rattle.derive_children.specs.Index.{IndexTable}
use Rattle.derive_children.proofs.index.enter_all.Given as goal

abbrev pub invariant-loop-i : goal.invariant-loop-i
invariant-loop-i l = IndexTable l.parents l.t l.i
