-- `blocks::tree::path` meets its contract: the rows that the loop has followed are those of the path. Assumes nothing.
use Rattle.blocks.specs.Hashed.{side_number}
use Rattle.blocks.proofs.Descending.{Along}
use Rattle.blocks.proofs.tree.path.Given as goal

abbrev pub invariant-loop-next : goal.invariant-loop-next
invariant-loop-next l = Along l.pool l.va l.bits (side_number l.side) l.at l.above l.next

abbrev pub decreases-loop-next : goal.decreases-loop-next
decreases-loop-next l = l.above
