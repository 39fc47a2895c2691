-- `blocks::tree::free_row` meets its contract: the rows that the loop has passed are used. Assumes nothing.
use Rattle.blocks.proofs.Descending.{Sought}
use Rattle.blocks.proofs.tree.free_row.Given as goal

abbrev pub invariant-loop-i : goal.invariant-loop-i
invariant-loop-i l = Sought l.pool l.taken l.i
