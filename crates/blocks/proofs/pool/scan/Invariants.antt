-- `blocks::pool::scan` meets its contract: the rows that the loop has passed are other addresses'. Assumes nothing.
use Rattle.blocks.proofs.Scanning.{Passed}
use Rattle.blocks.proofs.pool.scan.Given as goal

abbrev pub invariant-loop-i : goal.invariant-loop-i
invariant-loop-i l = Passed l.pool l.va l.from l.to l.i
