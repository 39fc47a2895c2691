-- `write::names::no_zero_run` meets its contract. The loop's invariant: `good` tells of the bytes passed. Assumes nothing.
use Rattle.write.proofs.Naming.{Passed}
use Rattle.write.proofs.names.no_zero_run.Given as goal

abbrev pub invariant-loop-byte : goal.invariant-loop-byte
invariant-loop-byte l = Passed l.s l.byte-index l.good
