-- `write::names::no_zero_near` meets its contract. The loop's invariant: `good` tells of the bytes passed. Assumes nothing.
use lib.ListN.{take}
use Rattle.write.proofs.Naming.{Passed}
use Rattle.write.proofs.names.no_zero_near.Given as goal

abbrev pub invariant-loop-i : goal.invariant-loop-i
invariant-loop-i l = Passed (take l.k l.s) l.i l.good
