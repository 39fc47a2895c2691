-- The first i items stand in the table. Assumes nothing.
use lib.ListN.{length}
use Rattle.fields.proofs.RunLaws.{Put}
use Rattle.fields.proofs.runs.copy_each.Given as goal

abbrev pub invariant-loop-i : goal.invariant-loop-i
invariant-loop-i g l = Put l.s (length l.initial.t) l.initial.t 0 l.t l.i
