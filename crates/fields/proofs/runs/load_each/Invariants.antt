-- The first i numbers stand in the table. Assumes nothing.
use lib.ListN.{length}
use Rattle.format.specs.Field.{words}
use Rattle.fields.proofs.RunLaws.{Put}
use Rattle.fields.proofs.runs.load_each.Given as goal

abbrev pub invariant-loop-i : goal.invariant-loop-i
invariant-loop-i g l =
    Put (g.T.Pod.values (words g.T.Pod.SIZE (length l.initial.t) l.s)) (length l.initial.t) l.initial.t 0 l.t l.i
