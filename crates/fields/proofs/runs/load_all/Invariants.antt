-- The first i blocks stand in the table. Assumes nothing.
use Prim.Native.Nat.{◌*◌}
use lib.ListN.{length}
use Rattle.format.specs.Field.{words}
use Rattle.fields.proofs.RunLaws.{Put}
use Rattle.fields.proofs.runs.load_all.Given as goal

abbrev pub invariant-loop-i : goal.invariant-loop-i
invariant-loop-i g l =
    Put (g.T.Pod.values (words g.T.Pod.SIZE (length l.initial.t) l.s)) (length l.initial.t) l.initial.t 0 l.t (16 * l.i)
