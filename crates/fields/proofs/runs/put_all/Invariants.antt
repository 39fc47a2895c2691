-- The bytes of the first i numbers are stored. Assumes nothing.
use Prim.Native.Nat.{◌*◌}
use lib.ListN.{length}
use Rattle.format.specs.Field.{word_bytes}
use Rattle.fields.proofs.RunLaws.{Put}
use Rattle.fields.proofs.runs.put_all.Given as goal

abbrev pub invariant-loop-i : goal.invariant-loop-i
invariant-loop-i g l =
    Put (word_bytes g.T.Pod.SIZE (g.T.Pod.numbers l.w)) (g.T.Pod.SIZE * length l.w) l.initial.d 0 l.d (g.T.Pod.SIZE * l.i)
