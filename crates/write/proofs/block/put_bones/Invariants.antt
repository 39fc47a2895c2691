-- `write::block::put_bones` meets its contract. The loop's invariant: the records of the rows ahead are left. Assumes nothing.
use Rattle.write.proofs.Bones.{Boning}
use Rattle.write.proofs.block.put_bones.Given as goal

abbrev pub invariant-loop-row : goal.invariant-loop-row
invariant-loop-row l = Boning l.bones l.initial.d l.at l.names l.d l.to l.name l.row-index
