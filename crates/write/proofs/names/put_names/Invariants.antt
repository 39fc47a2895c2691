-- `write::names::put_names` meets its contract. The loop's invariant: the names of the rows ahead are left. Assumes nothing.
use Rattle.blocks.specs.Places.{section_of}
use Rattle.write.proofs.Naming.{Naming}
use Rattle.write.proofs.names.put_names.Given as goal

abbrev pub invariant-loop-row : goal.invariant-loop-row
invariant-loop-row l = Naming (section_of l.names) l.bones l.initial.d l.d l.row-index l.to
