-- `write::names::measure_names` meets its contract. The loop's invariant: the rows passed are measured. Assumes nothing.
use Rattle.blocks.specs.Places.{section_of}
use Rattle.write.proofs.Naming.{Measuring}
use Rattle.write.proofs.names.measure_names.Given as goal

abbrev pub invariant-loop-row : goal.invariant-loop-row
invariant-loop-row l = Measuring (section_of l.names) l.bones l.row-index l.total
