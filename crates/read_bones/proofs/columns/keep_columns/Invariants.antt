-- `read_bones::columns::keep_columns` meets its contract.
-- The loop's invariant: the rows passed have taken their columns. Assumes nothing.
use Rattle.read_bones.proofs.Keeping.{Keeping}
use Rattle.read_bones.proofs.columns.keep_columns.Given as goal

abbrev pub invariant-loop-row : goal.invariant-loop-row
invariant-loop-row l = Keeping l.n l.matrices l.initial.bones l.row l.bones
