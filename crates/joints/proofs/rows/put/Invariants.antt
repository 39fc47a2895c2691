-- `joints::rows::put` meets its contract: the first i words stand. Assumes nothing.
use Rattle.fields.proofs.RunLaws.{Put}
use Rattle.joints.proofs.rows.put.Given as goal

abbrev pub invariant-loop-i : goal.invariant-loop-i
invariant-loop-i g l = Put l.row g.row.WORDS l.initial.rows l.at l.rows l.i
