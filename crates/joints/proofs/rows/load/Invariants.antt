-- `joints::rows::load` meets its contract: `Laid` holds at each turn. Assumes nothing.
use Rattle.format.specs.Field.{words}
use Rattle.joints.proofs.Pieces.{Laid}
use Rattle.joints.proofs.rows.load.Given as goal

abbrev pub invariant-loop-record : goal.invariant-loop-record
invariant-loop-record g l =
    Laid (λ r. g.L.Limit.row_of (words 4 g.L.Limit.slots r)) g.row.WORDS l.records l.initial.rows l.rows l.at l.record-index
