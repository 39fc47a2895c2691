-- `joints::rows::store` meets its contract: `Laid` holds at each turn, of the bytes of each row. Assumes nothing.
use Rattle.format.specs.Field.{word_bytes}
use Rattle.joints.proofs.Pieces.{Laid}
use Rattle.joints.proofs.rows.store.Given as goal

abbrev pub invariant-loop-row : goal.invariant-loop-row
invariant-loop-row g l =
    Laid (λ w. word_bytes 4 (g.L.Limit.slots_in w)) g.row.BYTES l.rows l.initial.records l.records l.at l.row-index
