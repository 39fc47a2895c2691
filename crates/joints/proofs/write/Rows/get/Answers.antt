-- `Rows::get` meets its contract: the rows are the code's chunks. Assumes nothing.
use Rattle.joints.proofs.Laying.{rows_short, rows_first}
use Rattle.joints.proofs.write.Rows.get.Goals as goal

pub returns-then-rows-self : goal.returns-then-rows-self
returns-then-rows-self g c =
    rows_short g.row.WORDS c.args.self.count c.args.self.table.now c.requires (rw c.as_chunks.ensures.front_len at c.if-rows-self.true)

pub returns : goal.returns
returns g c =
    rw c.as_chunks.ensures.front
    (rows_first g.row.WORDS c.args.self.count c.args.self.table.now c.requires (rw c.as_chunks.ensures.front_len at c.if-rows-self.false))
