-- `blocks::pool::put_at` meets its contract: a row stored where the search ended, or as `put` says. Assumes nothing.
use Rattle.blocks.specs.Kinds.{meant_kind}
use Rattle.blocks.specs.Pool.{pool_row}
use Rattle.blocks.proofs.Storing.{stores-done}
use Rattle.blocks.proofs.pool.put_at.Goals as goal

pub returns-in-Row-clause-table : goal.returns-in-Row-clause-table
returns-in-Row-clause-table c =
    let p = pool_row c.args.va (meant_kind c.args.kind) c.args.stored.first c.args.stored.count in
    rw (c.store.ensures.table, c.in-Row.is) (record { at = λ g. stores-done c.args.pool.now p c.in-Row.i g })
