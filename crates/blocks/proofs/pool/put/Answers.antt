-- `blocks::pool::put` meets its contract: a table of no rows, a row stored where the search ends, one that the tree takes, or a full table.
-- Assumes nothing.
use native.Mathlib.Omega.{arith}
use Rattle.blocks.specs.Kinds.{meant_kind}
use Rattle.blocks.specs.Hashed.{pool_rows}
use Rattle.blocks.specs.Pool.{pool_row}
use Rattle.blocks.proofs.Paths.{linkable_le}
use Rattle.blocks.proofs.Table.{row_lt}
use Rattle.blocks.proofs.Storing.{stores-none, stores-done, stores-full, stores-linked}
use Rattle.blocks.proofs.pool.put.Goals as goal

pub returns-then-rows-eq0-clause-table : goal.returns-then-rows-eq0-clause-table
returns-then-rows-eq0-clause-table c =
    stores-none c.args.pool.now (pool_row c.args.va (meant_kind c.args.kind) c.args.stored.first c.args.stored.count) c.if-rows-eq0.true

pub store-requires : goal.store-requires
store-requires c = row_lt c.args.pool.now c.args.va _ c.in-Row.ensures

pub link-requires : goal.link-requires
link-requires c = c.in-Tree.ensures.free.low

pub store-requires-in-Tree : goal.store-requires-in-Tree
store-requires-in-Tree c =
    omega (arith, c.in-Tree.ensures.free.low, linkable_le (pool_rows c.args.pool.now), c.link.auto.pool)

pub returns-in-Full-clause-table : goal.returns-in-Full-clause-table
returns-in-Full-clause-table c = stores-full c.args.pool.now _ c.in-Full.ensures

pub returns-in-Row-clause-table : goal.returns-in-Row-clause-table
returns-in-Row-clause-table c =
    rw c.store.ensures.table (stores-done c.args.pool.now _ _ c.in-Row.ensures)

pub returns-in-Tree-clause-table : goal.returns-in-Tree-clause-table
returns-in-Tree-clause-table c =
    rw c.store-in-Tree.ensures.table (stores-linked c.args.pool.now _ _ c.in-Tree.ensures _ c.link.ensures)
