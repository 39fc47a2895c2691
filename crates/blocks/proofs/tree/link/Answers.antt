-- `blocks::tree::link` meets its contract: the link of the path's last row, and the number of rows taken. Assumes nothing.
use native.Mathlib.Omega.{arith}
use lib.ListN.{length-set}
use Prim.Native.Nat.{◌<◌}
use Rattle.blocks.specs.Hashed.{pool_rows}
use Rattle.blocks.proofs.Paths.{linkable_le, linkable_lt}
use Rattle.blocks.proofs.Linking.{end_row, linked-found, linked-left, links-set}
use Rattle.blocks.proofs.tree.link.Goals.{In-Behind}
use Rattle.blocks.proofs.tree.link.Goals as goal

-- the row that has the link
row :
    (c : In-Behind) →
    c.in-Behind.at < pool_rows c.args.pool.now
row c =
    end_row c.args.pool.now c.args.va c.args.i c.path-end.result c.path-end.ensures _ _ c.in-Behind.is

pub path-end-requires : goal.path-end-requires
path-end-requires c =
    omega (arith, linkable_le (pool_rows c.args.pool.now), c.requires)

pub returns-in_default : goal.returns-in_default
returns-in_default c =
    linked-found c.args.pool.now c.args.va c.args.i c.path-end.result
    c.path-end.ensures _
    c.in_default.is

pub overflow_mul-word : goal.overflow_mul-word
overflow_mul-word c = omega (arith, row (goal.at.overflow_mul-word c).In-Behind)

pub overflow_add-word : goal.overflow_add-word
overflow_add-word c = omega (arith, row (goal.at.overflow_add-word c).In-Behind)

pub offset_bounds-pool-at : goal.offset_bounds-pool-at
offset_bounds-pool-at c = omega (arith, row (goal.at.offset_bounds-pool-at c).In-Behind)

pub bounds-pool-at : goal.bounds-pool-at
bounds-pool-at c = omega (arith, row (goal.at.bounds-pool-at c).In-Behind)

pub with_link-requires : goal.with_link-requires
with_link-requires c =
    omega (arith, linkable_lt (pool_rows c.args.pool.now), c.requires)

pub overflow_mul-pool : goal.overflow_mul-pool
overflow_mul-pool c = omega (arith, row (goal.at.overflow_mul-pool c).In-Behind)

pub overflow_add-pool : goal.overflow_add-pool
overflow_add-pool c = omega (arith, row (goal.at.overflow_add-pool c).In-Behind)

pub offset_bounds-pool-at-2 : goal.offset_bounds-pool-at-2
offset_bounds-pool-at-2 c = omega (arith, row (goal.at.offset_bounds-pool-at-2 c).In-Behind)

pub bounds-pool-at-2 : goal.bounds-pool-at-2
bounds-pool-at-2 c = omega (arith, row (goal.at.bounds-pool-at-2 c).In-Behind)

pub bounds-pool-1 : goal.bounds-pool-1
bounds-pool-1 c = simp length-set (omega (arith, row (goal.at.bounds-pool-1 c).In-Behind))

pub with_link-requires-2 : goal.with_link-requires-2
with_link-requires-2 c =
    omega (
      arith,
      linkable_lt
          (pool_rows c.args.pool.now),
      c.requires,
      c.linked_rows-rows.ensures,
    )

pub bounds-pool-1-2 : goal.bounds-pool-1-2
bounds-pool-1-2 c = simp length-set (omega (arith, row (goal.at.bounds-pool-1-2 c).In-Behind))

pub returns : goal.returns
returns c =
    linked-left c.args.pool.now c.args.va c.args.i c.path-end.result c.path-end.ensures _ _
    c.in-Behind.is _
    (links-set c.args.pool.now c.args.i _ _ _ _ _ c.with_link.ensures
    c.linked_rows-rows.ensures
    c.with_link-2.ensures)
