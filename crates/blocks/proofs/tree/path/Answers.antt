-- `blocks::tree::path` meets its contract: the rows that the loop has followed are those of the path. Assumes nothing.
use borrow.Author.Tests.{leb-true}
use native.Mathlib.Omega.{arith}
use mathlib.Core.Path.{◌∙◌}
use Rattle.blocks.proofs.Paths.{below-is, below_none}
use Rattle.blocks.proofs.Descending.{along-none, along-found, along-more, along-left}
use Rattle.blocks.proofs.tree.path.Goals as goal

pub loop-next-init : goal.loop-next-init
loop-next-init c =
    along-none c.args.pool.now c.args.va _ _ _ c.requires
    c.turned-bits.ensures c.linked_rows-above.ensures c.link_in-next.ensures

pub overflow_mul-at : goal.overflow_mul-at
overflow_mul-at c = omega (arith, leb-true)

pub offset_bounds-pool-at : goal.offset_bounds-pool-at
offset_bounds-pool-at c = omega (arith, leb-true)

pub bounds-pool-at : goal.bounds-pool-at
bounds-pool-at c = omega (arith, leb-true)

pub returns-then-pool-at : goal.returns-then-pool-at
returns-then-pool-at c =
    record {
      end =
          along-found c.args.pool.now c.args.va c.loop-next.bits _ c.loop-next.at c.loop-next.above
          c.loop-next.next
          c.loop-next.invariant c.loop-next-test.true c.if-next-above.true
          c.if-pool-at.true;
    }

pub overflow_mul-at-in-loop-next : goal.overflow_mul-at-in-loop-next
overflow_mul-at-in-loop-next c = omega (arith, leb-true)

pub overflow_add-at : goal.overflow_add-at
overflow_add-at c = omega (arith, leb-true)

pub offset_bounds-pool-at-in-loop-next : goal.offset_bounds-pool-at-in-loop-next
offset_bounds-pool-at-in-loop-next c = omega (arith, leb-true)

pub bounds-pool-at-in-loop-next : goal.bounds-pool-at-in-loop-next
bounds-pool-at-in-loop-next c = omega (arith, leb-true)

pub loop-next-smaller : goal.loop-next-smaller
loop-next-smaller c = omega (arith, leb-true)

pub loop-next-preserved : goal.loop-next-preserved
loop-next-preserved c =
    along-more c.args.pool.now c.args.va c.loop-next.bits _ c.loop-next.at c.loop-next.above c.loop-next.next
    c.loop-next.invariant c.loop-next-test.true
    c.if-next-above.true c.if-pool-at.false _ c.side_of-side.ensures _ c.link_in-next-in-loop-next.ensures

pub returns-else-next-above : goal.returns-else-next-above
returns-else-next-above c =
    record {
      end =
          along-left c.args.pool.now c.args.va c.loop-next.bits _ c.loop-next.at c.loop-next.above c.loop-next.next
          c.loop-next.invariant (below_none c.loop-next.above c.loop-next.next c.if-next-above.false);
    }

pub returns-after-loop-next : goal.returns-after-loop-next
returns-after-loop-next c =
    record {
      end =
          along-left c.args.pool.now c.args.va c.loop-next.bits _ c.loop-next.at c.loop-next.above c.loop-next.next
          c.loop-next.invariant (below-is c.loop-next.above c.loop-next.next (omega arith) ∙ omega arith);
    }
