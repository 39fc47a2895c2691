-- `blocks::tree::free_row` meets its contract: the rows that the loop has passed are used. Assumes nothing.
use native.Mathlib.Omega.{arith}
use Prim.Native.Nat.{◌-◌}
use mathlib.Core.Path.{sym, ◌∙◌}
use Rattle.blocks.proofs.Scanning.{key-free, key-used}
use Rattle.blocks.proofs.Descending.{sought_none, sought_more, free-found, free-nowhere}
use Rattle.blocks.proofs.tree.free_row.Goals as goal

pub loop-i-init : goal.loop-i-init
loop-i-init c =
    sought_none c.args.pool.now _ _ _ c.linked_rows-rows.ensures c.link_in-taken.ensures c.saturating_sub-i.ensures

pub returns-then-kind_in-eq0 : goal.returns-then-kind_in-eq0
returns-then-kind_in-eq0 c =
    free-found c.args.pool.now _ c.loop-i.i c.loop-i.invariant c.loop-i-test.true
    (key-free c.args.pool.now _ (sym c.kind_in.ensures ∙ c.if-kind_in-eq0.true))

pub loop-i-preserved : goal.loop-i-preserved
loop-i-preserved c =
    sought_more c.args.pool.now _ c.loop-i.i c.loop-i.invariant c.loop-i-test.true
    (let k = key-used c.args.pool.now (c.loop-i.i - 1) (λ e. c.if-kind_in-eq0.false (c.kind_in.ensures ∙ e)) in omega (arith, k))

pub returns : goal.returns
returns c =
    free-nowhere c.args.pool.now _ c.loop-i.i c.loop-i.invariant (omega arith)
