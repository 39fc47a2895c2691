-- `joints::rows::store` meets its contract: `Laid` holds at each turn. Assumes nothing.
use borrow.Author.Rules.{rules}
use mathlib.Core.Path.{◌≡◌, ◌∙◌}
use lib.ListN.{length}
use native.Mathlib.Omega.{arith}
use Rattle.joints.proofs.Pieces.{laid_none, laid-room, laid-next, laid_length, sets_mid, laid_all, word_bytes-made}
use Rattle.joints.proofs.rows.store.Goals as goal

pub loop-row-init : goal.loop-row-init
loop-row-init g c = laid_none _ _ _ _ c.requires

pub overflow_add-at : goal.overflow_add-at
overflow_add-at g c = let r = laid-room c.loop-row.invariant c.loop-row-test.true in search rules

pub slice_bounds-copy_from_slice-end : goal.slice_bounds-copy_from_slice-end
slice_bounds-copy_from_slice-end g c = let r = laid-room c.loop-row.invariant c.loop-row-test.true in omega (arith, laid_length c.loop-row.invariant c.loop-row-test.true)

pub loop-row-preserved : goal.loop-row-preserved
loop-row-preserved g c =
    let n : length c.to_record.result ≡ g.row.BYTES = search rules in
    let r = laid-room c.loop-row.invariant c.loop-row-test.true in
    let l = laid_length c.loop-row.invariant c.loop-row-test.true in
    laid-next c.loop-row.invariant c.row-item.result c.loop-row-test.true c.row-item.is c.to_record.ensures n
    (sets_mid c.loop-row.records c.to_record.result c.loop-row.at g.row.BYTES n (omega arith) c.copy_from_slice.ensures.after)

pub returns : goal.returns
returns g c = laid_all c.loop-row.invariant c.loop-row-test.false ∙ word_bytes-made _ _
