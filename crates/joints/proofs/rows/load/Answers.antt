-- `joints::rows::load` meets its contract: `Laid` holds at each turn. Assumes nothing.
use borrow.Author.Rules.{rules}
use mathlib.Core.Path.{◌≡◌}
use lib.ListN.{length}
use native.Mathlib.Omega.{arith}
use Rattle.joints.proofs.Pieces.{laid_none, laid-room, laid_length, laid-next, laid_all}
use Rattle.joints.proofs.rows.load.Goals as goal

pub loop-record-init : goal.loop-record-init
loop-record-init g c = laid_none _ _ _ _ c.requires

pub overflow_add-at : goal.overflow_add-at
overflow_add-at g c = let r = laid-room c.loop-record.invariant c.loop-record-test.true in search rules

pub put-requires : goal.put-requires
put-requires g c =
    let r = laid-room c.loop-record.invariant c.loop-record-test.true in
    let l = laid_length c.loop-record.invariant c.loop-record-test.true in
    omega arith

pub loop-record-preserved : goal.loop-record-preserved
loop-record-preserved g c =
    let n : length c.from_record.result ≡ g.row.WORDS = search rules in
    laid-next c.loop-record.invariant c.record-item.result c.loop-record-test.true c.record-item.is c.from_record.ensures n
    c.put.ensures

pub returns : goal.returns
returns g c = laid_all c.loop-record.invariant c.loop-record-test.false
