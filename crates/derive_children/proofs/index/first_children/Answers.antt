-- Each turn stores one bone's first child more.
use Prim.Native.Nat.{◌<◌}
use lib.ListN.{length}
use native.Mathlib.Omega.{arith}
use Rattle.derive_children.proofs.Columns.{index_of_row}
use Rattle.derive_children.proofs.FirstChildren.{indexed-kid, kids-more}
use Rattle.derive_children.proofs.index.first_children.Goals as goal

pub loop-b-preserved : goal.loop-b-preserved
loop-b-preserved c =
    let e = index_of_row c.args.bones.rows.now _ c.loop-b-test.true c.index_at.ensures.answer in
    let h : c.loop-b.b < length c.args.bones.parents.now = omega (arith, c.loop-b-test.true, c.args.bones.each) in
    record {
      index = indexed-kid _ _ _ _ h c.loop-b.invariant.index;
      kids =
          kids-more _ _ _ _ _ (omega (arith, c.loop-b.invariant.index.room, h)) (rw (← e) c.first_child.ensures.answer)
          c.loop-b.invariant.kids;
    }
