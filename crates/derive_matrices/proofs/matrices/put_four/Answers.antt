-- Four rows more, each of its bone's own walk.
use lib.ListN.{length-map}
use Rattle.format.specs.Rows.{bone_of}
use Rattle.derive_matrices.proofs.MatrixWords.{length-inverse_of, inverse-walked}
use Rattle.derive_matrices.proofs.Placing.{continues_four}
use Rattle.derive_matrices.proofs.matrices.put_four.Goals as goal

pub returns : goal.returns
returns c =
    record {
      rows =
          let l = length-map c.args.bones.now bone_of in
          continues_four _ (length-inverse_of _) c.requires.1 c.requires.2
          (inverse-walked _ _ _ _ _ _ l c.joint_in-a.ensures.answer c.side_by_side-f.ensures.answer.first)
          c.put_inverse.ensures.rows
          (inverse-walked _ _ _ _ _ _ l c.joint_in-b.ensures.answer c.side_by_side-f.ensures.answer.second)
          c.put_inverse-2.ensures.rows
          (inverse-walked _ _ _ _ _ _ l c.joint_in-c.ensures.answer c.side_by_side-f.ensures.answer.third)
          c.put_inverse-3.ensures.rows
          (inverse-walked _ _ _ _ _ _ l c.joint_in-d.ensures.answer c.side_by_side-f.ensures.answer.fourth)
          c.put_inverse-4.ensures.rows;
    }
