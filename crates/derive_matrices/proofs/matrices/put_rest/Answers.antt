-- One row more.
use lib.ListN.{length-map}
use Rattle.format.specs.Rows.{bone_of}
use Rattle.derive_matrices.proofs.MatrixWords.{length-inverse_of, inverse-walked, walk_before}
use Rattle.derive_matrices.proofs.Placing.{continues_more}
use Rattle.derive_matrices.proofs.matrices.put_rest.Goals as goal

pub loop-p-preserved : goal.loop-p-preserved
loop-p-preserved g c =
    continues_more _ (length-inverse_of _) c.loop-p-test.true c.requires.2 c.loop-p.invariant
    (inverse-walked _ _ _ _ _ _ (length-map c.args.bones.now bone_of) c.joint_in-own.ensures.answer
    (walk_before _ _ _ _ c.before-in-loop-p.ensures.answer c.before-in-loop-p.ensures.parent))
    c.put_inverse.ensures.rows
