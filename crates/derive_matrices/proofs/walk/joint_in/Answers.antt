-- The words of the row stand for what the walk takes.
use Rattle.derive_matrices.proofs.Walking.{joint_made}
use Rattle.derive_matrices.proofs.walk.joint_in.Goals as goal

pub returns : goal.returns
returns g c =
    record {
      answer =
          joint_made c.args.row.now c.float_in.ensures.answer c.float_in-2.ensures.answer c.float_in-3.ensures.answer
          c.float_in-4.ensures.answer c.float_in-5.ensures.answer c.float_in-6.ensures.answer c.float_in-7.ensures.answer;
    }
