-- `write::skeleton::put_skeleton` meets its contract. Assumes nothing.
use Rattle.write.proofs.Items.{stored-skeleton}
use Rattle.write.proofs.skeleton.put_skeleton.Goals as goal

pub returns : goal.returns
returns c =
    record {
      bytes =
          stored-skeleton c.args.d.now _ _ c.args.n c.args.c c.args.k c.requires.0 c.skeleton_words.ensures.answer
          c.put_run.ensures.bytes;
    }
