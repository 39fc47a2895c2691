-- `write::chains::put_pointer` meets its contract. Assumes nothing.
use Rattle.write.proofs.Linked.{stored-pointer}
use Rattle.write.proofs.chains.put_pointer.Goals as goal

pub returns : goal.returns
returns c =
    record {
      bytes =
          stored-pointer c.args.d.now c.args.at c.args.head c.args.link c.requires.1
          c.pointer.ensures.answer c.put_run.ensures.bytes;
    }
