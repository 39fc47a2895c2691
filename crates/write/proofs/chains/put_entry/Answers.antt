-- `write::chains::put_entry` meets its contract. Assumes nothing.
use Rattle.write.proofs.Linked.{stored-entry}
use Rattle.write.proofs.chains.put_entry.Goals as goal

pub returns : goal.returns
returns c =
    record {
      bytes =
          stored-entry c.args.d.now c.args.at c.args.tag c.args.position c.args.link c.requires.1
          c.pointer-next.ensures.answer c.put_run.ensures.bytes;
    }
