-- `write::filling::put_list` meets its contract. Assumes nothing.
use Rattle.format.proofs.Fields.{length-word_bytes}
use Rattle.write.proofs.Runs.{padded_by}
use Rattle.write.proofs.filling.put_list.Goals as goal

pub returns : goal.returns
returns c =
    record {
      bytes =
          padded_by c.args.d.now c.args.at _ (length-word_bytes 2 c.args.h.now) c.fill.ensures.answer c.put_run.ensures.bytes
          c.put_zeros.ensures.bytes;
    }
