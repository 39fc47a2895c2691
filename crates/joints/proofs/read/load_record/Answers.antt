-- `joints::read::load_record` meets its contract: each field lies in the 52 bytes. Assumes nothing.
use Rattle.joints.proofs.Reading.{record_loaded}
use Rattle.joints.proofs.read.load_record.Goals as goal

pub returns : goal.returns
returns c =
    record_loaded c.args.bytes.now c.requires c.read.ensures.answer c.read-2.ensures.answer c.read-3.ensures.answer
    c.read-4.ensures.answer c.read-5.ensures.answer
