-- `joints::words::load` meets its contract: the run is all of the array. Assumes nothing.
use Rattle.joints.proofs.Slots.{loaded_all}
use Rattle.joints.proofs.words.load.Goals as goal

pub returns : goal.returns
returns g c = loaded_all g.row.N c.args.bytes.now c.requires c.load.ensures.table
