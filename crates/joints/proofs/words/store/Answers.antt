-- `joints::words::store` meets its contract: the run is all of the array. Assumes nothing.
use Rattle.joints.proofs.Slots.{stored_all}
use Rattle.joints.proofs.words.store.Goals as goal

pub returns : goal.returns
returns g c = stored_all g.row.N c.args.words.now c.requires c.put.ensures.bytes
