-- The bytes' number is that of `Field`. Assumes nothing.
use Rattle.fields.proofs.Bytes.{load_lem}
use Rattle.fields.proofs.pod.U32Pod.load.Goals as goal

pub returns : goal.returns
returns c = load_lem 3 c.args.s.now c.requires c.from_le_bytes.ensures
