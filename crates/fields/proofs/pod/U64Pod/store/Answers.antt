-- The number's bytes are those of `Field`. Assumes nothing.
use Rattle.fields.proofs.Bytes.{store_lem}
use Rattle.fields.proofs.pod.U64Pod.store.Goals as goal

pub returns : goal.returns
returns c = store_lem 8 c.args.self c.to_le_bytes.ensures c.copy_from_slice.ensures.after
