-- `write::names::put_ended` meets its contract. Assumes nothing.
use mathlib.Core.Path.{refl}
use Rattle.write.proofs.Runs.{ended_stored}
use Rattle.write.proofs.names.put_ended.Goals as goal

pub returns : goal.returns
returns c = record {
  end = refl;
  bytes = ended_stored _ _ _ _ _ c.requires.0 c.requires.1 c.put_at_least.ensures.bytes;
}
