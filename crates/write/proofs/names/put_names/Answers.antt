-- `write::names::put_names` meets its contract. Assumes nothing.
use mathlib.Core.Path.{refl}
use Rattle.write.proofs.Naming.{naming-room, naming-more, naming-all}
use Rattle.write.proofs.names.put_names.Goals as goal

pub put_name-to-requires : goal.put_name-to-requires
put_name-to-requires c = naming-room c.requires c.loop-row.invariant c.loop-row-test.true refl

pub loop-row-preserved : goal.loop-row-preserved
loop-row-preserved c = naming-more c.requires c.loop-row.invariant c.loop-row-test.true refl c.put_name-to.ensures.end c.put_name-to.ensures.bytes

pub returns : goal.returns
returns c = record { bytes = naming-all c.requires c.loop-row.invariant c.loop-row-test.false }
