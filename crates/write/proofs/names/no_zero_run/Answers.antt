-- `write::names::no_zero_run` meets its contract. Assumes nothing.
use Rattle.write.proofs.Naming.{passed-more, passed-all}
use Rattle.write.proofs.names.no_zero_run.Goals as goal

pub loop-byte-preserved : goal.loop-byte-preserved
loop-byte-preserved c = passed-more _ c.loop-byte.invariant c.loop-byte-test.true

pub returns : goal.returns
returns c = record { answer = passed-all _ c.loop-byte.invariant c.loop-byte-test.false }
