-- `write::words::put_at_least` meets its contract. Assumes nothing.
use native.Mathlib.Omega.{arith}
use lib.Seq.{length-take-le}
use Rattle.write.proofs.Runs.{more-stored}
use Rattle.write.proofs.words.put_at_least.Goals as goal

pub put_chunk-requires : goal.put_chunk-requires
put_chunk-requires c = (length-take-le 32 c.args.s.now c.if-s-ge-CHUNK.true, omega arith)

pub returns-then-d-at-ge-CHUNK : goal.returns-then-d-at-ge-CHUNK
returns-then-d-at-ge-CHUNK c = record {
  bytes = more-stored _ _ _ _ _ c.requires.0 32 c.if-k-le-CHUNK.true c.if-s-ge-CHUNK.true (omega arith) c.put_chunk.ensures.bytes;
}
