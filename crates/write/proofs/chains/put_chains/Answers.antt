-- `write::chains::put_chains` meets its contract. Assumes nothing.
use native.Mathlib.Omega.{arith}
use Rattle.write.proofs.Linked.{pointer-room, chain-room, buckets-more, buckets-all}
use Rattle.write.proofs.chains.put_chains.Goals as goal

pub put_pointer-requires : goal.put_pointer-requires
put_pointer-requires c = pointer-room _ _ _ _ c.requires c.loop-b.invariant c.loop-b-test.true

pub put_chain-end-requires : goal.put_chain-end-requires
put_chain-end-requires c =
    chain-room _ _ _ _ c.requires c.loop-b.invariant c.loop-b-test.true c.put_pointer.new.d c.put_pointer.auto.d

pub loop-b-preserved : goal.loop-b-preserved
loop-b-preserved c =
    buckets-more _ _ _ _ c.requires c.loop-b.invariant c.loop-b-test.true c.put_pointer.ensures.bytes
    c.put_chain-end.ensures.end c.put_chain-end.ensures.bytes

pub put_zeros-requires : goal.put_zeros-requires
put_zeros-requires c = omega (arith, c.requires.before, c.requires.room, c.loop-b.invariant.same, c.fill.ensures.answer)

pub returns : goal.returns
returns c = record {
  bytes =
      buckets-all _ _ _ _ c.requires c.loop-b.invariant c.loop-b-test.false c.fill.ensures.answer c.put_zeros.ensures.bytes;
}
