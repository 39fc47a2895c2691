-- `write::names::no_zero_near` meets its contract. Assumes nothing.
use Rattle.write.proofs.Naming.{chunk_mask, near-more, near-all}
use Rattle.std.proofs.Common.{◌≡◌, rules}
use Rattle.write.proofs.names.no_zero_near.Goals as goal

pub loop-i-preserved : goal.loop-i-preserved
loop-i-preserved c =
    let m : c.as_flattened-mask.result.now ≡ chunk_mask = search rules in
    near-more _ _ c.requires.0 c.requires.1 m c.loop-i.invariant c.loop-i-test.true

pub returns : goal.returns
returns c = record { answer = near-all _ _ c.requires.0 c.requires.1 c.loop-i.invariant c.loop-i-test.false }
