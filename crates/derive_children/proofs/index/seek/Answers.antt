-- `derive_children::index::seek` meets its contract. The loop's invariant: the rest of the chain holds what the whole chain holds of v.
-- Assumes nothing.
use Rattle.derive_children.specs.Index.{link_at}
use Rattle.derive_children.proofs.Seeking.{link-word}
use Rattle.derive_children.proofs.Seeking.{seek-starts, seek-below, seek_less, seek_turns, seek_found, seek_misses}
use Rattle.derive_children.proofs.index.seek.Goals as goal

pub loop-at-init : goal.loop-at-init
loop-at-init c =
    let s = seek-starts c.args.parents.now (link_at c.args.parents.now c.args.t.now) c.args.v c.args.from c.requires.1 in
    (s, seek-below _ _ _ _ _ s)

pub returns-then-parents-j : goal.returns-then-parents-j
returns-then-parents-j c = record { answer = seek_found _ _ _ _ _ c.loop-at.invariant.0 c.loop-at-test.true c.if-parents-j.true }

pub loop-at-smaller : goal.loop-at-smaller
loop-at-smaller c =
    rw (link-word c.args.parents.now c.args.t.now c.loop-at.at c.loop-at-test.true)
    (seek_less _ _ _ _ _ c.loop-at.invariant.0 c.loop-at-test.true)

pub loop-at-preserved : goal.loop-at-preserved
loop-at-preserved c =
    let n = seek_turns _ _ _ _ _ c.loop-at.invariant.0 c.loop-at-test.true c.if-parents-j.false in
    rw (link-word c.args.parents.now c.args.t.now c.loop-at.at c.loop-at-test.true) (n, seek-below _ _ _ _ _ n)

pub returns : goal.returns
returns c = record { answer = seek_misses _ _ _ _ _ c.loop-at.invariant.0 c.loop-at-test.false }
