-- Each turn pushes one root more, or passes a bone by.
use Rattle.derive_children.proofs.Pushing.{rooting_starts, rooting_turns, rooting_ends}
use Rattle.derive_children.proofs.pile.push_roots.Goals as goal

pub loop-r-init : goal.loop-r-init
loop-r-init c = rooting_starts _ _ _ c.requires

pub loop-r-preserved : goal.loop-r-preserved
loop-r-preserved c =
    rooting_turns _ _ _ _ _ _ c.loop-r.invariant _ _ _ c.loop-r-test.true c.if_root-w.ensures.answer c.push-top.auto.t
    c.push-top.ensures.answer

pub returns : goal.returns
returns c = record { answer = rooting_ends _ _ _ _ _ _ c.loop-r.invariant c.loop-r-test.false }
