-- Each turn takes a layer.
use native.Mathlib.Omega.{arith}
use Rattle.derive_children.proofs.Layers.{running_starts, running_asks, running_turns, running_full, running_ends}
use Rattle.derive_children.proofs.pile.put_layers.Goals as goal

pub loop-layer-init : goal.loop-layer-init
loop-layer-init c = running_starts _ _ _ _ _ c.requires.0 c.requires.1 c.requires.3

pub returns-then-top-eq0 : goal.returns-then-top-eq0
returns-then-top-eq0 c =
    record { answer = running_ends _ _ _ _ _ _ _ _ _ _ c.loop-layer.invariant c.requires.2 (omega arith) }

pub layer-top-requires : goal.layer-top-requires
layer-top-requires c =
    let h = running_asks _ _ _ _ _ _ _ _ _ _ c.loop-layer.invariant c.requires.2 (omega arith) in
    (c.loop-layer.invariant.pile, omega arith, h.0, h.1)

pub overflow_add-at : goal.overflow_add-at
overflow_add-at c = omega (arith, c.loop-layer.invariant.times, c.requires.2, c.well_formed)

pub loop-layer-preserved : goal.loop-layer-preserved
loop-layer-preserved c =
    running_turns _ _ _ _ _ _ _ _ _ _ c.loop-layer.invariant c.requires.2 (omega arith) (omega arith) _ _ _
    c.layer-top.auto.t c.layer-top.auto.out c.layer-top.ensures.answer

pub returns : goal.returns
returns c =
    record { answer = running_full _ _ _ _ _ _ _ _ _ _ c.loop-layer.invariant c.requires.2 (omega arith) }
