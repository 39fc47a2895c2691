-- The loop's invariant: so many layers stand, and what the pile still gives follows.
use Rattle.derive_children.specs.Indexing.{indices_of}
use Rattle.derive_children.proofs.Layers.{Running}
use Rattle.derive_children.proofs.pile.put_layers.Given as goal

abbrev pub invariant-loop-layer : goal.invariant-loop-layer
invariant-loop-layer l =
    Running (indices_of l.bones.rows.now) l.bones.parents.now l.initial.t l.initial.out l.start l.t l.out l.top l.at l._layer
