-- The loop's invariant: the first children of the bones below b stand.
use Rattle.derive_children.specs.Index.{IndexTable}
use Rattle.derive_children.specs.Pile.{Kids}
use Rattle.derive_children.specs.Indexing.{indices_of}
use Rattle.derive_children.proofs.index.first_children.Given as goal

abbrev pub invariant-loop-b : goal.invariant-loop-b
invariant-loop-b l =
    record { index : IndexTable l.bones.parents.now l.t 0; kids : Kids (indices_of l.bones.rows.now) l.bones.parents.now l.t l.b }
