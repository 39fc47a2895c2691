-- The loop's invariant: the roots from r on are on the pile.
use Rattle.derive_children.specs.Indexing.{indices_of}
use Rattle.derive_children.proofs.Pushing.{Rooting}
use Rattle.derive_children.proofs.pile.push_roots.Given as goal

abbrev pub invariant-loop-r : goal.invariant-loop-r
invariant-loop-r l = Rooting (indices_of l.bones.rows.now) l.bones.parents.now l.initial.t l.t l.top l.r
