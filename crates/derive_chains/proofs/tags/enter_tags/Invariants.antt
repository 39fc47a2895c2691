-- The loop's invariant: the positions below p are entered.
use mathlib.Core.List.{map}
use lib.ListN.{length}
use Rattle.format.specs.Deriving.{tags}
use Rattle.format.specs.Rows.{bone_of}
use Rattle.derive_chains.proofs.Tagging.{Entering}
use Rattle.derive_chains.proofs.tags.enter_tags.Given as goal

abbrev pub invariant-loop-p : goal.invariant-loop-p
invariant-loop-p l =
    Entering (tags (map bone_of l.bones)) (length l.bones) l.p l.initial.buckets l.initial.entries l.buckets l.entries
