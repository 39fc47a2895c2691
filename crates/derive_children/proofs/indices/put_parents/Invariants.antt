-- The loop's invariant: the parents below p stand.
use mathlib.Core.Path.{◌≡◌}
use mathlib.Core.List.{map}
use lib.ListN.{length, take}
use Rattle.format.specs.Deriving.{parents}
use Rattle.format.specs.Rows.{bone_of, laid}
use Rattle.derive_children.proofs.indices.put_parents.Given as goal

abbrev pub invariant-loop-p : goal.invariant-loop-p
invariant-loop-p l = l.out ≡ laid (parents (map bone_of (take l.p l.rows))) (length l.initial.out)
