-- `search::named::first_named` meets its contract: a loop over the bones in order. Assumes nothing.
use Rattle.blocks.specs.Places.{section}
use Rattle.search.proofs.Going.{Going}
use Rattle.search.proofs.named.first_named.Given as goal

abbrev pub invariant-loop-i : goal.invariant-loop-i
invariant-loop-i l = Going (section l.sys l.gfx) l.key l.bones l.n l.i
