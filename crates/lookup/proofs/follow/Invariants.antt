-- `lookup::follow` meets its contract: the walk from the address reached, with the entries left, finds what the whole walk does.
-- Assumes nothing.
use mathlib.Core.Path.{◌≡◌}
use Prim.Native.Nat.{◌-◌}
use Rattle.format.specs.Lookup as Definitions
use Rattle.blocks.specs.Places.{section_of}
use Rattle.lookup.proofs.follow.Given as goal

abbrev pub invariant-loop : goal.invariant-loop
invariant-loop l =
    Definitions.follow (section_of l.section) l.tag (l.n - l.counter) l.at ≡ Definitions.follow (section_of l.section) l.tag l.n l.va
