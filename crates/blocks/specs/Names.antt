-- Our places as the definitions have them (docs/FORMAT.md, "Finding bytes"). Definitions only.
use Rattle.format.specs.Section as Section
use Rattle.format.specs.declared.Place.{Place}

abbrev pub meant_place : Place → Section.Place
meant_place p = record { address = p.address; size = p.size }
