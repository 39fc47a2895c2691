-- The names that the search of a table goes through (docs/FORMAT.md, "Joints and names"). Definitions only.
use Rattle.std.specs.Prelude.{ℕ, List, map}
use Rattle.std.specs.Prelude.{Option}
use Rattle.format.specs.Section.{Section, Place, name_bytes}
use Rattle.format.specs.Bone.{Bone, map_name}

-- the stored name bytes of a bone, or of each of some bones
abbrev pub stored_name : Section → Bone Place → Option (List ℕ)
stored_name sec b = map_name (name_bytes sec) b.name

abbrev pub stored_names : Section → List (Bone Place) → List (Option (List ℕ))
stored_names sec bones = map (stored_name sec) bones
