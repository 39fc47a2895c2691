-- What a search's answer says (docs/FORMAT.md, "Joints and names"). Definitions only.
use Rattle.std.specs.Prelude.{ℕ, List}
use Rattle.std.specs.Prelude.{Option, None, Some, Result, Ok, Err}
use Rattle.format.specs.Result.{Res, refused, done}
use Rattle.format.specs.Refusal.{number}
use Rattle.format.specs.Section.{Section}
use Rattle.format.specs.Rows.{bones_of}
use Rattle.format.specs.Search.{first_key}
use Rattle.format.specs.declared.Refusal.{Refusal}
use Rattle.search.specs.First.{stored_names}
use Rattle.read.specs.Parts.{part_rows}
use Rattle.read.specs.declared.Skeleton.{Skeleton}

-- the first of the bones that a reading left in a table
abbrev pub first_in : Section → ℕ → List ℕ → Result (Option Skeleton) Refusal → Res (Option ℕ)
first_in sec key t (Ok None) = done None
first_in sec key t (Ok (Some s)) = done (first_key key 0 (stored_names sec (bones_of (part_rows s.bones) t)))
first_in sec key t (Err x) = refused (number x)
