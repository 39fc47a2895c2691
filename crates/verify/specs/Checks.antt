-- What the check promises: its answer is the format's, and so are the tables that it leaves (docs/FORMAT.md, "Lookup and check", "Who can
-- cause a refusal"). Definitions only.
use Rattle.std.specs.Prelude.{Result}
use Rattle.format.specs.declared.Refusal.{Refusal}
use Rattle.format.specs.Refusal.{outcome}
use Rattle.std.specs.Prelude.{ℕ, ◌≡◌}
use Rattle.std.specs.Prelude.{Option, None, Some}
use Rattle.format.specs.Result.{Res, refused, done}
use Rattle.format.specs.Section.{Section}
use Rattle.format.specs.Tables.{SkeletonRow, no_rows}
use Rattle.format.specs.Read.{Step, read_skeleton}
use Rattle.format.specs.Check.{check}
use Rattle.read.specs.Lent.{Lent, read_room, cleared_all}
use Rattle.read.specs.Reads.{read_leaves}
use Rattle.tables.specs.Working.{Working, room_in, Zeroed}

-- what the check leaves in the reading's tables that were t₀: after an acceptance what the reading g leaves, else zeros
abbrev pub leaves_by : Res (Option ℕ) → Step (Option SkeletonRow) → Lent → Lent
leaves_by (refused c) g t₀ = cleared_all t₀
leaves_by (done None) g t₀ = cleared_all t₀
leaves_by (done (Some n)) g t₀ = read_leaves g t₀

-- the check with the answer r, lent the reading's tables t₀ and the deriving's x₀: the latter are working tables, zero after every call
pub record Checks (sec : Section) (root : ℕ) (r : Result (Option ℕ) Refusal) (t₀ t : Lent) (x₀ x : Working) : Type 0 where
  pub answer : outcome r ≡ check sec (read_room t₀) (room_in x₀) root
  pub tables : t ≡ leaves_by (outcome r) (read_skeleton sec (read_room t₀) root no_rows) t₀
  pub working : Zeroed x₀ x
