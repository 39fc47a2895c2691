-- What reading a skeleton promises: its answer is the format's, and so are the tables that it leaves (docs/FORMAT.md, "Reading and
-- writing a skeleton", "Who can cause a refusal"). Definitions only.
use Rattle.format.specs.declared.Refusal.{Refusal}
use Rattle.std.specs.Prelude.{Err, Ok, Result}
use Rattle.std.specs.Prelude.{ℕ, ◌≡◌, length}
use Rattle.std.specs.Prelude.{Option, None, Some}
use Rattle.format.specs.Result.{Res, refused, done}
use Rattle.format.specs.Refusal.{number}
use Rattle.format.specs.Section.{Section}
use Rattle.format.specs.Rows.{cleared, table_words}
use Rattle.format.specs.Tables.{SkeletonRow, Tables, no_rows}
use Rattle.format.specs.Read.{Step, read_new_skeleton}
use Rattle.format.specs.Words.{meant_words4}
use Rattle.read.specs.Parts.{meant_part}
use Rattle.read.specs.Lent.{Lent, read_room, cleared_all, laid_all}
use Rattle.read.specs.declared.Skeleton.{Skeleton}

abbrev pub meant_skeleton : Skeleton → SkeletonRow
meant_skeleton s =
    record {
      kind = s.kind;
      free = meant_words4 s.free;
      bucket_count = s.bucket_count;
      bone_count = s.bone_count;
      child_count = s.child_count;
      buckets = meant_part s.buckets;
      bones = meant_part s.bones;
      inverse = meant_part s.inverse;
      local = meant_part s.local;
      parents = meant_part s.parents;
      children = meant_part s.children;
    }

-- ---- filling tables that are all zero

pub record FilledLeft (g : Step SkeletonRow) (s : Skeleton) (t₀ t : Lent) : Type 0 where
  -- the format's tables after the reading
  pub u : Tables
  pub is : g ≡ done (meant_skeleton s, u)
  pub tables : t ≡ laid_all (table_words u) t.pool t₀

abbrev pub FilledBy : Step SkeletonRow → Lent → Lent → (Result Skeleton Refusal) → Type 0
FilledBy g t₀ t (Ok s) = FilledLeft g s t₀ t
FilledBy g t₀ t (Err x) = g ≡ refused (number x)

pub record Fills (sec : Section) (root : ℕ) (r : Result Skeleton Refusal) (t₀ t : Lent) : Type 0 where
  pub fills : t₀ ≡ cleared_all t₀ → FilledBy (read_new_skeleton sec (read_room t₀) root no_rows) t₀ t r

-- ---- the whole

-- our answer as the format has it
abbrev pub meant_read : (Result (Option Skeleton) Refusal) → Res (Option SkeletonRow)
meant_read (Ok None) = done None
meant_read (Ok (Some s)) = done (Some (meant_skeleton s))
meant_read (Err x) = refused (number x)

-- a reading's answer
abbrev pub answer_of : Step (Option SkeletonRow) → Res (Option SkeletonRow)
answer_of (refused c) = refused c
answer_of (done (s, u)) = done s

-- what a reading leaves in tables that were t₀: every table zero where nothing was read, and the pool always
abbrev pub read_leaves : Step (Option SkeletonRow) → Lent → Lent
read_leaves (refused c) t₀ = cleared_all t₀
read_leaves (done (None, u)) t₀ = cleared_all t₀
read_leaves (done (Some s, u)) t₀ = laid_all (table_words u) (cleared (length t₀.pool)) t₀

-- the reading g, with the answer r, of tables that were t₀
pub record Reads (g : Step (Option SkeletonRow)) (r : Result (Option Skeleton) Refusal) (t₀ t : Lent) : Type 0 where
  pub answer : meant_read r ≡ answer_of g
  pub tables : t ≡ read_leaves g t₀
