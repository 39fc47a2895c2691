-- What the exports say of a section that is read, written, looked up in, searched or checked, in numbers. Definitions only.
use Rattle.std.specs.Prelude.{ℕ, ◌≡◌, List, [], ◌∷◌, replicate, get_or}
use Rattle.std.specs.Prelude.{Option, None, Some}
use Rattle.format.specs.Result.{Res, refused, done, status}
use Rattle.format.specs.Bone.{Words4, words4}
use Rattle.format.specs.Layout.{Bytes}
use Rattle.format.specs.Section.{Section}
use Rattle.format.specs.Tables.{part_length, SkeletonRow, no_rows}
use Rattle.format.specs.Read.{Step, read_skeleton}
use Rattle.format.specs.Search.{search}
use Rattle.format.specs.Check.{check}
use Rattle.read.specs.Lent.{Lent, read_room}
use Rattle.read.specs.Reads as reading
use Rattle.write.specs.Outcome as writing
use Rattle.tables.specs.Outcome.{size_of}
use Rattle.tables.specs.Working.{Working, room_in, Zeroed}
use Rattle.verify.specs.Checks.{leaves_by}
use Rattle.rig_answers.specs.Answer.{counted, read_status, given, number_if, present}

-- ---- reading

-- the kind word, the four free words, the three stored counts, and of each part whether it stands and how long it is; zeros where
-- nothing is read
abbrev pub skeleton_fields : Res (Option SkeletonRow) → List ℕ
skeleton_fields (refused n) = replicate 20 0
skeleton_fields (done None) = replicate 20 0
skeleton_fields (done (Some s)) =
    s.kind ∷ s.free.x ∷ s.free.y ∷ s.free.z ∷ s.free.w ∷ s.bucket_count ∷ s.bone_count ∷ s.child_count ∷
    number_if (present s.buckets) ∷ part_length s.buckets ∷ number_if (present s.bones) ∷ part_length s.bones ∷
    number_if (present s.inverse) ∷ part_length s.inverse ∷ number_if (present s.local) ∷ part_length s.local ∷
    number_if (present s.parents) ∷ part_length s.parents ∷ number_if (present s.children) ∷ part_length s.children ∷ []

-- the status, the fields and the tables that the reading g leaves, where the tables were t₀
pub record ReadTold (g : Step (Option SkeletonRow)) (r : ℕ) (numbers : List ℕ) (t₀ t : Lent) : Type 0 where
  pub answer : r ≡ read_status (reading.answer_of g)
  pub fields : numbers ≡ skeleton_fields (reading.answer_of g)
  pub tables : t ≡ reading.read_leaves g t₀

-- ---- writing

-- the four free words of a list
abbrev pub free_of : List ℕ → Words4
free_of f = words4 (get_or f 0 0) (get_or f 1 0) (get_or f 2 0) (get_or f 3 0)

-- the status, the count of bytes and the buffer that the outcome w leaves, where the buffer was out
pub record WriteTold (w : Res Bytes) (r n : ℕ) (out out' : List ℕ) : Type 0 where
  pub answer : r ≡ status (size_of w)
  pub count : n ≡ counted (size_of w)
  pub buffer : out' ≡ writing.write_leaves w out

-- ---- lookup, search, check

-- the status and the position or count of the answer w
pub record Told (w : Res (Option ℕ)) (r n : ℕ) : Type 0 where
  pub answer : r ≡ read_status w
  pub number : n ≡ given w

-- the search for a key; it leaves the tables t₀ as its reading does
pub record SearchTold (sec : Section) (root key r n : ℕ) (t₀ t : Lent) : Type 0 where
  pub told : Told (search sec (read_room t₀) root key) r n
  pub tables : t ≡ reading.read_leaves (read_skeleton sec (read_room t₀) root no_rows) t₀

-- the check, lent the reading's tables t₀ and the deriving's x₀
pub record CheckTold (sec : Section) (root r n : ℕ) (t₀ t : Lent) (x₀ x : Working) : Type 0 where
  pub told : Told (check sec (read_room t₀) (room_in x₀) root) r n
  pub tables : t ≡ leaves_by (check sec (read_room t₀) (room_in x₀) root) (read_skeleton sec (read_room t₀) root no_rows) t₀
  pub working : Zeroed x₀ x
