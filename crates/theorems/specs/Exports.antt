-- Demands 1 and 3 of the exports: what their statuses and numbers say to C and Rust. `sec` is the system and the graphics bytes that the
-- export is lent, t₀ and x₀ are the lent tables before it, t and x the same after it. `proofs/Exports.antt` proves them. Definitions only.
use Rattle.std.specs.Prelude.{◌≡◌, ◌↔◌, ◌⊎◌, ℕ, ◌≤◌, List, length, get_or}
use Rattle.format.specs.Result.{status}
use Rattle.format.specs.Section.{Section}
use Rattle.format.specs.Bone.{words4}
use Rattle.format.specs.Deriving.{tags}
use Rattle.format.specs.Tables.{no_rows}
use Rattle.format.specs.Read.{read_skeleton}
use Rattle.format.specs.Rows.{bones_of}
use Rattle.format.specs.Layout.{base}
use Rattle.format.specs.Lookup.{lookup}
use Rattle.format.specs.Search.{search}
use Rattle.format.specs.Check.{check}
use Rattle.format.specs.Joints.{rotation_row, rotation_written, translation_row, translation_written}
use Rattle.format.specs.CallRefusals.{deriving_refusals, writing_refusals, reading_refusals, check_refusals, lookup_refusals}
use Rattle.format.specs.CallRefusals.{joints_read_refusals, joints_written_refusals, rotation_written_refusals}
use Rattle.format.specs.CallRefusals.{translation_written_refusals}
use Rattle.promises.specs.Meaning.{Sized, Sound, IsGreatest, NoneBears, Fits4}
use Rattle.tables.specs.Front.{front_of}
use Rattle.tables.specs.Outcome.{size_of}
use Rattle.tables.specs.Working.{Working, room_in}
use Rattle.blocks.specs.Places.{section}
use Rattle.derive_chains.specs.Tagging.{tags_result}
use Rattle.derive_children.specs.Indexing.{indices_result}
use Rattle.derive_matrices.specs.Transforming.{matrices_result}
use Rattle.read.specs.Lent as read
use Rattle.read.specs.Lent.{read_room}
use Rattle.read.specs.Reads.{answer_of}
use Rattle.write.specs.Outcome.{outcome}
use Rattle.joints.specs.Reading.{table_read}
use Rattle.joints.specs.Written.{table_written}
use Rattle.read_laws.specs.Bytes.{Bytes8, SectionBytes}
use Rattle.rig_answers.specs.Answer.{read_status}
use Rattle.rig_answers.specs.Status.{sure, Tells}
use Rattle.rig_answers.specs.Told.{free_of, ReadTold, WriteTold, Told, SearchTold, CheckTold}
use Rattle.theorems.specs.Typed.{Words32}
use Rattle.theorems.specs.Theorems.{HoldsReading, SameBones}

-- ---- demand 1: 0 exactly for a result, 100 exactly for none, else the refusal's number, one of the call's list

pub record ExportStatuses : Type 0 where
  -- `rig_build_bone_tags`, `rig_build_indices`, `rig_build_transformations`
  pub bone_tags :
      (n bones buckets entries r : ℕ) → r ≡ status (tags_result n bones buckets entries) →
      Tells deriving_refusals (sure (tags_result n bones buckets entries)) r
  pub indices :
      (n : ℕ) (bones : List ℕ) (parents children pending r : ℕ) → r ≡ status (indices_result n bones parents children pending) →
      Tells deriving_refusals (sure (indices_result n bones parents children pending)) r
  pub transformations :
      (n bones inverse local r : ℕ) → r ≡ status (matrices_result n bones inverse local) →
      Tells deriving_refusals (sure (matrices_result n bones inverse local)) r
  -- `rig_write`
  pub writing :
      (lent : Section) (x : Working) (n : ℕ) (bones free : List ℕ) (r count : ℕ) (out out' : List ℕ) →
      let w = outcome lent (room_in x) (length out) n bones (free_of free) in
      WriteTold w r count out out' → Tells writing_refusals (sure w) r
  -- `rig_read`
  pub reading :
      (sec : Section) (root r : ℕ) (fields : List ℕ) (t₀ t : read.Lent) →
      let g = read_skeleton sec (read_room t₀) root no_rows in
      ReadTold g r fields t₀ t → Tells reading_refusals (answer_of g) r
  -- `rig_search`
  pub searching :
      (sec : Section) (root key r position : ℕ) (t₀ t : read.Lent) → SearchTold sec root key r position t₀ t →
      Tells reading_refusals (search sec (read_room t₀) root key) r
  -- `rig_check`
  pub checking :
      (sec : Section) (root r count : ℕ) (t₀ t : read.Lent) (x₀ x : Working) → CheckTold sec root r count t₀ t x₀ x →
      Tells check_refusals (check sec (read_room t₀) (room_in x₀) root) r
  -- `rig_lookup`
  pub looking_up :
      (sec : Section) (root tag r position : ℕ) → Told (lookup sec root tag) r position → Tells lookup_refusals (lookup sec root tag) r
  -- `rig_joints_read`
  pub joints_reading :
      (sys gfx : List ℕ) (root : ℕ) (rotation translation : List ℕ) (r : ℕ) →
      r ≡ read_status (table_read sys gfx root rotation translation) →
      Tells joints_read_refusals (table_read sys gfx root rotation translation) r
  -- `rig_joints_write`
  pub joints_writing :
      (size : ℕ) (rotation : List ℕ) (n : ℕ) (translation : List ℕ) (m r : ℕ) →
      r ≡ status (size_of (table_written size rotation n translation m)) →
      Tells joints_written_refusals (sure (table_written size rotation n translation m)) r
  -- `rig_rotation_limit_write`, `rig_translation_limit_write`
  pub rotation_writing :
      (size : ℕ) (row : List ℕ) (r : ℕ) → r ≡ status (rotation_written size (rotation_row row)) →
      Tells rotation_written_refusals (sure (rotation_written size (rotation_row row))) r
  pub translation_writing :
      (size : ℕ) (row : List ℕ) (r : ℕ) → r ≡ status (translation_written size (translation_row row)) →
      Tells translation_written_refusals (sure (translation_written size (translation_row row))) r

-- ---- demand 3

-- what `rig_lookup` gives is right: 0 and the greatest position bearing the tag, or 100 where no bone bears it
abbrev pub RightTold : List ℕ → ℕ → ℕ → ℕ → Type 0
RightTold ts tag r position = ((r ≡ 0) × IsGreatest ts tag position) ⊎ ((r ≡ 100) × NoneBears ts tag)

-- the section written, with any graphics bytes beside it, checked and read with tables that hold it: n bones, those of table a
pub record WrittenBackTold (lent : Section) (a : List ℕ) (n : ℕ) (free : List ℕ) (sec : Section) : Type 0 where
  pub accepted :
      (t₀ t : read.Lent) (x₀ x : Working) (r count : ℕ) → Sized sec base (read_room t₀) (room_in x₀) →
      CheckTold sec base r count t₀ t x₀ x → (r ≡ 0) × (count ≡ n) × SameBones n lent a sec t.bones
  -- `fields` tells at 11 how many bones were read, and at 1 to 4 the free words
  pub reads :
      (t₀ t : read.Lent) (r : ℕ) (fields : List ℕ) → HoldsReading sec base t₀ →
      ReadTold (read_skeleton sec (read_room t₀) base no_rows) r fields t₀ t →
      (r ≡ 0) × (get_or fields 11 0 ≡ n) × SameBones n lent a sec t.bones ×
      (words4 (get_or fields 1 0) (get_or fields 2 0) (get_or fields 3 0) (get_or fields 4 0) ≡ free_of free)

pub record Exports : Type 0 where
  pub statuses : ExportStatuses
  -- Exact: `rig_check`, lent the tables that docs/FORMAT.md sizes, gives 0 exactly when the section reads and its chains, parents, children
  -- and matrices equal those derived from the bones read
  pub exact :
      (sec : Section) (root r count : ℕ) (t₀ t : read.Lent) (x₀ x : Working) → CheckTold sec root r count t₀ t x₀ x →
      Sized sec root (read_room t₀) (room_in x₀) → (r ≡ 0) ↔ Sound sec root
  -- Found: where `rig_check` gives 0 and 2 bones or more, `rig_lookup` from the same root is right for every tag. The bones read are
  -- those in their table.
  pub found :
      (sec : Section) (root count : ℕ) (t₀ t : read.Lent) (x₀ x : Working) → SectionBytes sec → CheckTold sec root 0 count t₀ t x₀ x →
      2 ≤ count → (tag : ℕ) → tag ≤ 65535 → (r position : ℕ) → Told (lookup sec root tag) r position →
      RightTold (tags (bones_of count t.bones)) tag r position
  -- Back: what `rig_write` wrote where it gives 0
  pub back :
      (bones : List ℕ) (n : ℕ) (lent : Section) (free : List ℕ) (x : Working) (out out' : List ℕ) (size : ℕ) →
      Words32 bones → Fits4 (free_of free) → Bytes8 out' →
      WriteTold (outcome lent (room_in x) (length out) n bones (free_of free)) 0 size out out' →
      (graphics : List ℕ) → Bytes8 graphics → WrittenBackTold lent bones n free (section (front_of size out') graphics)
