-- Demand 1 of the calls: every answer that meets its call's contract is a result, none, or a refusal of the call's list. Each answer is
-- taken as the format has it (`outcome`, …). `proofs/Refusals.antt` proves it. Definitions only.
use Rattle.format.specs.Refusal as refusal
use Rattle.std.specs.Prelude.{Result, Option}
use Rattle.format.specs.declared.Refusal.{Refusal}
use Rattle.read.specs.declared.Skeleton.{Skeleton}
use Rattle.std.specs.Prelude.{◌≡◌, ℕ, List, length}
use Rattle.format.specs.Section.{Section}
use Rattle.format.specs.Bone.{Words4}
use Rattle.format.specs.Tables.{Room, no_rows}
use Rattle.format.specs.Deriving.{DeriveRoom}
use Rattle.format.specs.Read.{read_skeleton}
use Rattle.format.specs.Search.{search}
use Rattle.format.specs.Lookup.{lookup}
use Rattle.format.specs.Joints.{rotation_row, rotation_written, translation_row, translation_written}
use Rattle.format.specs.CallRefusals.{deriving_refusals, writing_refusals, reading_refusals, check_refusals, lookup_refusals}
use Rattle.format.specs.CallRefusals.{joints_read_refusals, joints_written_refusals, rotation_written_refusals}
use Rattle.format.specs.CallRefusals.{translation_written_refusals, RefusesOnly}
use Rattle.tables.specs.Outcome.{size_of}
use Rattle.tables.specs.Working.{Working}
use Rattle.derive_chains.specs.Tagging.{tags_result}
use Rattle.derive_children.specs.Indexing.{indices_result}
use Rattle.derive_matrices.specs.Transforming.{matrices_result}
use Rattle.read.specs.Lent as read
use Rattle.read.specs.Lent.{read_room}
use Rattle.read.specs.Reads.{Reads, meant_read}
use Rattle.verify.specs.Checks.{Checks}
use Rattle.write.specs.Outcome.{outcome, Writes}
use Rattle.joints.specs.Reading.{table_read, joints_if, whether}
use Rattle.joints.specs.declared.read.Joints.{Joints}
use Rattle.joints.specs.Written.{table_written}

pub record Refusals : Type 0 where
  -- the three deriving calls, by the lengths of what they are lent
  pub bone_tags :
      (n bones buckets entries : ℕ) (r : Result ℕ Refusal) → refusal.outcome r ≡ tags_result n bones buckets entries →
      RefusesOnly deriving_refusals (refusal.outcome r)
  pub indices :
      (n : ℕ) (bones : List ℕ) (parents children pending : ℕ) (r : Result ℕ Refusal) →
      refusal.outcome r ≡ indices_result n bones parents children pending → RefusesOnly deriving_refusals (refusal.outcome r)
  pub transformations :
      (n bones inverse local : ℕ) (r : Result (Unit {0}) Refusal) → refusal.outcome r ≡ matrices_result n bones inverse local →
      RefusesOnly deriving_refusals (refusal.outcome r)
  pub writing :
      (lent : Section) (room : DeriveRoom) (n : ℕ) (bones : List ℕ) (free : Words4) (out out' : List ℕ) (r : Result ℕ Refusal) →
      Writes (outcome lent room (length out) n bones free) r out out' → RefusesOnly writing_refusals (refusal.outcome r)
  pub reading :
      (sec : Section) (root : ℕ) (t₀ t : read.Lent) (r : Result (Option Skeleton) Refusal) → Reads (read_skeleton sec (read_room t₀) root no_rows) r t₀ t →
      RefusesOnly reading_refusals (meant_read r)
  pub searching :
      (sec : Section) (room : Room) (root key : ℕ) (r : Result (Option ℕ) Refusal) → refusal.outcome r ≡ search sec room root key →
      RefusesOnly reading_refusals (refusal.outcome r)
  pub checking :
      (sec : Section) (root : ℕ) (t₀ t : read.Lent) (x₀ x : Working) (r : Result (Option ℕ) Refusal) → Checks sec root r t₀ t x₀ x →
      RefusesOnly check_refusals (refusal.outcome r)
  pub looking_up :
      (sec : Section) (root tag : ℕ) (r : Result (Option ℕ) Refusal) → refusal.outcome r ≡ lookup sec root tag → RefusesOnly lookup_refusals (refusal.outcome r)
  pub joints_reading :
      (sys gfx : List ℕ) (root : ℕ) (rotation₀ translation₀ rotation translation : List ℕ) (r : Result (Option Joints) Refusal) →
      refusal.outcome_by (joints_if rotation translation) r ≡ table_read sys gfx root rotation₀ translation₀ →
      RefusesOnly joints_read_refusals (refusal.outcome_by (joints_if rotation translation) r)
  pub joints_writing :
      (size : ℕ) (rotation : List ℕ) (r : ℕ) (translation : List ℕ) (t : ℕ) (w : Result ℕ Refusal) →
      refusal.outcome w ≡ size_of (table_written size rotation r translation t) → RefusesOnly joints_written_refusals (refusal.outcome w)
  pub rotation_writing :
      (size : ℕ) (row : List ℕ) (w : Result (Unit {0}) Refusal) → refusal.outcome w ≡ whether (rotation_written size (rotation_row row)) →
      RefusesOnly rotation_written_refusals (refusal.outcome w)
  pub translation_writing :
      (size : ℕ) (row : List ℕ) (w : Result (Unit {0}) Refusal) →
      refusal.outcome w ≡ whether (translation_written size (translation_row row)) →
      RefusesOnly translation_written_refusals (refusal.outcome w)
