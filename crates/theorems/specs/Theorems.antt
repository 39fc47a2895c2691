-- Demand 3 of the calls: each statement is of every answer and every table that meets the contract of its call. `sec` is the system and
-- the graphics bytes that the call is lent, t₀ and x₀ are the lent tables before it, t and x the same after it.
-- `proofs/Theorems.antt` proves them from the definitions' demand 3 (`promises`) and the contracts. Definitions only.
use Rattle.std.specs.Prelude.{Result, Ok, Option, Some}
use Rattle.format.specs.Refusal as refusal
use Rattle.format.specs.declared.Refusal.{Refusal}
use Rattle.std.specs.Prelude.{◌≡◌, ◌↔◌, ℕ, ◌≤◌, List, length}
use Rattle.format.specs.Section.{Section}
use Rattle.format.specs.Deriving.{tags}
use Rattle.format.specs.Tables.{SkeletonRow, Tables, no_rows}
use Rattle.format.specs.Read.{read_skeleton}
use Rattle.format.specs.Rows.{bones_of}
use Rattle.format.specs.Layout.{base}
use Rattle.format.specs.Lookup.{lookup}
use Rattle.format.specs.Write.{named}
use Rattle.promises.specs.Meaning.{ReadsTo, Holds, Sized, Sound, Right, Fits4}
use Rattle.tables.specs.Front.{front_of}
use Rattle.blocks.specs.Places.{section}
use Rattle.format.specs.Words.{meant_words4}
use Rattle.read.specs.Lent as read
use Rattle.read.specs.Lent.{read_room}
use Rattle.read.specs.Reads.{Reads}
use Rattle.read.specs.declared.Skeleton.{Skeleton}
use Rattle.write.specs.Outcome.{outcome, Writes}
use Rattle.tables.specs.Working.{Working, room_in}
use Rattle.format.specs.declared.Words4.{Words4}
use Rattle.read.specs.Parts.{part_rows}
use Rattle.verify.specs.Checks.{Checks}
use Rattle.read_laws.specs.Bytes.{Bytes8, SectionBytes}
use Rattle.theorems.specs.Typed.{Words32}

-- ---- the words that the statements use

-- the check's answer is an acceptance
pub record Accepting (r : Result (Option ℕ) Refusal) : Type 0 where
  pub count : ℕ
  pub is : r ≡ Ok (Some count)

-- the tables lent for a reading hold it, whatever the section reads to
abbrev pub HoldsReading : Section → ℕ → read.Lent → Type 0
HoldsReading sec root t₀ = (s : SkeletonRow) (u : Tables) → ReadsTo sec root s u → Holds (read_room t₀) u

-- The first n rows of table b, with their names in section sec, are those of table a, with their names in the halves lent: in the same
-- order, every stored field, the kept words and the name's bytes equal, no name and an empty name being two.
abbrev pub SameBones : ℕ → Section → List ℕ → Section → List ℕ → Type 0
SameBones n lent a sec b = named sec (bones_of n b) ≡ named lent (bones_of n a)

-- a reading's answer and its table of bones: n bones, those of table a, and the free words
pub record BonesBack (lent : Section) (a : List ℕ) (n : ℕ) (free : Words4) (sec : Section) (r : Result (Option Skeleton) Refusal) (b : List ℕ) : Type 0 where
  pub skeleton : Skeleton
  pub is : r ≡ Ok (Some skeleton)
  pub count : part_rows skeleton.bones ≡ n
  pub same : SameBones n lent a sec b
  pub free_words : meant_words4 skeleton.free ≡ meant_words4 free

-- The section written, with any graphics bytes beside it: checked and read with tables that hold it.
pub record WrittenBack (lent : Section) (a : List ℕ) (n : ℕ) (free : Words4) (sec : Section) : Type 0 where
  pub accepted :
      (t₀ t : read.Lent) (x₀ x : Working) (r : Result (Option ℕ) Refusal) → Sized sec base (read_room t₀) (room_in x₀) → Checks sec base r t₀ t x₀ x →
      (r ≡ Ok (Some n)) × SameBones n lent a sec t.bones
  pub reads :
      (t₀ t : read.Lent) (r : Result (Option Skeleton) Refusal) → HoldsReading sec base t₀ →
      Reads (read_skeleton sec (read_room t₀) base no_rows) r t₀ t → BonesBack lent a n free sec r t.bones

-- ---- the statements

pub record Theorems : Type 0 where
  -- Exact. "Whatever bytes the system and graphics sections hold, whoever wrote them, and whatever the root address, the skeleton check,
  -- lent the tables that [the format] sizes, accepts exactly when the section reads and its chains, parents, children and matrices equal
  -- those that [it] derives from the bones read."
  pub exact :
      (sec : Section) (root : ℕ) (t₀ t : read.Lent) (x₀ x : Working) (r : Result (Option ℕ) Refusal) → Checks sec root r t₀ t x₀ x →
      Sized sec root (read_room t₀) (room_in x₀) → Accepting r ↔ Sound sec root
  -- Found. "In every section so accepted with two or more bones read, and for every tag from 0 to 65,535, the lookup from the same root
  -- gives the greatest position bearing that tag, or none exactly when no bone bears it." The bones read are those in their table.
  pub found :
      (sec : Section) (root : ℕ) (t₀ t : read.Lent) (x₀ x : Working) (n : ℕ) → SectionBytes sec → Checks sec root (Ok (Some n)) t₀ t x₀ x →
      2 ≤ n → (tag : ℕ) → tag ≤ 65535 → (r : Result (Option ℕ) Refusal) → refusal.outcome r ≡ lookup sec root tag →
      Right (tags (bones_of n t.bones)) tag (refusal.outcome r)
  -- Back. "Whatever bones, names and free words our writer takes, and whatever the graphics section holds, the section it writes is
  -- accepted with such tables and reads back the same number of bones, in the same order and bit for bit."
  pub back :
      (bones : List ℕ) (n : ℕ) (lent : Section) (free : Words4) (x : Working) (out out' : List ℕ) (size : ℕ) →
      Words32 bones → Fits4 (meant_words4 free) → Bytes8 out' →
      Writes (outcome lent (room_in x) (length out) n bones (meant_words4 free)) (Ok size) out out' →
      (graphics : List ℕ) → Bytes8 graphics → WrittenBack lent bones n free (section (front_of size out') graphics)
