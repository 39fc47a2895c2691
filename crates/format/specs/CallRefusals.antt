-- Which refusals each call can give, by their numbers (docs/FORMAT.md, "Who can cause a refusal"). A call that comes to refuse something
-- more has its number entered in the call's list. `proofs/CallRefusals.antt` proves what is said of the definitions here; what the
-- calls that are stated by more than these can give is said, by the same lists, in `theorems`. Definitions only.
use Rattle.std.specs.Prelude.{◌≡◌, ℕ, Bool, false, ◌||◌, List, [], ◌∷◌, ◌++◌, T, eqb}
use Rattle.format.specs.Result.{Res, refused}
use Rattle.format.specs.Section.{Section, Place}
use Rattle.format.specs.Bone.{Bone, Words4}
use Rattle.format.specs.Deriving.{DeriveRoom}
use Rattle.format.specs.Tables.{Tables, Room}
use Rattle.format.specs.Read as Read
use Rattle.format.specs.Search as Search
use Rattle.format.specs.Check as Check
use Rattle.format.specs.Lookup as Lookup
use Rattle.format.specs.Write as Write
use Rattle.format.specs.Joints as Joints

-- ---- the lists

-- `build_bone_tags`, `build_indices`, `build_transformations`
abbrev pub deriving_refusals : List ℕ
deriving_refusals = 1 ∷ 2 ∷ []

-- the section writer
abbrev pub writing_refusals : List ℕ
writing_refusals = 1 ∷ 2 ∷ 3 ∷ 4 ∷ 5 ∷ []

-- reading a skeleton, and the name search, which reads
abbrev pub reading_refusals : List ℕ
reading_refusals = 1 ∷ 10 ∷ 11 ∷ 12 ∷ 13 ∷ []

-- the skeleton check: reading's and its own
abbrev pub check_refusals : List ℕ
check_refusals = reading_refusals ++ 21 ∷ 22 ∷ 23 ∷ 24 ∷ 25 ∷ []

-- lookup of a tag
abbrev pub lookup_refusals : List ℕ
lookup_refusals = 10 ∷ 11 ∷ 14 ∷ []

-- joints read
abbrev pub joints_read_refusals : List ℕ
joints_read_refusals = 1 ∷ 10 ∷ 11 ∷ []

-- joints written, and one record of each kind
abbrev pub joints_written_refusals : List ℕ
joints_written_refusals = 1 ∷ 5 ∷ 6 ∷ 35 ∷ []

abbrev pub rotation_written_refusals : List ℕ
rotation_written_refusals = 5 ∷ 35 ∷ []

abbrev pub translation_written_refusals : List ℕ
translation_written_refusals = 5 ∷ []

-- ---- what the lists are of

abbrev pub one_of : ℕ → List ℕ → Bool
one_of n [] = false
one_of n (m ∷ ms) = eqb n m || one_of n ms

-- what a call gives is a value, or a refusal of the list
pub record RefusesOnly {A : Type 0} (ns : List ℕ) (r : Res A) : Type 0 where
  pub only : (n : ℕ) → r ≡ refused n → T (one_of n ns)

pub record CallRefusals : Type 0 where
  pub reading : (sec : Section) (room : Room) (root : ℕ) (t : Tables) → RefusesOnly reading_refusals (Read.read_skeleton sec room root t)
  pub search : (sec : Section) (room : Room) (root key : ℕ) → RefusesOnly reading_refusals (Search.search sec room root key)
  pub check :
      (sec : Section) (room : Room) (droom : DeriveRoom) (root : ℕ) → RefusesOnly check_refusals (Check.check sec room droom root)
  pub lookup : (sec : Section) (root tag : ℕ) → RefusesOnly lookup_refusals (Lookup.lookup sec root tag)
  pub writing :
      (lent : Section) (room : DeriveRoom) (size : ℕ) (bones : List (Bone Place)) (free : Words4) →
      RefusesOnly writing_refusals (Write.written lent room size bones free)
  pub joints_read : (sec : Section) (rroom troom root : ℕ) → RefusesOnly joints_read_refusals (Joints.read_joints sec rroom troom root)
  pub joints_written :
      (size : ℕ) (rs : List Joints.RotationLimit) (ts : List Joints.TranslationLimit) →
      RefusesOnly joints_written_refusals (Joints.joints_written size rs ts)
  pub rotation_written :
      (size : ℕ) (l : Joints.RotationLimit) → RefusesOnly rotation_written_refusals (Joints.rotation_written size l)
  pub translation_written :
      (size : ℕ) (l : Joints.TranslationLimit) → RefusesOnly translation_written_refusals (Joints.translation_written size l)
