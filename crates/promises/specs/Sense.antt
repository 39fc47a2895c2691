-- Witnesses that the theorems speak of something: small sections and bones that meet their hypotheses, on either side. The sections are
-- `format`'s controls, whose answers come from the Rust. `proofs/Sense.antt` computes them. Definitions only.
use Rattle.std.specs.Prelude.{◌≡◌, ℕ, List, [], ◌∷◌}
use Rattle.std.specs.Prelude.{Option, None, Some}
use Rattle.format.specs.Result.{Res, refused, done}
use Rattle.format.specs.Section.{Section, Place}
use Rattle.format.specs.Bone.{Bone, naming}
use Rattle.format.specs.Tables.{SkeletonRow, Tables, no_rows}
use Rattle.format.specs.Read.{read_skeleton, no_skeleton}
use Rattle.format.specs.Layout.{Bytes, NamedBone, base}
use Rattle.format.specs.Write.{written}
use Rattle.format.specs.Lookup.{lookup}
use Rattle.format.specs.Program.{program_room, program_derive_room}
use Rattle.format.specs.TrialCases.{no_free}
use Rattle.format.specs.ControlSection.{control_bytes}
use Rattle.format.specs.Controls.{control_with, check_with, three}
use Rattle.promises.specs.Meaning.{ReadsTo, Sized, Sound, Accepts, Right}

-- ---- parts of a reading

abbrev pub skeleton_in : Res (Option SkeletonRow × Tables) → SkeletonRow
skeleton_in (done (Some s, t)) = s
skeleton_in (done (None, t)) = no_skeleton
skeleton_in (refused n) = no_skeleton

abbrev pub tables_in : Res (Option SkeletonRow × Tables) → Tables
tables_in (done (o, t)) = t
tables_in (refused n) = no_rows

-- a section with bytes edited reads
abbrev pub EditedReads : List (ℕ × ℕ) → Type 0
EditedReads es =
    let r = read_skeleton (control_with es) program_room base no_rows in
    ReadsTo (control_with es) base (skeleton_in r) (tables_in r)

-- ---- bones for the writer: names in lent bytes

-- the bytes "He", lent as the system half
abbrev pub lent_name : Section
lent_name = record { system = 72 ∷ 101 ∷ []; graphics = [] }

-- where the name of so many bytes lies
abbrev pub place_in : Bytes → Place
place_in [] = record { address = base; size = 0 }
place_in (b ∷ bs) = record { address = base; size = 2 }

abbrev pub placed_bones : List NamedBone → List (Bone Place)
placed_bones [] = []
placed_bones (b ∷ bs) = naming place_in b ∷ placed_bones bs

-- ---- the witnesses

pub record Sense : Type 0 where
  -- Exact: a section of three bones is accepted, and sound, with tables that hold its reading and its deriving
  pub accepted : Accepts (control_with []) program_room program_derive_room base
  pub sound : Sound (control_with []) base
  pub lent : Sized (control_with []) base program_room program_derive_room
  -- sections that read and are refused: a chain cut, a wrong parent, child, inverse word, local word
  pub cut : EditedReads ((216, 0) ∷ (219, 0) ∷ []) × (check_with ((216, 0) ∷ (219, 0) ∷ []) ≡ refused 21)
  pub parent : EditedReads ((914, 1) ∷ []) × (check_with ((914, 1) ∷ []) ≡ refused 22)
  pub child : EditedReads ((928, 2) ∷ []) × (check_with ((928, 2) ∷ []) ≡ refused 23)
  pub inverse : EditedReads ((528, 13) ∷ []) × (check_with ((528, 13) ∷ []) ≡ refused 24)
  pub local : EditedReads ((720, 1) ∷ []) × (check_with ((720, 1) ∷ []) ≡ refused 25)
  -- the children pointer is the parents pointer: it reads, and is refused
  pub aliased : EditedReads ((64, 144) ∷ []) × (check_with ((64, 144) ∷ []) ≡ refused 23)
  -- Found: tag 5 is borne by the bones at 0 and 2, tag 27 by none
  pub tag_found : (lookup (control_with []) base 5 ≡ done (Some 2)) × Right (5 ∷ 16 ∷ 5 ∷ []) 5 (done (Some 2))
  pub tag_not_found : (lookup (control_with []) base 27 ≡ done None) × Right (5 ∷ 16 ∷ 5 ∷ []) 27 (done None)
  -- and answers that are not right: bone 0 bears tag 5 and is not the last to, bone 1 does not bear it, position 3 holds no bone, some bone
  -- bears it, it is not refused
  pub not_greatest : Right (5 ∷ 16 ∷ 5 ∷ []) 5 (done (Some 0)) → ⊥
  pub not_bearing : Right (5 ∷ 16 ∷ 5 ∷ []) 5 (done (Some 1)) → ⊥
  pub not_standing : Right (5 ∷ 16 ∷ 5 ∷ []) 0 (done (Some 3)) → ⊥
  pub not_none : Right (5 ∷ 16 ∷ 5 ∷ []) 5 (done None) → ⊥
  pub not_refused : Right (5 ∷ 16 ∷ 5 ∷ []) 5 (refused 14) → ⊥
  -- Back: the writer takes the three bones, one with a name, one without, one with an empty name
  pub taken : written lent_name program_derive_room 944 (placed_bones three) no_free ≡ done control_bytes
