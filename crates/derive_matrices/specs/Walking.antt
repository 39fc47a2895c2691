-- The parent walk over rows: the words it reads and what they stand for, and the walk from where a bone stands. Definitions only.
use Rattle.std.specs.Prelude.{ℕ, ◌%◌, ◌<◌, ◌≡◌, Bool, true, List, [], length, get_or, leb}
use Rattle.format.specs.Section.{Place}
use Rattle.format.specs.Bone.{Bone}
use Rattle.format.specs.Matrices as format
use Rattle.derive_matrices.specs.declared.walk.Joint.{Joint}
use Rattle.derive_matrices.specs.declared.walk.Pose.{Pose}
use Rattle.derive_matrices.specs.declared.walk.Climber.{Climber}

-- whether a word is no NaN's: without its sign it is not above +infinity's
abbrev pub plain_word : ℕ → Bool
plain_word w = leb (w % 0x8000_0000) 0x7F80_0000

abbrev pub Plain : ℕ → Type 0
Plain w = plain_word w ≡ true

-- the seven words of a row that the walk reads as floats are no NaN's
abbrev pub PlainRow : List ℕ → Type 0
PlainRow row = (i : ℕ) → i < 7 → Plain (get_or row i 0)

-- where the flag is set, the row has no NaN
pub record Readable (plain : Bool) (row : List ℕ) : Type 0 where
  pub plains : plain ≡ true → PlainRow row

-- where the flag is set, no row has a NaN
pub record Walkable (plain : Bool) (rows : List (List ℕ)) : Type 0 where
  pub each : (p : ℕ) → p < length rows → Readable plain (get_or rows p [])

-- what the walk takes from a bone
abbrev pub joint_of : Bone Place → Joint
joint_of b = record { rotation = format.floats4 b.rotation; translation = format.floats3 b.translation; parent = b.parent }

-- the bone's own pose
abbrev pub own_pose : Joint → format.Pose
own_pose j = record { position = j.translation; rotation = j.rotation }

-- the pose that the code's stands for
abbrev pub meant_pose : Pose → format.Pose
meant_pose s = record { position = s.position; rotation = s.rotation }

-- where a bone on its walk stands
abbrev pub climber_pose : Climber → format.Pose
climber_pose c = meant_pose c.pose

-- where its walk ends, at most k steps on
abbrev pub walk_from : List (Bone Place) → ℕ → Climber → format.Pose
walk_from bones k c = format.walk bones k c.parent (climber_pose c)

-- a parent that the walk goes to: at least 0, and below n
abbrev pub Climb : ℕ → ℕ → Type 0
Climb n p = (p < 32768) × (p < n)
