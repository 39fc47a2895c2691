-- Four poses side by side: number k of the pose in lane i stands at i + 4 × k, the position before the rotation. Definitions only.
use Rattle.std.specs.Prelude.{ℕ, ◌+◌, ◌-◌, ◌<◌, ◌≡◌, ◌≢◌, List, [], ◌∷◌, length, map, get_or, Float}
use Rattle.std.specs.Float.{nan}
use Rattle.math.specs.Vector.{vec3, vec4, add_vec3, quat_mul, quat_rotate}
use Rattle.format.specs.Matrices.{Pose, walk}
use Rattle.format.specs.Rows.{bone_of}
use Rattle.derive_matrices.specs.declared.walk.Joint.{Joint}
use Rattle.derive_matrices.specs.declared.walk.Four.{Four}
use Rattle.derive_matrices.specs.Walking.{own_pose, walk_from}

abbrev pub lanes_of : Pose → Pose → Pose → Pose → List Float
lanes_of a b c d =
    a.position.x ∷ b.position.x ∷ c.position.x ∷ d.position.x
    ∷ a.position.y ∷ b.position.y ∷ c.position.y ∷ d.position.y
    ∷ a.position.z ∷ b.position.z ∷ c.position.z ∷ d.position.z
    ∷ a.rotation.x ∷ b.rotation.x ∷ c.rotation.x ∷ d.rotation.x
    ∷ a.rotation.y ∷ b.rotation.y ∷ c.rotation.y ∷ d.rotation.y
    ∷ a.rotation.z ∷ b.rotation.z ∷ c.rotation.z ∷ d.rotation.z
    ∷ a.rotation.w ∷ b.rotation.w ∷ c.rotation.w ∷ d.rotation.w
    ∷ []

-- the pose in lane i
abbrev pub lane_of : List Float → ℕ → Pose
lane_of s i =
    record {
      position = vec3 (get_or s i nan) (get_or s (i + 4) nan) (get_or s (i + 8) nan);
      rotation = vec4 (get_or s (i + 12) nan) (get_or s (i + 16) nan) (get_or s (i + 20) nan) (get_or s (i + 24) nan);
    }

-- one step up, by a parent's own pose
unfoldable pub raised : Pose → Pose → Pose
raised parent s =
    record {
      position = add_vec3 (quat_rotate parent.rotation s.position) parent.position;
      rotation = quat_mul parent.rotation s.rotation;
    }

-- lane i holds v, and every other what it held
pub record LanePut (i : ℕ) (v : Pose) (s₀ s : List Float) : Type 0 where
  pub lane : lane_of s i ≡ v
  pub others : (k : ℕ) → k < 4 → k ≢ i → lane_of s k ≡ lane_of s₀ k

-- each lane of s₀ is one step further in s, by the parent in the same lane
abbrev pub LanesRaised : List Float → List Float → List Float → Type 0
LanesRaised by s₀ s = (i : ℕ) → i < 4 → lane_of s i ≡ raised (lane_of by i) (lane_of s₀ i)

-- each of four bones is on its own walk, and ends where the whole walk ends
pub record SideBySide (rows : List (List ℕ)) (a b c d : Joint) (f : Four) : Type 0 where
  pub first : walk_from (map bone_of rows) (length rows - f.steps) f.a ≡ walk (map bone_of rows) (length rows) a.parent (own_pose a)
  pub second : walk_from (map bone_of rows) (length rows - f.steps) f.b ≡ walk (map bone_of rows) (length rows) b.parent (own_pose b)
  pub third : walk_from (map bone_of rows) (length rows - f.steps) f.c ≡ walk (map bone_of rows) (length rows) c.parent (own_pose c)
  pub fourth : walk_from (map bone_of rows) (length rows - f.steps) f.d ≡ walk (map bone_of rows) (length rows) d.parent (own_pose d)
