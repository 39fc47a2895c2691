-- Laws of a bone's two matrices: they are what the calls give, put together, and have sixteen words. Assumes nothing.
use Prim.Native.Nat.{ℕ, zero, suc, ◌-◌}
use native.Mathlib.Nat.{sub-zero}
use mathlib.Core.Path.{◌≡◌, refl, ap}
use mathlib.Core.List.{List, [], ◌∷◌, map}
use lib.ListN.{length, set, length-set, length-map}
use Rattle.math.specs.F32.{◌⊗◌}
use Rattle.math.specs.Matrix.{from_quat_pos, scale_vector, set_diagonal, set_column4, matrix_words}
use Rattle.math.specs.Inverse.{inverse}
use Rattle.math.specs.declared.Vec3.{Vec3}
use Rattle.math.specs.declared.Mat4.{Mat4}
use Rattle.math.proofs.Sizes.{length-from_quat_pos, length-inverse}
use Rattle.format.specs.Section.{Place}
use Rattle.format.specs.Bone.{Bone}
use Rattle.format.specs.Matrices.{floats3, walk, local_of, inverse_of}
use Rattle.format.specs.declared.Words4.{Words4}
use Rattle.format.specs.Words.{our_words4}
use Rattle.derive_matrices.specs.declared.walk.Joint.{Joint}
use Rattle.derive_matrices.specs.declared.walk.Pose.{Pose}
use Rattle.derive_matrices.specs.declared.walk.Climber.{Climber}
use Rattle.derive_matrices.specs.Walking.{joint_of, own_pose, meant_pose, climber_pose, walk_from}
use Rattle.derive_matrices.specs.Transforming.{inverse_from}

module _ {A B : Type 0} (f : A → B) where
  map-set : (l : List A) (i : ℕ) (a : A) → map f (set l i a) ≡ set (map f l) i (f a)
  map-set [] i a = refl
  map-set (x ∷ l) zero a = refl
  map-set (x ∷ l) (suc i) a = ap (λ (m : List B). f x ∷ m) (map-set l i a)

-- ---- the local matrix

pub local_made :
    (b : Bone Place) (j : Joint) (m : Mat4) (d s : Vec3) (k : Words4) (m' : Mat4) (w : List ℕ) → j ≡ joint_of b
    → m ≡ from_quat_pos j.rotation j.translation → d ≡ scale_vector m → s ≡ floats3 b.scale
    → k ≡ our_words4 b.kept → m'.0 ≡ set_diagonal (d.x ⊗ s.x) (d.y ⊗ s.y) (d.z ⊗ s.z) m.0 → w ≡ matrix_words m'
    → set_column4 k.x k.y k.z k.w w ≡ local_of b
unfolding local_of
local_made b j m d s k m' w ej em ed es ek em' ew = simp (ew, em', map-set, ek, es, ed, em, ej)

pub length-local : (b : Bone Place) → length (local_of b) ≡ 16
unfolding local_of
length-local b = simp (length-set, length-map) (length-from_quat_pos _ _)

-- ---- the inverse matrix

pub inverse_made :
    (s : Pose) (m i : Mat4) (w : List ℕ) → m ≡ from_quat_pos s.rotation s.position → i ≡ inverse m → w ≡ matrix_words i
    → set_column4 0 0 0 0 w ≡ inverse_from (meant_pose s)
unfolding inverse_from
inverse_made s m i w em ei ew = rw (ew, ei, em)

-- it is that of the bone whose walk ends there
pub inverse-walked :
    (bones : List (Bone Place)) (n k : ℕ) (b : Bone Place) (j : Joint) (c : Climber) → length bones ≡ n → j ≡ joint_of b
    → walk_from bones k c ≡ walk bones n j.parent (own_pose j) → inverse_from (walk_from bones k c) ≡ inverse_of bones b
unfolding inverse_from inverse_of
inverse-walked bones n k b j c el ej ec = simp (ec, ej, el)

-- a bone before its first step has its whole walk before it
pub walk_before :
    (bones : List (Bone Place)) (n : ℕ) (j : Joint) (c : Climber) → climber_pose c ≡ own_pose j → c.parent ≡ j.parent
    → walk_from bones (n - 0) c ≡ walk bones n j.parent (own_pose j)
walk_before bones n j c es ep = rw (sub-zero, es, ep)

pub length-inverse_of : (bones : List (Bone Place)) (b : Bone Place) → length (inverse_of bones b) ≡ 16
unfolding inverse_of
length-inverse_of bones b = simp (length-set, length-map) (length-inverse _)
