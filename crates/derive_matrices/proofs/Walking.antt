-- Laws of the parent walk over rows: what it reads of a row, where it stops, and what one turn of the loop does to what is
-- left of it. Assumes nothing.
use Prim.Native.Nat.{ℕ, zero, suc, ◌+◌, ◌-◌, ◌/◌, ◌≤◌, ◌<◌}
use native.Mathlib.Omega.{arith}
use mathlib.Core.Path.{◌≡◌, refl, sym, ◌∙◌}
use mathlib.Core.Bool.{Bool, true, false}
use Rattle.std.specs.Prelude.{Some}
use mathlib.Core.List.{List, [], ◌∷◌, map}
use lib.ListN.{length, get_or, length-map}
use lib.Dec.{leb}
use borrow.Author.Tests.{lt-ltb, le-ltb, le-leb, lt-leb, leb-true}
use Rattle.std.proofs.lemmas.Bool.{leb-false}
use lib.Ieee.{Float}
use Rattle.math.specs.Word.{float_of}
use Rattle.math.specs.Vector.{vec3, vec4, add_vec3, quat_mul, quat_rotate}
use Rattle.math.specs.declared.Vec3.{Vec3}
use Rattle.math.specs.declared.Vec4.{Vec4}
use Rattle.format.specs.Matrices.{Pose, within, climb, bone_at, walk}
use Rattle.format.specs.Rows.{bone_of}
use Rattle.derive_matrices.specs.declared.walk.Joint.{Joint}
use Rattle.derive_matrices.specs.Walking.{joint_of, Climb}

-- the floats of a row's words and its parent are what the walk takes from its bone
pub joint_made :
    (w : List ℕ) {x y z r tx ty tz : Float}
    → x ≡ float_of (get_or w 0 0) → y ≡ float_of (get_or w 1 0) → z ≡ float_of (get_or w 2 0) → r ≡ float_of (get_or w 3 0)
    → tx ≡ float_of (get_or w 4 0) → ty ≡ float_of (get_or w 5 0) → tz ≡ float_of (get_or w 6 0)
    → record { rotation = vec4 x y z r; translation = vec3 tx ty tz; parent = get_or w 10 0 / 65536 } ≡ joint_of (bone_of w)
unfolding bone_of
joint_made w ex ey ez er ea eb ec = simp (ex, ey, ez, er, ea, eb, ec)

-- the bone at a position is that of the row there
bone_at-map : (rows : List (List ℕ)) (p : ℕ) → p < length rows → bone_at (map bone_of rows) p ≡ Some (bone_of (get_or rows p []))
unfolding bone_at
bone_at-map [] p h = absurd (omega arith)
bone_at-map (w ∷ rows) zero h = refl
bone_at-map (w ∷ rows) (suc p) h = bone_at-map rows p (omega arith)

-- ---- where the walk stops

module _ (rows : List (List ℕ)) (p : ℕ) (s : Pose) where
  pub walk_spent : (steps : ℕ) → length rows ≤ steps → walk (map bone_of rows) (length rows - steps) p s ≡ s
  unfolding walk
  walk_spent steps h = let e : length rows - steps ≡ 0 = omega arith in rw e

  walk_stays : (k : ℕ) → within (length (map bone_of rows)) p ≡ false → walk (map bone_of rows) k p s ≡ s
  unfolding walk
  walk_stays zero e = refl
  walk_stays (suc k) e = rw e

  pub walk-negative : (k : ℕ) → 32768 ≤ p → walk (map bone_of rows) k p s ≡ s
  walk-negative k h = walk_stays k (rw (le-leb 32768 p h))

  pub walk_outside : (k : ℕ) → p < 32768 → length rows ≤ p → walk (map bone_of rows) k p s ≡ s
  walk_outside k g h = walk_stays k (rw (lt-leb 32768 p g, length-map rows bone_of, le-ltb p (length rows) h))

  pub walk-stops : (k : ℕ) → (Climb (length rows) p → ⊥) → walk (map bone_of rows) k p s ≡ s
  walk-stops k h = by (leb 32768 p) refl
    where
      by : (q : Bool) → leb 32768 p ≡ q → walk (map bone_of rows) k p s ≡ s
      by true e = walk-negative k (leb-true 32768 p e)
      by false e =
          let l : p < 32768 = omega (arith, leb-false 32768 p e) in
          let m : length rows ≤ p = omega (arith, λ (g : p < length rows). h (l, g)) in
          walk_outside k l m

  -- ---- one step

  walk-climbs :
      (k : ℕ) → p < 32768 → p < length rows
      → walk (map bone_of rows) (suc k) p s
      ≡ walk (map bone_of rows) k (bone_of (get_or rows p [])).parent (climb (bone_of (get_or rows p [])) s)
  unfolding walk
  walk-climbs k g h = rw (lt-leb 32768 p g, length-map rows bone_of, lt-ltb p (length rows) h, bone_at-map rows p h)

  pub walk_up :
      (steps : ℕ) → p < 32768 → p < length rows → steps < length rows
      → walk (map bone_of rows) (length rows - steps) p s
      ≡ walk (map bone_of rows) (length rows - (steps + 1)) (bone_of (get_or rows p [])).parent (climb (bone_of (get_or rows p [])) s)
  walk_up steps g h l =
      let e : length rows - steps ≡ suc (length rows - (steps + 1)) = omega arith in
      rw e (walk-climbs (length rows - (steps + 1)) g h)

-- ---- one turn of the loop, from the values of its calls

pub walk_turn :
    (rows : List (List ℕ)) (p steps : ℕ) (position : Vec3) (rotation : Vec4) (j : Joint) (r position' : Vec3) (rotation' : Vec4)
    (e : Pose)
    → p < 32768 → p < length rows → steps < length rows → j ≡ joint_of (bone_of (get_or rows p [])) → r ≡ quat_rotate j.rotation position
    → position' ≡ add_vec3 r j.translation → rotation' ≡ quat_mul j.rotation rotation
    → walk (map bone_of rows) (length rows - steps) p (record { position = position; rotation = rotation }) ≡ e
    → walk (map bone_of rows) (length rows - (steps + 1)) j.parent (record { position = position'; rotation = rotation' }) ≡ e
unfolding climb
walk_turn rows p steps position rotation j r position' rotation' e g h l ej er ep eo k =
    rw (eo, ep, er, ej) (sym (walk_up rows p (record { position = position; rotation = rotation }) steps g h l) ∙ k)
