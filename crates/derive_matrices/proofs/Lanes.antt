-- Laws of four poses side by side: what a pose put into a lane leaves in each, and what a step of all four does to what is left
-- of their walks. Assumes nothing.
use Prim.Native.Nat.{ℕ, zero, suc, ◌+◌, ◌-◌, ◌*◌, ◌≤◌, ◌<◌}
use native.Mathlib.Omega.{arith}
use mathlib.Core.Path.{◌≡◌, refl, sym, ap, ◌∙◌}
use mathlib.Core.Logic.{◌≢◌}
use mathlib.Core.List.{List, [], ◌∷◌, map}
use lib.ListN.{length, get_or, set, length-set}
use lib.Seq.{get_or-set_same, get_or-set_other}
use lib.Ieee.{Float, nan}
use Rattle.math.specs.Vector.{vec3, vec4}
use Rattle.format.specs.Matrices.{Pose, climb, walk}
use Rattle.format.specs.Rows.{bone_of}
use Rattle.derive_matrices.specs.declared.walk.Joint.{Joint}
use Rattle.derive_matrices.specs.declared.walk.Four.{Four}
use Rattle.derive_matrices.specs.Walking.{joint_of, own_pose, climber_pose, Climb}
use Rattle.derive_matrices.specs.Lanes.{lanes_of, lane_of, raised, LanePut, LanesRaised, SideBySide}
use Rattle.derive_matrices.proofs.Walking.{walk_up}

-- ---- a pose put into a lane

-- the numbers vs stored from j on, four apart
unfoldable put_fours : List Float → ℕ → List Float → List Float
put_fours s j [] = s
put_fours s j (v ∷ vs) = put_fours (set s j v) (j + 4) vs

-- elsewhere nothing changes
put_elsewhere :
    (vs s : List Float) (j k : ℕ) → ((m : ℕ) → m < length vs → k ≢ j + 4 * m) → get_or (put_fours s j vs) k nan ≡ get_or s k nan
unfolding put_fours
put_elsewhere [] s j k h = refl
put_elsewhere (v ∷ vs) s j k h =
    let other : (m : ℕ) → m < length vs → k ≢ j + 4 + 4 * m = λ m l e. h (suc m) (omega arith) (omega (arith, e)) in
    put_elsewhere vs (set s j v) (j + 4) k other ∙ get_or-set_other s j k v nan (λ e. h 0 (omega arith) (omega (arith, e)))

-- the m-th stands where it was stored
put_there :
    (vs s : List Float) (j m k : ℕ) → m < length vs → k ≡ j + 4 * m → k < length s → get_or (put_fours s j vs) k nan ≡ get_or vs m nan
unfolding put_fours
put_there [] s j m k l e h = absurd (omega arith)
put_there (v ∷ vs) s j zero k l e h =
    let here : k ≡ j = omega (arith, e) in
    let other : (m : ℕ) → m < length vs → k ≢ j + 4 + 4 * m = λ m _ d. absurd (omega (arith, e, d)) in
    put_elsewhere vs (set s j v) (j + 4) k other ∙ rw here (get_or-set_same s j v nan (rw (sym here) h))
put_there (v ∷ vs) s j (suc m) k l e h =
    put_there vs (set s j v) (j + 4) m k (omega arith) (omega (arith, e)) (rw (length-set s j v) h)

-- the seven numbers of a pose
abbrev numbers : Pose → List Float
numbers v =
    v.position.x ∷ v.position.y ∷ v.position.z ∷ v.rotation.x ∷ v.rotation.y ∷ v.rotation.z ∷ v.rotation.w ∷ []

-- poses with the same numbers
same_numbers :
    {u v : Pose} → u.position.x ≡ v.position.x → u.position.y ≡ v.position.y → u.position.z ≡ v.position.z
    → u.rotation.x ≡ v.rotation.x → u.rotation.y ≡ v.rotation.y → u.rotation.z ≡ v.rotation.z
    → u.rotation.w ≡ v.rotation.w → u ≡ v
same_numbers x y z a b c d = λ j. record { position = vec3 (x j) (y j) (z j); rotation = vec4 (a j) (b j) (c j) (d j) }

-- a lane whose numbers are those of a pose
lane-is :
    (s : List Float) (i : ℕ) (v : Pose)
    → ((k m : ℕ) → m < 7 → k ≡ i + 4 * m → get_or s k nan ≡ get_or (numbers v) m nan) → lane_of s i ≡ v
lane-is s i v h =
    same_numbers (h i 0 (omega arith) (omega arith)) (h (i + 4) 1 (omega arith) (omega arith))
    (h (i + 8) 2 (omega arith) (omega arith)) (h (i + 12) 3 (omega arith) (omega arith))
    (h (i + 16) 4 (omega arith) (omega arith)) (h (i + 20) 5 (omega arith) (omega arith))
    (h (i + 24) 6 (omega arith) (omega arith))

-- two lists that agree in a lane
lane-same :
    (s t : List Float) (i : ℕ) → ((k m : ℕ) → k ≡ i + 4 * m → get_or s k nan ≡ get_or t k nan) → lane_of s i ≡ lane_of t i
lane-same s t i h =
    same_numbers (h i 0 (omega arith)) (h (i + 4) 1 (omega arith)) (h (i + 8) 2 (omega arith)) (h (i + 12) 3 (omega arith))
    (h (i + 16) 4 (omega arith)) (h (i + 20) 5 (omega arith)) (h (i + 24) 6 (omega arith))

numbers-put : (s : List Float) (i : ℕ) (v : Pose) → length s ≡ 28 → i < 4 → LanePut i v s (put_fours s i (numbers v))
numbers-put s i v size l =
    record {
      lane =
          lane-is (put_fours s i (numbers v)) i v (λ k m h e. put_there (numbers v) s i m k h e (omega (arith, size, l, h, e)));
      others =
          λ k h d. lane-same (put_fours s i (numbers v)) s k
          (λ j m e. put_elsewhere (numbers v) s i j (λ n _ f. d (omega (arith, e, f, h, l))));
    }

-- seven stores put a pose into lane i
pub pose_put :
    (s : List Float) (i : ℕ) (v : Pose) → length s ≡ 28 → i < 4
    → LanePut i v s
    (set (set (set (set (set (set (set s i v.position.x) (i + 4) v.position.y) (i + 8) v.position.z)
    (i + 12) v.rotation.x) (i + 16) v.rotation.y) (i + 20) v.rotation.z) (i + 24) v.rotation.w)
unfolding put_fours
pose_put s i v size l =
    let e8 : i + 4 + 4 ≡ i + 8 = omega arith in
    let e12 : i + 8 + 4 ≡ i + 12 = omega arith in
    let e16 : i + 12 + 4 ≡ i + 16 = omega arith in
    let e20 : i + 16 + 4 ≡ i + 20 = omega arith in
    let e24 : i + 20 + 4 ≡ i + 24 = omega arith in
    rw (e8, e12, e16, e20, e24) at (numbers-put s i v size l)

-- ---- the loop over the lanes

-- the lanes below i are a step further than in s₀, and the others are as they were
pub record Raising (parents s₀ s : List Float) (i : ℕ) : Type 0 where
  pub size : length s ≡ 28
  pub done : (k : ℕ) → k < i → lane_of s k ≡ raised (lane_of parents k) (lane_of s₀ k)
  pub rest : (k : ℕ) → i ≤ k → k < 4 → lane_of s k ≡ lane_of s₀ k

-- ---- the walks of four bones

-- where the walk of the pose in lane i goes on from, and where it is to end
pub record LaneWalk (rows : List (List ℕ)) (steps : ℕ) (s₀ s : List Float) (i p₀ p : ℕ) : Type 0 where
  pub ends : walk (map bone_of rows) (length rows - steps) p (lane_of s i) ≡ walk (map bone_of rows) (length rows) p₀ (lane_of s₀ i)

-- all four, in s, with parents p, q, r and u to go to next
pub record FourWalks (rows : List (List ℕ)) (steps : ℕ) (s₀ s : List Float) (p₀ q₀ r₀ u₀ p q r u : ℕ) : Type 0 where
  pub size : length s ≡ 28
  pub first : LaneWalk rows steps s₀ s 0 p₀ p
  pub second : LaneWalk rows steps s₀ s 1 q₀ q
  pub third : LaneWalk rows steps s₀ s 2 r₀ r
  pub fourth : LaneWalk rows steps s₀ s 3 u₀ u

-- a step by a parent's own pose is a step of the walk
raise_climb : (w : List ℕ) (j : Joint) (s : Pose) → j ≡ joint_of (bone_of w) → raised (own_pose j) s ≡ climb (bone_of w) s
unfolding raised climb
raise_climb w j s e = rw e refl

-- a step of the pose in lane i
lane_turn :
    (rows : List (List ℕ)) (steps : ℕ) (parents s₀ s s' : List Float) (i p₀ p : ℕ) (j : Joint)
    → steps < length rows → i < 4 → Climb (length rows) p → j ≡ joint_of (bone_of (get_or rows p [])) → lane_of parents i ≡ own_pose j
    → LanesRaised parents s s' → LaneWalk rows steps s₀ s i p₀ p → LaneWalk rows (steps + 1) s₀ s' i p₀ j.parent
lane_turn rows steps parents s₀ s s' i p₀ p j l h c ej ep up w =
    let e : lane_of s' i ≡ climb (bone_of (get_or rows p [])) (lane_of s i) =
    up i h ∙ ap (λ (o : Pose). raised o (lane_of s i)) ep ∙ raise_climb (get_or rows p []) j (lane_of s i) ej in
    record { ends = rw (e, ej) (sym (walk_up rows p (lane_of s i) steps c.0 c.1 l) ∙ w.ends) }

pub four_turn :
    (rows : List (List ℕ)) (steps : ℕ) (parents s₀ s s' : List Float) (p₀ q₀ r₀ u₀ p q r u : ℕ) (j k l m : Joint) → steps < length rows
    → length s' ≡ 28 → Climb (length rows) p × Climb (length rows) q × Climb (length rows) r × Climb (length rows) u
    → j ≡ joint_of (bone_of (get_or rows p [])) → k ≡ joint_of (bone_of (get_or rows q []))
    → l ≡ joint_of (bone_of (get_or rows r [])) → m ≡ joint_of (bone_of (get_or rows u []))
    → parents ≡ lanes_of (own_pose j) (own_pose k) (own_pose l) (own_pose m) → LanesRaised parents s s'
    → FourWalks rows steps s₀ s p₀ q₀ r₀ u₀ p q r u
    → FourWalks rows (steps + 1) s₀ s' p₀ q₀ r₀ u₀ j.parent k.parent l.parent m.parent
four_turn rows steps parents s₀ s s' p₀ q₀ r₀ u₀ p q r u j k l m lt size c ej ek el em ep up w =
    let at : (i : ℕ) → lane_of parents i ≡ lane_of (lanes_of (own_pose j) (own_pose k) (own_pose l) (own_pose m)) i =
    λ i. ap (λ (o : List Float). lane_of o i) ep in
    record {
      size = size;
      first = lane_turn rows steps parents s₀ s s' 0 p₀ p j lt (omega arith) c.0 ej (at 0) up w.first;
      second = lane_turn rows steps parents s₀ s s' 1 q₀ q k lt (omega arith) c.1 ek (at 1) up w.second;
      third = lane_turn rows steps parents s₀ s s' 2 r₀ r l lt (omega arith) c.2 el (at 2) up w.third;
      fourth = lane_turn rows steps parents s₀ s s' 3 u₀ u m lt (omega arith) c.3 em (at 3) up w.fourth;
    }

-- where the walk of the bone in lane i goes on from, once it is taken out
lane_out :
    (rows : List (List ℕ)) (steps : ℕ) (s₀ s : List Float) (i p : ℕ) (own : Joint) (v : Pose) → lane_of s₀ i ≡ own_pose own
    → v ≡ lane_of s i → LaneWalk rows steps s₀ s i own.parent p
    → walk (map bone_of rows) (length rows - steps) p v ≡ walk (map bone_of rows) (length rows) own.parent (own_pose own)
lane_out rows steps s₀ s i p own v eo ev w = rw (ev, sym eo) w.ends

pub four_out :
    (rows : List (List ℕ)) (s₀ s : List Float) (a b c d : Joint) (f : Four)
    → s₀ ≡ lanes_of (own_pose a) (own_pose b) (own_pose c) (own_pose d)
    → FourWalks rows f.steps s₀ s a.parent b.parent c.parent d.parent
    f.a.parent f.b.parent f.c.parent f.d.parent
    → climber_pose f.a ≡ lane_of s 0 → climber_pose f.b ≡ lane_of s 1 → climber_pose f.c ≡ lane_of s 2
    → climber_pose f.d ≡ lane_of s 3 → SideBySide rows a b c d f
four_out rows s₀ s a b c d f es w ea eb ec ed =
    let at : (i : ℕ) → lane_of s₀ i ≡ lane_of (lanes_of (own_pose a) (own_pose b) (own_pose c) (own_pose d)) i =
    λ i. ap (λ (o : List Float). lane_of o i) es in
    record {
      first = lane_out rows f.steps s₀ s 0 f.a.parent a (climber_pose f.a) (at 0) ea w.first;
      second = lane_out rows f.steps s₀ s 1 f.b.parent b (climber_pose f.b) (at 1) eb w.second;
      third = lane_out rows f.steps s₀ s 2 f.c.parent c (climber_pose f.c) (at 2) ec w.third;
      fourth = lane_out rows f.steps s₀ s 3 f.d.parent d (climber_pose f.d) (at 3) ed w.fourth;
    }
