-- A run of bytes stored in a list: what then stands in its place, and elsewhere. Fields in a slice that may be too short are in `Laws`.
-- Assumes nothing.
use mathlib.Core.Path.{◌≡◌, refl, sym, ap, ◌∙◌}
use mathlib.Core.Logic.{◌⊎◌, inl, inr}
use mathlib.Core.List.{List, [], ◌∷◌, ◌++◌, append_assoc}
use Prim.Native.Nat.{ℕ, suc, ◌+◌, ◌-◌, ◌≤◌}
use native.Mathlib.Nat.{add-zero, add-suc, suc-add}
use native.Mathlib.Omega.{arith}
use lib.ListN.{length, set, take, drop, length-drop, take-append-drop}
use borrow.Rule.Slice.PartMut.{put_mid}
use lib.Seq.{sets, sets-eq, take_at, drop_at, drop-drop, take-set-le, drop-set-lt, drop-set-add, length-take-le}

-- ---- a run of stores

pub sets-append : {A : Type 0} (a b s : List A) (at : ℕ) → sets s at (a ++ b) ≡ sets (sets s at a) (at + length a) b
sets-append [] b s at = simp add-zero
sets-append (x ∷ a) b s at = simp (sets-append a b (set s at x) (suc at), add-suc, suc-add)

-- a part of a slice that is written over, as the code gives it back
pub put_mid-sets :
    {A : Type 0} (at k : ℕ) (s vs : List A) → length vs ≡ k → at + k ≤ length s → put_mid at k s vs ≡ sets s at vs
put_mid-sets at k s vs n h =
    sym (sets-eq vs s at (omega (arith, n, h)) ∙ simp (append_assoc, drop-drop, n))

-- what the code writes over its part of k cells from a place on
pub written-over :
    {A : Type 0} (k : ℕ) (s : List A) (at : ℕ) (vs : List A) {x : List A} → length vs ≡ k → at + k ≤ length s → x ≡ vs
    → put_mid at (at + k - at) s x ≡ sets s at vs
written-over k s at vs {x} n h e =
    let m : at + k - at ≡ k = omega arith in
    rw (m, e) (put_mid-sets at k s vs n h)

-- what was stored stands in its place
pub part-sets-same : (vs s : List ℕ) (at : ℕ) → at + length vs ≤ length s → take (length vs) (drop at (sets s at vs)) ≡ vs
part-sets-same vs s at h =
    let rest = vs ++ drop (at + length vs) s in
    let cut : drop at (take at s ++ rest) ≡ rest = drop_at (take at s) rest at (length-take-le at s (omega arith)) in
    simp (sets-eq vs s at h, append_assoc, cut) (take_at vs (drop (at + length vs) s) (length vs) refl)

-- what is stored again where it stands changes nothing
pub sets-part : (k : ℕ) (s : List ℕ) (at : ℕ) → at + k ≤ length s → sets s at (take k (drop at s)) ≡ s
sets-part k s at h =
    let l : length (take k (drop at s)) ≡ k = length-take-le k (drop at s) (simp length-drop (omega arith)) in
    let e = sets-eq (take k (drop at s)) s at (rw l h) in
    simp (l, append_assoc, ← drop-drop k at s, take-append-drop) at e

-- a part behind a run of stores, or before it, is as it was
pub part-sets-other :
    (vs s : List ℕ) (at j b : ℕ) → (at + length vs ≤ b) ⊎ (b + j ≤ at) → take j (drop b (sets s at vs)) ≡ take j (drop b s)
part-sets-other [] s at j b apart = refl
part-sets-other (x ∷ vs) s at j b (inl h) =
    part-sets-other vs (set s at x) (suc at) j b (inl (omega arith)) ∙ ap (take j) (drop-set-lt b s at x (omega arith))
part-sets-other (x ∷ vs) s at j b (inr h) =
    let e : b + (at - b) ≡ at = omega arith in
    let one : take j (drop b (set s (b + (at - b)) x)) ≡ take j (drop b s) =
    simp drop-set-add (take-set-le j (drop b s) (at - b) x (omega arith)) in
    part-sets-other vs (set s at x) (suc at) j b (inr (omega arith)) ∙ rw e at one
