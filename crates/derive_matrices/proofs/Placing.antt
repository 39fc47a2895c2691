-- Laws of rows of sixteen words, one for each bone, stored one behind the other in a table. Assumes nothing.
use Prim.Native.Nat.{ℕ, ◌+◌, ◌*◌, ◌≤◌, ◌<◌}
use native.Mathlib.Omega.{arith}
use mathlib.Core.Path.{◌≡◌, refl, sym, ap, ◌∙◌}
use mathlib.Core.List.{List, [], ◌∷◌, ◌++◌, flat_map, map, append-nil, append_assoc}
use lib.ListN.{length, get_or, take, drop, length-append, length-map}
use lib.Seq.{sets, sets-eq, length-sets, length-take-le, take-length, take_at, drop-append-add, drop-drop}
use Rattle.std.proofs.lemmas.List.{map_more}
use Rattle.format.specs.Section.{Place}
use Rattle.format.specs.Bone.{Bone}
use Rattle.format.specs.Rows.{bone_of, bones_of}
use Rattle.derive_matrices.specs.Transforming.{RowsPlaced, Continues}
use Rattle.rows.proofs.Rows.{length-bones_of}

module _ (f : Bone Place → List ℕ) where
  flat_map_append : (bs cs : List (Bone Place)) → flat_map f (bs ++ cs) ≡ flat_map f bs ++ flat_map f cs
  unfolding flat_map
  flat_map_append [] cs = refl
  flat_map_append (b ∷ bs) cs =
      ap (λ (l : List ℕ). f b ++ l) (flat_map_append bs cs) ∙ sym (append_assoc (f b) (flat_map f bs) (flat_map f cs))

  -- one row more
  rows_more :
      (p : ℕ) (rows : List (List ℕ)) → p < length rows
      → flat_map f (map bone_of (take (p + 1) rows)) ≡ flat_map f (map bone_of (take p rows)) ++ f (bone_of (get_or rows p []))
  unfolding flat_map
  rows_more p rows h =
      ap (flat_map f) (map_more bone_of rows p [] h) ∙ flat_map_append (map bone_of (take p rows)) (bone_of (get_or rows p []) ∷ [])
      ∙ ap (λ (l : List ℕ). flat_map f (map bone_of (take p rows)) ++ l) (append-nil (f (bone_of (get_or rows p []))))

pub placed-none : {f : Bone Place → List ℕ} (rows : List (List ℕ)) (d : List ℕ) → RowsPlaced f rows d d 0
unfolding flat_map
placed-none rows d = record { same = refl; is = refl }

module _ (f : Bone Place → List ℕ) (size : (b : Bone Place) → length (f b) ≡ 16) where
  length-rows_of : (bs : List (Bone Place)) → length (flat_map f bs) ≡ 16 * length bs
  unfolding flat_map
  length-rows_of [] = refl
  length-rows_of (b ∷ bs) = length-append (f b) (flat_map f bs) ∙ omega (arith, size b, length-rows_of bs)

  pub length-rows : (n : ℕ) (t : List ℕ) → length (flat_map f (bones_of n t)) ≡ 16 * n
  length-rows n t = length-rows_of (bones_of n t) ∙ ap (λ (k : ℕ). 16 * k) (length-bones_of n t)

  -- of the first p
  length-first : (p : ℕ) (rows : List (List ℕ)) → p ≤ length rows → length (flat_map f (map bone_of (take p rows))) ≡ 16 * p
  length-first p rows h =
      length-rows_of (map bone_of (take p rows)) ∙ ap (λ (k : ℕ). 16 * k) (length-map (take p rows) bone_of ∙ length-take-le p rows h)

  pub placed-more :
      {rows : List (List ℕ)} {d₀ d d' w : List ℕ} {p : ℕ} → p < length rows → 16 * length rows ≤ length d₀ → RowsPlaced f rows d₀ d p
      → w ≡ f (bone_of (get_or rows p [])) → d' ≡ sets d (16 * p) w → RowsPlaced f rows d₀ d' (p + 1)
  placed-more {rows} {d₀} {d} {d'} {w} {p} below room h ew ed =
      let r : List ℕ = flat_map f (map bone_of (take p rows)) in
      let rest : List ℕ = drop (16 * p) d₀ in
      let lw : length w ≡ 16 = ap length ew ∙ size (bone_of (get_or rows p [])) in
      let lr : length r ≡ 16 * p = length-first p rows (omega arith) in
      let next : 16 * p + 16 ≡ 16 * (p + 1) = omega arith in
      let past : drop (16 * p + 16) (r ++ rest) ≡ drop (16 * (p + 1)) d₀ =
      ap (λ (k : ℕ). drop (k + 16) (r ++ rest)) (sym lr) ∙ drop-append-add r rest 16 ∙ drop-drop 16 (16 * p) d₀
      ∙ ap (λ (k : ℕ). drop k d₀) next in
      let fits : 16 * p + length w ≤ length d = omega (arith, h.same) in
      record {
        same = ap length ed ∙ length-sets d (16 * p) w ∙ h.same;
        is =
            ed ∙ sets-eq w d (16 * p) fits
            ∙ rw (lw, h.is, take_at r rest (16 * p) lr, past, ew, rows_more f p rows below);
      }

-- ---- from rows that stand to more of them

pub continues_none : (f : Bone Place → List ℕ) (rows : List (List ℕ)) (p : ℕ) (d : List ℕ) → Continues f rows p p d d
continues_none f rows p d = record { same = refl; placed = λ d₀ h. h }

module _ (f : Bone Place → List ℕ) (size : (b : Bone Place) → length (f b) ≡ 16) where
  pub continues_more :
      {rows : List (List ℕ)} {d d₁ d₂ w : List ℕ} {p q : ℕ} → q < length rows → 16 * length rows ≤ length d → Continues f rows p q d d₁
      → w ≡ f (bone_of (get_or rows q [])) → d₂ ≡ sets d₁ (16 * q) w → Continues f rows p (q + 1) d d₂
  continues_more {d₁ = d₁} {w = w} {q = q} below room h ew ed =
      record {
        same = ap length ed ∙ length-sets d₁ (16 * q) w ∙ h.same;
        placed = λ d₀ k.
            let g = h.placed d₀ k in
            placed-more f size below (omega (arith, room, h.same, g.same)) g ew ed;
      }

  -- four rows more
  pub continues_four :
      {rows : List (List ℕ)} {d d₁ d₂ d₃ d₄ w₁ w₂ w₃ w₄ : List ℕ} {p : ℕ} → p + 4 ≤ length rows → 16 * length rows ≤ length d
      → w₁ ≡ f (bone_of (get_or rows p [])) → d₁ ≡ sets d (16 * p) w₁
      → w₂ ≡ f (bone_of (get_or rows (p + 1) [])) → d₂ ≡ sets d₁ (16 * (p + 1)) w₂
      → w₃ ≡ f (bone_of (get_or rows (p + 2) [])) → d₃ ≡ sets d₂ (16 * (p + 2)) w₃
      → w₄ ≡ f (bone_of (get_or rows (p + 3) [])) → d₄ ≡ sets d₃ (16 * (p + 3)) w₄ → Continues f rows p (p + 4) d d₄
  continues_four {rows} {d} {p = p} below room e₁ s₁ e₂ s₂ e₃ s₃ e₄ s₄ =
      let two : p + 1 + 1 ≡ p + 2 = omega arith in
      let three : p + 2 + 1 ≡ p + 3 = omega arith in
      let four : p + 3 + 1 ≡ p + 4 = omega arith in
      let c₁ = continues_more (omega (arith, below)) room (continues_none f rows p d) e₁ s₁ in
      let c₂ = rw two at (continues_more (omega (arith, below)) room c₁ e₂ s₂) in
      let c₃ = rw three at (continues_more (omega (arith, below)) room c₂ e₃ s₃) in
      rw four at (continues_more (omega (arith, below)) room c₃ e₄ s₄)

-- one stretch behind another
pub continues_on :
    {f : Bone Place → List ℕ} {rows : List (List ℕ)} {d d₁ d₂ : List ℕ} {p q r : ℕ} → Continues f rows p q d d₁ → Continues f rows q r d₁ d₂
    → Continues f rows p r d d₂
continues_on g h = record { same = h.same ∙ g.same; placed = λ d₀ k. h.placed d₀ (g.placed d₀ k) }

-- all of them
pub placed-all :
    {f : Bone Place → List ℕ} {rows : List (List ℕ)} {d₀ d : List ℕ} {p : ℕ} → p ≡ length rows → RowsPlaced f rows d₀ d p
    → d ≡ flat_map f (map bone_of rows) ++ drop (16 * length rows) d₀
placed-all {rows = rows} e h = rw take-length at (rw e at h.is)

pub continues_all :
    {f : Bone Place → List ℕ} {rows : List (List ℕ)} {d d' : List ℕ} → Continues f rows 0 (length rows) d d'
    → d' ≡ flat_map f (map bone_of rows) ++ drop (16 * length rows) d
continues_all {rows = rows} {d = d} h = placed-all refl (h.placed d (placed-none rows d))
