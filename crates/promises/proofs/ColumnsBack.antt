-- Each bone takes column 4 of its local matrix, which is its kept words; and then the rows are the bones. Assumes nothing.
use mathlib.Core.Path.{◌≡◌, refl, sym, ap, ◌∙◌}
use Prim.Native.Nat.{ℕ, suc}
use native.Mathlib.Omega.{arith}
use Rattle.std.specs.Prelude.{Some}
use mathlib.Core.List.{List, [], ◌∷◌, ◌++◌, map, flat_map, append_assoc, nil≢cons, head-eq_of_cons-eq, tail-eq_of_cons-eq}
use lib.ListN.{length}
use Rattle.math.specs.Matrix.{from_quat_pos}
use Rattle.format.specs.Section.{Place}
use Rattle.format.specs.Bone.{Bone, words4, keeping, naming}
use Rattle.format.specs.Chains.{up_from}
use Rattle.format.specs.Matrices.{bone_at, local_of, locals}
use Rattle.format.specs.Read.{alter, take_columns}
use Rattle.format.specs.Layout.{Bytes, NamedBone}
use Rattle.format.specs.Check.{add_some, gather}
use Rattle.promises.proofs.ChainsBack.{length-snoc}

-- ---- columns

alter_seam :
    {A : Type 0} (f : A → A) (front : List A) (x : A) (rest : List A) →
    alter (length front) f (front ++ (x ∷ rest)) ≡ front ++ (f x ∷ rest)
unfolding alter
alter_seam f [] x rest = refl
alter_seam {A} f (y ∷ front) x rest = ap {B = List A} (λ l. y ∷ l) (alter_seam f front x rest)

-- the rows with the kept words of the bones
abbrev pub kept_rows : List NamedBone → List (Bone Place) → List (Bone Place)
kept_rows [] rs = rs
kept_rows (b ∷ bs) [] = []
kept_rows (b ∷ bs) (r ∷ rs) = keeping b.kept r ∷ kept_rows bs rs

pub length-kept_rows : (bs : List NamedBone) (rs : List (Bone Place)) → length (kept_rows bs rs) ≡ length rs
length-kept_rows [] rs = refl
length-kept_rows (b ∷ bs) [] = refl
length-kept_rows (b ∷ bs) (r ∷ rs) = ap suc (length-kept_rows bs rs)

-- column 4 of the local matrix that is derived for a bone is its kept words
column_kept :
    (b : NamedBone) (rest : List ℕ) (r : ℕ) (rs : List ℕ) (bs : List (Bone Place)) →
    take_columns (r ∷ rs) (local_of b ++ rest) bs ≡ take_columns rs rest (alter r (keeping b.kept) bs)
unfolding take_columns local_of from_quat_pos
column_kept b rest r rs bs = refl

no_columns : (l : List (Bone Place)) → take_columns [] [] l ≡ l
unfolding take_columns
no_columns l = refl

pub columns_back :
    (bs : List NamedBone) (front rs : List (Bone Place)) → length rs ≡ length bs →
    take_columns (up_from (length front) (length bs)) (locals bs) (front ++ rs) ≡ front ++ kept_rows bs rs
unfolding locals flat_map up_from
columns_back [] front rs e = no_columns (front ++ rs)
columns_back (b ∷ bs) front [] e = absurd (omega (arith, e))
columns_back (b ∷ bs) front (r ∷ rs) e =
    let kept = keeping b.kept r in
    let more = up_from (suc (length front)) (length bs) in
    column_kept b (locals bs) (length front) more (front ++ (r ∷ rs))
    ∙ ap (take_columns more (locals bs)) (alter_seam (keeping b.kept) front r rs ∙ sym (append_assoc front (kept ∷ []) rs))
    ∙ ap (λ k. take_columns (up_from k (length bs)) (locals bs) ((front ++ (kept ∷ [])) ++ rs)) (sym (length-snoc front kept))
    ∙ columns_back bs (front ++ (kept ∷ [])) rs (omega (arith, e))
    ∙ append_assoc front (kept ∷ []) (kept_rows bs rs)

-- ---- rows

bone_at_seam :
    (front : List (Bone Place)) (r : Bone Place) (rs : List (Bone Place)) → bone_at (front ++ (r ∷ rs)) (length front) ≡ Some r
unfolding bone_at
bone_at_seam [] r rs = refl
bone_at_seam (x ∷ front) r rs = bone_at_seam front r rs

-- the bones of the rows from i on are the rows themselves
gather-all : (front rs : List (Bone Place)) → gather (front ++ rs) (up_from (length front) (length rs)) ≡ rs
unfolding gather up_from
gather-all front [] = refl
gather-all front (r ∷ rs) =
    let more = up_from (suc (length front)) (length rs) in
    ap (λ o. add_some o (gather (front ++ (r ∷ rs)) more)) (bone_at_seam front r rs)
    ∙ ap {B = List (Bone Place)} (λ l. r ∷ l) (ap (λ l. gather l more) (sym (append_assoc front (r ∷ []) rs))
    ∙ ap (λ k. gather ((front ++ (r ∷ [])) ++ rs) (up_from k (length rs))) (sym (length-snoc front r))
    ∙ gather-all (front ++ (r ∷ [])) rs)

pub gathered : (rs : List (Bone Place)) → gather rs (up_from 0 (length rs)) ≡ rs
gathered rs = gather-all [] rs

-- with the kept words they are the bones
pub kept-named :
    (f : Place → Bytes) (bs : List NamedBone) (rs : List (Bone Place)) → map (naming f) rs ≡ map (keeping (words4 0 0 0 0)) bs →
    map (naming f) (kept_rows bs rs) ≡ bs
kept-named f [] rs e = e
kept-named f (b ∷ bs) [] e = absurd (nil≢cons e)
kept-named f (b ∷ bs) (r ∷ rs) e =
    let h : naming f r ≡ keeping (words4 0 0 0 0) b = head-eq_of_cons-eq e in
    let t : map (naming f) rs ≡ map (keeping (words4 0 0 0 0)) bs = tail-eq_of_cons-eq e in
    let here : naming f (keeping b.kept r) ≡ b = ap (keeping b.kept) h in
    let there = kept-named f bs rs t in
    λ i. here i ∷ there i
