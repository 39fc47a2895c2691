-- Laws of the columns of the bones that the lists take from rows: the index of each bone, and the parents. Assumes nothing.
use Prim.Native.Nat.{ℕ, ◌+◌, ◌<◌, ◌≤◌}
use native.Mathlib.Omega.{arith}
use native.Mathlib.Numerals.{add-one}
use mathlib.Core.Path.{◌≡◌, refl, sym, ap, ◌∙◌}
use mathlib.Core.List.{List, [], ◌∷◌, ◌++◌, map}
use lib.ListN.{length, get_or, set, take, length-map}
use lib.Seq.{sets, length-take-le}
use Rattle.std.proofs.lemmas.List.{get_or-map, map_more}
use Rattle.format.specs.Section.{Place}
use Rattle.format.specs.Bone.{Bone}
use Rattle.format.specs.Children.{pair_at}
use Rattle.format.specs.Deriving.{parents}
use Rattle.format.specs.Rows.{bone_of, laid}
use Rattle.derive_children.specs.Indexing.{indices_of}
use Rattle.tables.proofs.Laid.{sets-laid}

-- ---- the indices

-- the index that the code reads is the column's
pub index_of_row :
    (rows : List (List ℕ)) (b : ℕ) {r : ℕ} → b < length rows → r ≡ (bone_of (get_or rows b [])).index → r ≡ get_or (indices_of rows) b 0
index_of_row rows b h e =
    e
    ∙ sym (get_or-map (λ (x : Bone Place). x.index) (map bone_of rows) b (bone_of []) 0 (omega (arith, h, length-map rows bone_of))
    ∙ ap (λ (x : Bone Place). x.index) (get_or-map bone_of rows b [] (bone_of []) h))

-- a bone's pair, as the code stores it
pub pair_put :
    (rows : List (List ℕ)) (ps out : List ℕ) (at b : ℕ) {r : ℕ} → b < length rows → r ≡ (bone_of (get_or rows b [])).index
    → set (set out at r) (at + 1) (get_or ps b 0) ≡ sets out at (pair_at (indices_of rows) ps b)
unfolding pair_at
pair_put rows ps out at b h e = rw (index_of_row rows b h e, add-one at)

-- ---- the parents

length-parents : (rows : List (List ℕ)) → length (parents (map bone_of rows)) ≡ length rows
length-parents rows = length-map (map bone_of rows) (λ (b : Bone Place). b.parent) ∙ length-map rows bone_of

map-append : {A B : Type 0} (f : A → B) (a b : List A) → map f (a ++ b) ≡ map f a ++ map f b
map-append f [] b = refl
map-append {B} f (x ∷ a) b = ap (λ (l : List B). f x ∷ l) (map-append f a b)

parents-more :
    (p : ℕ) (rows : List (List ℕ)) → p < length rows
    → parents (map bone_of (take (p + 1) rows)) ≡ parents (map bone_of (take p rows)) ++ ((bone_of (get_or rows p [])).parent ∷ [])
parents-more p rows h =
    ap (map (λ (b : Bone Place). b.parent)) (map_more bone_of rows p [] h)
    ∙ map-append (λ (b : Bone Place). b.parent) (map bone_of (take p rows)) (bone_of (get_or rows p []) ∷ [])

-- one parent more in a table that holds those below p
pub parents-next :
    (rows : List (List ℕ)) {out : List ℕ} (m p : ℕ) {r : ℕ} → p < length rows → length rows ≤ m → r ≡ (bone_of (get_or rows p [])).parent
    → out ≡ laid (parents (map bone_of (take p rows))) m → set out p r ≡ laid (parents (map bone_of (take (p + 1) rows))) m
parents-next rows m p h k e z =
    let l : length (parents (map bone_of (take p rows))) ≡ p =
    length-parents (take p rows) ∙ length-take-le p rows (omega arith) in
    rw (z, e, parents-more p rows h)
    (sets-laid ((bone_of (get_or rows p [])).parent ∷ []) (parents (map bone_of (take p rows))) m p l (omega arith))
