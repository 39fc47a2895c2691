-- Column 4 of the local matrices: the kept words of one row, and the loop of `keep_columns`. Assumes nothing.
use Rattle.std.proofs.Common.{◌≡◌, ℕ, zero, suc, ◌+◌, ◌-◌, ◌*◌, ◌/◌, ◌<◌, ◌≤◌, List, [], ◌∷◌, ◌++◌, length, get_or, take, drop, set, replicate, sym, refl, ap, ◌∙◌, append_assoc, suc-add, zero-add, arith, length-drop, drop_of_length-le, get_or-drop, drop-drop}
use mathlib.Core.List.{flat_map}
use mathlib.Core.Logic.{⊎_elim}
use Prim.Native.Nat.{min}
use Rattle.blocks.proofs.Cases.{le-or-lt}
use lib.Seq.{sets, length-sets, take-append-le}
use Rattle.format.specs.Section.{Place}
use Rattle.format.specs.Bone.{Bone, Words4, words4, keeping}
use Rattle.format.specs.Chains.{up_from}
use Rattle.format.specs.Records.{column_words}
use Rattle.format.specs.Rows.{laid, bone_width, bone_words}
use Rattle.format.specs.Read.{alter, take_columns}
use Rattle.rows.proofs.ReadBack.{length-bone_words}
use Rattle.read_bones.specs.Lent.{BonesIn}
use Rattle.read_bones.specs.Columns.{KeepsColumns}
use Rattle.read_bones.proofs.Rows.{words_of, length-words_of, laid-fits}

-- ---- stores behind a front

set-behind : (front rest : List ℕ) (i v : ℕ) → set (front ++ rest) (length front + i) v ≡ front ++ set rest i v
set-behind [] rest i v = rw zero-add refl
set-behind (x ∷ front) rest i v = rw suc-add (ap (λ (l : List ℕ). x ∷ l) (set-behind front rest i v))

sets_behind : (vs front rest : List ℕ) (i : ℕ) → sets (front ++ rest) (length front + i) vs ≡ front ++ sets rest i vs
sets_behind [] front rest i = refl
sets_behind (v ∷ vs) front rest i =
    let k : suc (length front + i) ≡ length front + suc i = omega arith in
    rw (set-behind front rest i v, k) (sets_behind vs front (set rest i v) (suc i))

-- ---- the kept words of one row

abbrev four_of : Words4 → List ℕ
four_of k = k.x ∷ k.y ∷ k.z ∷ k.w ∷ []

kept-front :
    (b : Bone Place) (rest : List ℕ) (k : Words4) → sets (bone_words b ++ rest) 13 (four_of k) ≡ bone_words (keeping k b) ++ rest
unfolding bone_words
kept-front b rest k = refl

kept-words :
    (bs : List (Bone Place)) (r : ℕ) (k : Words4) (rest : List ℕ) → r < length bs →
    sets (words_of bs ++ rest) (21 * r + 13) (four_of k) ≡ words_of (alter r (keeping k) bs) ++ rest
unfolding flat_map alter
kept-words [] r k rest h = absurd (omega arith)
kept-words (b ∷ bs) zero k rest h =
    rw (append_assoc (bone_words b) (words_of bs) rest)
    (kept-front b (words_of bs ++ rest) k ∙ sym (append_assoc (bone_words (keeping k b)) (words_of bs) rest))
kept-words (b ∷ bs) (suc r) k rest h =
    let i : 21 * suc r + 13 ≡ length (bone_words b) + (21 * r + 13) = omega (arith, length-bone_words b) in
    rw (append_assoc (bone_words b) (words_of bs) rest, i)
    (sets_behind (four_of k) (bone_words b) (words_of bs ++ rest) (21 * r + 13)
    ∙ ap (λ (l : List ℕ). bone_words b ++ l) (kept-words bs r k rest (omega arith))
    ∙ sym (append_assoc (bone_words b) (words_of (alter r (keeping k) bs)) rest))

pub length-alter : {A : Type 0} (r : ℕ) (f : A → A) (l : List A) → length (alter r f l) ≡ length l
unfolding alter
length-alter zero f [] = refl
length-alter zero f (x ∷ l) = refl
length-alter (suc r) f [] = refl
length-alter (suc r) f (x ∷ l) = ap suc (length-alter r f l)

row_kept :
    {b : List ℕ} {m : ℕ} {bs : List (Bone Place)} (r : ℕ) (k : Words4) → BonesIn b m bs → r < length bs →
    BonesIn (sets b (21 * r + 13) (four_of k)) m (alter r (keeping k) bs)
row_kept {b} {m} {bs} r k h l =
    let at : ℕ = 21 * r + 13 in
    let same : length (sets b at (four_of k)) ≡ length b = length-sets b at (four_of k) in
    let size : length (words_of (alter r (keeping k) bs)) ≡ length (words_of bs) =
    length-words_of (alter r (keeping k) bs) ∙ ap (λ (n : ℕ). bone_width * n) (length-alter r (keeping k) bs)
    ∙ sym (length-words_of bs)
    in
    record {
      size = ap (λ (n : ℕ). n / bone_width) same ∙ h.size;
      rows =
          ap (λ (z : List ℕ). sets z at (four_of k)) h.rows
          ∙ kept-words bs r k (replicate (length b - length (words_of bs)) 0) l
          ∙ ap (λ (n : ℕ). words_of (alter r (keeping k) bs) ++ replicate (length b - n) 0) (sym size)
          ∙ ap (λ (n : ℕ). laid (words_of (alter r (keeping k) bs)) n) (sym same);
    }

-- ---- one matrix

-- the matrix at the front, and no matrix
column_taken :
    (r : ℕ) (rs l : List ℕ) (bs : List (Bone Place)) → 0 < length l →
    take_columns (r ∷ rs) l bs ≡ take_columns rs (drop 16 l) (alter r (keeping (column_words l)) bs)
unfolding take_columns
column_taken r rs [] bs h = absurd (omega arith)
column_taken r rs (w ∷ l) bs h = refl

no_matrix : (rs : List ℕ) (bs : List (Bone Place)) → take_columns rs [] bs ≡ bs
unfolding take_columns
no_matrix [] bs = refl
no_matrix (r ∷ rs) bs = refl

no_bone : (l : List ℕ) (bs : List (Bone Place)) → take_columns [] l bs ≡ bs
unfolding take_columns
no_bone l bs = refl

from_row : (r n : ℕ) → 0 < n → up_from r n ≡ r ∷ up_from (r + 1) (n - 1)
unfolding up_from
from_row r zero h = absurd (omega arith)
from_row r (suc n) h =
    let i : suc r ≡ r + 1 = omega arith in
    let j : n ≡ suc n - 1 = omega arith in
    ap (λ (k : ℕ). r ∷ up_from k n) i ∙ ap (λ (k : ℕ). r ∷ up_from (r + 1) k) j

up_from-none : (r n : ℕ) → n ≡ 0 → up_from r n ≡ []
unfolding up_from
up_from-none r n e = rw e refl

take-up_from : (i n k : ℕ) → n ≤ k → take n (up_from i k) ≡ up_from i n
unfolding up_from
take-up_from i zero zero h = refl
take-up_from i zero (suc k) h = refl
take-up_from i (suc n) zero h = absurd (omega arith)
take-up_from i (suc n) (suc k) h = ap (λ (l : List ℕ). i ∷ l) (take-up_from (suc i) n k (omega arith))

-- ---- the loop

-- the first rows have taken their columns: what is left gives what the whole does
pub record Rest (n m row : ℕ) (l : List ℕ) (bs : List (Bone Place)) (b : List ℕ) : Type 0 where
  pub bones : List (Bone Place)
  pub rows : BonesIn b m bones
  pub size : length bones ≡ length bs
  pub left : take_columns (up_from 0 n) l bs ≡ take_columns (up_from row (n - row)) (drop (16 * row) l) bones

pub record Keeping (n : ℕ) (M b₀ : List ℕ) (row : ℕ) (b : List ℕ) : Type 0 where
  pub within : row ≤ n
  pub same : length b ≡ length b₀
  pub rest : (m : ℕ) (bs : List (Bone Place)) → BonesIn b₀ m bs → n ≤ length bs → Rest n m row M bs b

-- the rest, with its parts put another way
onward :
    (f r : ℕ) (bs : List (Bone Place)) {i j : ℕ} {k l : List ℕ} {c d : Words4} → c ≡ d → i ≡ j → k ≡ l →
    take_columns (up_from f i) k (alter r (keeping c) bs) ≡ take_columns (up_from f j) l (alter r (keeping d) bs)
onward f r bs ec ei ek = rw (ec, ei, ek) refl

-- M: the words of the matrices
module _ {n : ℕ} {M b₀ : List ℕ} {row : ℕ} {b : List ℕ} (g : Keeping n M b₀ row b) where
  pub keeping-more :
      {x y z w : ℕ} {b' : List ℕ} → row < n → 16 * row < length M →
      x ≡ get_or M (16 * row + 3) 0 → y ≡ get_or M (16 * row + 7) 0 →
      z ≡ get_or M (16 * row + 11) 0 → w ≡ get_or M (16 * row + 15) 0 →
      b' ≡ sets b (21 * row + 13) (x ∷ y ∷ z ∷ w ∷ []) → Keeping n M b₀ (row + 1) b'
  keeping-more {x} {y} {z} {w} {b'} l k ex ey ez ew eb =
      let at : ℕ = 16 * row in
      let column : column_words (drop at M) ≡ words4 x y z w =
      simp (get_or-drop at M 3 0, get_or-drop at M 7 0, get_or-drop at M 11 0, get_or-drop at M 15 0, ex, ey, ez, ew)
      in
      record {
        within = omega arith;
        same = ap length eb ∙ length-sets b (21 * row + 13) (x ∷ y ∷ z ∷ w ∷ []) ∙ g.same;
        rest =
            λ m bs h r.
            let d = g.rest m bs h r in
            let some_left : 0 < length (drop at M) = simp length-drop (omega arith) in
            let many : 0 < n - row = omega arith in
            let fewer : n - row - 1 ≡ n - (row + 1) = omega arith in
            let further : at + 16 ≡ 16 * (row + 1) = omega arith in
            let within : row < length d.bones = omega (arith, d.size) in
            record {
              bones = alter row (keeping (words4 x y z w)) d.bones;
              rows = rw eb (row_kept row (words4 x y z w) d.rows within);
              size = length-alter row (keeping (words4 x y z w)) d.bones ∙ d.size;
              left =
                  d.left ∙ ap (λ (rs : List ℕ). take_columns rs (drop at M) d.bones) (from_row row (n - row) many)
                  ∙ column_taken row (up_from (row + 1) (n - row - 1)) (drop at M) d.bones some_left
                  ∙ onward (row + 1) row d.bones column fewer (drop-drop 16 at M ∙ ap (λ (j : ℕ). drop j M) further);
            };
      }

  module _ {words : ℕ} {local : List ℕ} (front : M ≡ take words local) where
    -- all that is left is done
    ended :
        ((m : ℕ) (bs : List (Bone Place)) → BonesIn b₀ m bs → n ≤ length bs → (bones : List (Bone Place)) →
        take_columns (up_from row (n - row)) (drop (16 * row) M) bones ≡ bones) →
        KeepsColumns n words local b₀ b
    ended last =
        record {
          keeps =
              λ m t h o r el k.
              let L : List ℕ = t.lists.local in
              let d = g.rest m t.bones h r in
              let is : take_columns (up_from 0 n) M t.bones ≡ d.bones = d.left ∙ last m t.bones h r d.bones in
              let same : M ≡ take words L =
              front ∙ ap (take words) el ∙ take-append-le words L (replicate (length local - length L) 0) k
              in
              let ms : take n t.members ≡ up_from 0 n = ap (take n) o ∙ take-up_from 0 n (length t.bones) r in
              rw (ms, ← same, is) d.rows;
        }

    pub keeping_no_matrix : length M ≤ 16 * row → KeepsColumns n words local b₀ b
    keeping_no_matrix l =
        ended λ m bs h r bones. rw (drop_of_length-le M l) (no_matrix (up_from row (n - row)) bones)

    pub keeping_end : min n (length b₀ / bone_width) ≤ row → KeepsColumns n words local b₀ b
    keeping_end l =
        ended λ m bs h r bones.
        let fits = laid-fits (words_of bs) b₀ h.rows in
        let none : n - row ≡ 0 = ⊎_elim (λ s. omega arith) (λ s. omega (arith, length-words_of bs)) (le-or-lt n row) in
        rw (up_from-none row (n - row) none) (no_bone (drop (16 * row) M) bones)
