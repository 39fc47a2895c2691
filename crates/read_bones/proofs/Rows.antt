-- Laws of a bones table: the words of its rows, a row added. Assumes nothing.
use Rattle.std.proofs.Common.{◌≡◌, ℕ, ◌+◌, ◌-◌, ◌*◌, ◌/◌, ◌<◌, ◌≤◌, true, false, List, [], ◌∷◌, ◌++◌, length, replicate, sym, refl, ap, ◌∙◌, append_assoc, append-nil, arith, length-append, leb-false, leb-true}
use mathlib.Core.List.{flat_map}
use lib.ListN.{length-replicate}
use lib.Seq.{sets, length-sets}
use Rattle.format.specs.Section.{Place}
use Rattle.format.specs.Bone.{Bone}
use Rattle.format.specs.Rows.{laid, bone_width, bone_words}
use Rattle.tables.proofs.Laid.{sets-laid}
use Rattle.rows.specs.Row.{has_row, put_row}
use Rattle.rows.proofs.Storing.{put_row_lem}
use Rattle.rows.proofs.ReadBack.{length-bone_words}
use Rattle.read_bones.specs.Lent.{BonesIn}

abbrev pub words_of : List (Bone Place) → List ℕ
words_of bs = flat_map bone_words bs

pub length-words_of : (bs : List (Bone Place)) → length (words_of bs) ≡ bone_width * length bs
unfolding flat_map
length-words_of [] = refl
length-words_of (b ∷ bs) =
    length-append (bone_words b) (words_of bs) ∙ omega (arith, length-bone_words b, length-words_of bs)

pub words_of_snoc : (bs : List (Bone Place)) (x : Bone Place) → words_of (bs ++ (x ∷ [])) ≡ words_of bs ++ bone_words x
unfolding flat_map
words_of_snoc [] x = append-nil (bone_words x)
words_of_snoc (b ∷ bs) x =
    ap (λ (l : List ℕ). bone_words b ++ l) (words_of_snoc bs x) ∙ sym (append_assoc (bone_words b) (words_of bs) (bone_words x))

-- what begins a table fits into it
pub laid-fits : (w t : List ℕ) → t ≡ laid w (length t) → length w ≤ length t
laid-fits w t e =
    let l : length t ≡ length w + (length t - length w) =
    ap length e ∙ length-append w (replicate (length t - length w) 0)
    ∙ ap (λ (k : ℕ). length w + k) (length-replicate (length t - length w) 0)
    in
    omega arith

-- ---- a row added

pub has_row_lt : (b : List ℕ) (p : ℕ) → has_row b p ≡ true → p < length b / bone_width
has_row_lt b p e = let h = leb-true (bone_width * p + bone_width) (length b) e in omega arith

pub lacks_row_le : (b : List ℕ) (p : ℕ) → has_row b p ≡ false → length b / bone_width ≤ p
lacks_row_le b p e = let h = leb-false (bone_width * p + bone_width) (length b) e in omega arith

pub row_added :
    {b : List ℕ} {m : ℕ} {bs : List (Bone Place)} (x : Bone Place) → BonesIn b m bs → has_row b (length bs) ≡ true →
    BonesIn (put_row b (length bs) x) m (bs ++ (x ∷ []))
row_added {b} {m} {bs} x h e =
    let l = leb-true (bone_width * length bs + bone_width) (length b) e in
    let at : ℕ = bone_width * length bs in
    let same : length (sets b at (bone_words x)) ≡ length b = length-sets b at (bone_words x) in
    rw (put_row_lem b (length bs) x e)
    (record {
      size = ap (λ (k : ℕ). k / bone_width) same ∙ h.size;
      rows =
          ap (λ (z : List ℕ). sets z at (bone_words x)) h.rows
          ∙ sets-laid (bone_words x) (words_of bs) (length b) at (length-words_of bs) (rw (length-bone_words x) l)
          ∙ ap (λ (w : List ℕ). laid w (length b)) (sym (words_of_snoc bs x))
          ∙ ap (λ (k : ℕ). laid (words_of (bs ++ (x ∷ []))) k) (sym same);
    })
