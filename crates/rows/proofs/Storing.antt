-- Laws of a bone's row as it is stored: the words that the code makes are the bone's, and where they go. Assumes nothing.
use Prim.Native.Nat.{ℕ, ◌+◌, ◌-◌, ◌*◌, ◌/◌, ◌%◌, ◌^◌, ◌≤◌, ◌<◌}
use native.Mathlib.Omega.{arith}
use mathlib.Core.Path.{◌≡◌, sym, ◌∙◌}
use mathlib.Core.Bool.{true, false}
use mathlib.Core.List.{List, [], ◌∷◌}
use lib.ListN.{length}
use lib.Seq.{sets}
use borrow.Rule.Slice.PartMut.{put_mid}
use borrow.Author.Tests.{le-leb, lt-leb}
use Rattle.format.specs.Section as section
use Rattle.format.specs.Bone as format
use Rattle.format.specs.Rows.{pair, bone_width, bone_words, place_of}
use Rattle.fields.proofs.Stores.{put_mid-sets}
use Rattle.rows.specs.Row.{has_row, put_row}
use Rattle.rows.specs.Value.{our_place, meant_bone}
use Rattle.rows.specs.declared.Bone.{Bone}
use Rattle.format.specs.declared.Place.{Place}
use Rattle.rows.proofs.Words.{place_words_lem}

-- the words as the code makes them, from the bone, its name's place and the words made by calls
pub bone_words_made :
    (b : Bone) (n : Place) (links marks tag a₀ a₁ s₀ s₁ : ℕ)
    → n ≡ our_place (place_of b.name.address b.name.size)
    → links ≡ pair b.next_sibling b.parent → marks ≡ pair b.flags b.index → tag ≡ b.tag
    → a₀ ≡ n.address % 2 ^ 32 → a₁ ≡ n.address / 2 ^ 32 → s₀ ≡ n.size % 2 ^ 32 → s₁ ≡ n.size / 2 ^ 32
    → b.rotation.x ∷ b.rotation.y ∷ b.rotation.z ∷ b.rotation.w ∷ b.translation.x ∷ b.translation.y ∷ b.translation.z ∷
    b.scale.x ∷ b.scale.y ∷ b.scale.z ∷ links ∷ marks ∷ tag ∷ b.kept.x ∷ b.kept.y ∷ b.kept.z ∷ b.kept.w ∷
    a₀ ∷ a₁ ∷ s₀ ∷ s₁ ∷ []
    ≡ bone_words (meant_bone b)
unfolding bone_words meant_bone
bone_words_made b n links marks tag a₀ a₁ s₀ s₁ en el em et e₀ e₁ e₂ e₃ = rw (e₀, e₁, e₂, e₃, el, em, et, en, place_words_lem)

module _ (t : List ℕ) (p : ℕ) where
  pub has_row_lem : p < length t / bone_width → has_row t p ≡ true
  has_row_lem h = le-leb (bone_width * p + bone_width) (length t) (omega arith)

  pub lacks_row : length t / bone_width ≤ p → has_row t p ≡ false
  lacks_row h = lt-leb (bone_width * p + bone_width) (length t) (omega arith)

module _ (t : List ℕ) (p : ℕ) (b : format.Bone section.Place) where
  pub put_row_lem : has_row t p ≡ true → put_row t p b ≡ sets t (bone_width * p) (bone_words b)
  unfolding put_row
  put_row_lem e = rw e

  pub put-no_row : has_row t p ≡ false → put_row t p b ≡ t
  unfolding put_row
  put-no_row e = rw e

  -- the row written over
  pub put-done :
      {w x : List ℕ} → p < length t / bone_width → w ≡ bone_words b → length w ≡ bone_width → x ≡ w
      → put_mid (21 * p) (21 * (p + 1) - 21 * p) t x ≡ put_row t p b
  put-done {w} {x} h ew n e =
      let m : 21 * (p + 1) - 21 * p ≡ 21 = omega arith in
      rw (m, e) (put_mid-sets (21 * p) 21 t w n (omega arith) ∙ rw ew (sym (put_row_lem (has_row_lem t p h))))
