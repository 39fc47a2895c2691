-- A bone's words read back: the row that a bone was stored as holds that bone, and so do rows one behind the other.
-- Assumes nothing.
use Prim.Native.Nat.{ℕ, zero, suc, ◌+◌, ◌*◌, ◌/◌, ◌%◌, ◌^◌, ◌<◌}
use native.Mathlib.Omega.{arith}
use mathlib.Core.Path.{◌≡◌, refl, sym, ap}
use Rattle.std.specs.Prelude.{Option, None, Some}
use mathlib.Core.List.{List, [], ◌∷◌, ◌++◌, flat_map, append_assoc}
use lib.ListN.{length, get_or}
use lib.Seq.{drop_at}
use Rattle.format.specs.Section.{Place}
use Rattle.format.specs.Bone.{Bone}
use Rattle.format.specs.Rows.{pair, lower, upper, bone_width, bone_words, place_words, place_of, bone_of, bones_of}
use Rattle.rows.specs.Row.{PlaceFits, FitsRow}

-- ---- one bone

-- a 64-bit number from its two words
two_words_lem : (v : ℕ) → v % 2 ^ 32 + 2 ^ 32 * (v / 2 ^ 32) ≡ v
two_words_lem v = omega arith

place_at : (p : Place) → (p.address ≡ 0 → ⊥) → place_of p.address p.size ≡ Some p
unfolding place_of
place_at p h = at p.address refl
  where
    at : (a : ℕ) → a ≡ p.address → place_of a p.size ≡ Some p
    at zero e = absurd (h (sym e))
    at (suc a) e = ap (λ (k : ℕ). Some (record { address = k; size = p.size })) e

place-back :
    (o : Option Place) (rest : List ℕ) → PlaceFits o
    → (let w = place_words o ++ rest in place_of (get_or w 0 0 + 2 ^ 32 * get_or w 1 0) (get_or w 2 0 + 2 ^ 32 * get_or w 3 0)) ≡ o
unfolding place_of
place-back None rest h = refl
place-back (Some p) rest h = rw (two_words_lem p.address, two_words_lem p.size) (place_at p h)

-- two 16-bit fields from their word
lower-pair : (a b : ℕ) → a < 65536 → lower (pair a b) ≡ a
lower-pair a b h = omega arith

upper-pair : (a b : ℕ) → a < 65536 → upper (pair a b) ≡ b
upper-pair a b h = omega arith

pub read_back : (b : Bone Place) (rest : List ℕ) → FitsRow b → bone_of (bone_words b ++ rest) ≡ b
unfolding bone_of bone_words
read_back b rest h =
    let s₁ = lower-pair b.next_sibling b.parent h.sibling in
    let s₂ = upper-pair b.next_sibling b.parent h.sibling in
    let f₁ = lower-pair b.flags b.index h.flags in
    let f₂ = upper-pair b.flags b.index h.flags in
    let t₁ : lower b.tag ≡ b.tag = omega (arith, h.tag) in
    rw (s₁, s₂, place-back b.name rest h.name, f₁, f₂, t₁)

-- ---- bones one behind the other

length-place_words : (o : Option Place) → length (place_words o) ≡ 4
length-place_words None = refl
length-place_words (Some p) = refl

pub length-bone_words : (b : Bone Place) → length (bone_words b) ≡ bone_width
unfolding bone_words
length-bone_words b = rw length-place_words

-- each bone of a list fits
pub data AllFit : List (Bone Place) → Type 0 where
  fit_none : AllFit []
  fit-more : {b : Bone Place} {bs : List (Bone Place)} → FitsRow b → AllFit bs → AllFit (b ∷ bs)

pub bones_back_lem : {bs : List (Bone Place)} (rest : List ℕ) → AllFit bs → bones_of (length bs) (flat_map bone_words bs ++ rest) ≡ bs
unfolding bones_of flat_map
bones_back_lem rest fit_none = refl
bones_back_lem rest (fit-more {b} {bs} h hs) =
    simp (
      append_assoc,
      read_back b (flat_map bone_words bs ++ rest) h,
      drop_at (bone_words b) (flat_map bone_words bs ++ rest) bone_width (length-bone_words b),
      bones_back_lem rest hs,
    )
