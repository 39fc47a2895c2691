-- The rows of the bones, their names put as places one behind the other; with the bytes found there they are the bones again, but
-- for column 4. Assumes nothing.
use mathlib.Core.Path.{◌≡◌, refl, ap, ◌∙◌}
use Prim.Native.Nat.{ℕ, suc, ◌+◌, ◌<◌}
use native.Mathlib.Nat.{add_assoc}
use mathlib.Core.List.{List, [], ◌∷◌, map, flat_map}
use lib.ListN.{length}
use Rattle.format.specs.Section.{Place, window, name_bytes}
use Rattle.format.specs.Bone.{Bone, words4, keeping, naming}
use Rattle.format.specs.Layout.{Bytes, NamedBone, base, ended_name, all_names}
use Rattle.format.proofs.Names.{placed, optional_back}
use Rattle.format.proofs.Parts.{At, at_first, at_second, alone}

-- ---- where the names lie

-- the row that a bone is read to, its name lying at an address; column 4 is not known yet
abbrev pub placed_row : ℕ → NamedBone → Bone Place
placed_row at b = keeping (words4 0 0 0 0) (naming (placed at) b)

-- the rows of bones whose names lie one behind the other
abbrev pub placed_rows : ℕ → List NamedBone → List (Bone Place)
placed_rows at [] = []
placed_rows at (b ∷ bs) = placed_row at b ∷ placed_rows (at + length (ended_name b.name)) bs

pub length-placed_rows : (at : ℕ) (bs : List NamedBone) → length (placed_rows at bs) ≡ length bs
length-placed_rows at [] = refl
length-placed_rows at (b ∷ bs) = ap suc (length-placed_rows (at + length (ended_name b.name)) bs)

-- ---- their bytes

module _ (sys gfx : Bytes) (small : length sys < window) where
  -- the rows with their names' bytes are the bones, but for column 4
  pub names-back :
      (off : ℕ) (bs : List NamedBone) → At sys off (all_names bs) →
      map (naming (name_bytes (alone sys gfx))) (placed_rows (base + off) bs) ≡ map (keeping (words4 0 0 0 0)) bs
  unfolding all_names flat_map
  names-back off [] a = refl
  names-back off (b ∷ bs) a =
      let m = length (ended_name b.name) in
      let n = optional_back sys gfx small off b.name (at_first (ended_name b.name) (all_names bs) a) in
      let here : naming (name_bytes (alone sys gfx)) (placed_row (base + off) b) ≡ keeping (words4 0 0 0 0) b =
      λ i.
      record {
        rotation = b.rotation;
        translation = b.translation;
        scale = b.scale;
        next_sibling = b.next_sibling;
        parent = b.parent;
        name = n i;
        flags = b.flags;
        index = b.index;
        tag = b.tag;
        kept = words4 0 0 0 0;
      } in
      let there =
      ap (λ v. map (naming (name_bytes (alone sys gfx))) (placed_rows v bs)) (add_assoc base off m)
      ∙ names-back (off + m) bs (at_second (ended_name b.name) (all_names bs) a) in
      λ i. here i ∷ there i
