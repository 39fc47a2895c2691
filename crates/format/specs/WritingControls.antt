-- Controls of writing (see `Controls`): the free words, pointers to nothing, the names that are taken, and the order of the refusals, which
-- the Rust has not: it is that of docs/FORMAT.md, "Who can cause a refusal". Of 3 there is one case alone, since many bones take long to
-- write. Definitions only.
use Rattle.std.specs.Prelude.{◌≡◌, ℕ, true, false, List, [], ◌∷◌, map, replicate}
use Rattle.std.specs.Prelude.{Option, None, Some}
use Rattle.format.specs.Result.{refused, done}
use Rattle.format.specs.Field.{field}
use Rattle.format.specs.Section.{Place}
use Rattle.format.specs.Bone.{Bone, words3, words4, minus_one}
use Rattle.format.specs.Deriving.{DeriveRoom}
use Rattle.format.specs.Layout.{layout}
use Rattle.format.specs.Write.{good_bytes, written}
use Rattle.format.specs.Program.{program_derive_room}
use Rattle.format.specs.TrialCases.{plain, no_free}
use Rattle.format.specs.ReadingControls.{halves, place_at}
use Rattle.format.specs.DerivingControls.{lent_rows}

-- tables of no rows
abbrev pub no_deriving : DeriveRoom
no_deriving = lent_rows 0 0 0 0 0 0 0

-- a root at rest, its name at a place
abbrev pub placed_bone : Option Place → Bone Place
placed_bone n =
    record {
      rotation = words4 0 0 0 0x3F80_0000;
      translation = words3 0 0 0;
      scale = words3 0x3F80_0000 0x3F80_0000 0x3F80_0000;
      next_sibling = minus_one;
      parent = minus_one;
      name = n;
      flags = 0;
      index = 0;
      tag = 0;
      kept = words4 0 0 0 0;
    }

-- a bone of this index and parent, with no name
abbrev pub indexed : (index parent : ℕ) → Bone Place
indexed i p =
    record {
      rotation = words4 0 0 0 0x3F80_0000;
      translation = words3 0 0 0;
      scale = words3 0x3F80_0000 0x3F80_0000 0x3F80_0000;
      next_sibling = minus_one;
      parent = p;
      name = None;
      flags = 0;
      index = i;
      tag = 0;
      kept = words4 0 0 0 0;
    }

-- 8,191 bones, the first its own child: 8,192 layers
abbrev pub many_children : List (Bone Place)
many_children = indexed minus_one minus_one ∷ replicate 8190 (indexed 1 0)

pub record WritingControls : Type 0 where
  -- the four free words lie at 28, 80, 84 and 88
  pub free_words : map (field 4 (layout [] (words4 1 2 3 4))) (28 ∷ 80 ∷ 84 ∷ 88 ∷ []) ≡ 1 ∷ 2 ∷ 3 ∷ 4 ∷ []
  -- one root has no buckets and no children: their pointers are 0
  pub one_root_pointers : map (field 8 (layout (plain minus_one 0 0 ∷ []) no_free)) (16 ∷ 64 ∷ []) ≡ 0 ∷ 0 ∷ []
  -- names of 255 bytes, of 256, and with a zero byte
  pub longest_name : map good_bytes ((replicate 255 65) ∷ (replicate 256 65) ∷ (65 ∷ 0 ∷ []) ∷ []) ≡ true ∷ false ∷ false ∷ []
  -- 65,536 bones: 2 goes before 4; 65,535 are not too many
  pub two_before_four : written (halves [] []) no_deriving 0 (replicate 65536 (placed_bone (Some (place_at 0x7000_0000 1)))) no_free ≡ refused 2
  pub most_bones : written (halves [] []) no_deriving 0 (replicate 65535 (placed_bone None)) no_free ≡ refused 1
  -- a name in neither half: 4 goes before 1
  pub four_before_one : written (halves [] []) no_deriving 0 (placed_bone (Some (place_at 0x7000_0000 1)) ∷ []) no_free ≡ refused 4
  -- the second of two bones has a name in neither half
  pub second_name :
      written (halves [] []) program_derive_room 10000 (placed_bone None ∷ placed_bone (Some (place_at 0x7000_0000 1)) ∷ []) no_free ≡ refused 4
  -- no tables and no buffer: 1 goes before 5
  pub one_before_five : written (halves [] []) no_deriving 0 (placed_bone None ∷ []) no_free ≡ refused 1
  -- 65,536 child entries and no buffer: 3 goes before 5
  pub three_before_five :
      written (halves [] []) (lent_rows 13297 8191 8191 8191 8191 65536 32768) 0 many_children no_free ≡ refused 3
  -- one root wants 352 bytes, and is written into just so many
  pub just_fits :
      written (halves [] []) program_derive_room 352 (placed_bone None ∷ []) no_free ≡ done (layout (plain minus_one 0 0 ∷ []) no_free)
  pub five : written (halves [] []) program_derive_room 351 (placed_bone None ∷ []) no_free ≡ refused 5
