-- Controls of single fields and of the rows of lent tables (see `Controls`): where each number lies in a row is docs/FORMAT.md's "Rows of the
-- lent tables". Definitions only.
use Rattle.std.specs.Prelude.{◌≡◌, ℕ, List, [], ◌∷◌, map, ◌++◌}
use Rattle.std.specs.Prelude.{Some}
use Rattle.format.specs.Field.{field_at, put_at}
use Rattle.format.specs.Section.{Place}
use Rattle.format.specs.Bone.{Bone, words3, words4}
use Rattle.format.specs.Deriving.{entry_row}
use Rattle.format.specs.Rows.{entry_words, bone_words, bones_of}
use Rattle.format.specs.Joints.{rotation_words, rotation_row, translation_words, translation_row}
use Rattle.format.specs.Controls.{edited}
use Rattle.format.specs.ReadingControls.{place_at}
use Rattle.format.specs.JointsControls.{rotation_of, rotation1, translation_of, translation1}

-- a bone whose words are all different
abbrev pub row_bone : Bone Place
row_bone =
    record {
      rotation = words4 1 2 3 4;
      translation = words3 5 6 7;
      scale = words3 8 9 10;
      next_sibling = 11;
      parent = 12;
      name = Some (place_at 0x5_0000_0006 0x7_0000_0008);
      flags = 13;
      index = 14;
      tag = 15;
      kept = words4 16 17 18 19;
    }

-- its row
abbrev pub row_of_bone : List ℕ
row_of_bone =
    1 ∷ 2 ∷ 3 ∷ 4 ∷ 5 ∷ 6 ∷ 7 ∷ 8 ∷
    9 ∷ 10 ∷ 0xC_000B ∷ 0xE_000D ∷ 15 ∷ 16 ∷ 17 ∷ 18 ∷
    19 ∷ 6 ∷ 5 ∷ 8 ∷ 7 ∷ []

pub record RowsControls : Type 0 where
  -- ---- fields in a slice of three bytes
  -- a field of 2 bytes is read at 0 and 1, and is 0 where it runs past the end
  pub reads_inside : map (field_at 2 (1 ∷ 2 ∷ 3 ∷ [])) (0 ∷ 1 ∷ 2 ∷ 3 ∷ []) ≡ 513 ∷ 770 ∷ 0 ∷ 0 ∷ []
  -- it is stored at 0 and 1, and a store past the end changes nothing
  pub stores_inside :
      map (λ a. put_at 2 (1 ∷ 2 ∷ 3 ∷ []) a 1284) (0 ∷ 1 ∷ 2 ∷ []) ≡ (4 ∷ 5 ∷ 3 ∷ []) ∷ (1 ∷ 4 ∷ 5 ∷ []) ∷ (1 ∷ 2 ∷ 3 ∷ []) ∷ []
  -- ---- rows
  -- a bone's words
  pub bone_laid : bone_words row_bone ≡ row_of_bone
  -- two rows are two bones; the upper half of the first's word 12 is not looked at
  pub bone_rows_back : bones_of 2 (edited ((12, 0xFFFF_000F) ∷ []) row_of_bone ++ row_of_bone) ≡ row_bone ∷ row_bone ∷ []
  -- an entry's words: tag, position, link
  pub entry_laid : entry_words (entry_row 1 2 3) ≡ 1 ∷ 2 ∷ 3 ∷ []
  -- a rotation limit's 49 words, and a translation limit's 16
  pub rotation_laid :
      rotation_words rotation1 ≡
      5 ∷ 101 ∷ 102 ∷ 103 ∷ 104 ∷ 105 ∷ 106 ∷ 200 ∷
      201 ∷ 202 ∷ 203 ∷ 204 ∷ 205 ∷ 206 ∷ 207 ∷ 208 ∷
      209 ∷ 210 ∷ 211 ∷ 212 ∷ 213 ∷ 214 ∷ 215 ∷ 216 ∷
      217 ∷ 218 ∷ 219 ∷ 220 ∷ 221 ∷ 222 ∷ 223 ∷ 224 ∷
      225 ∷ 226 ∷ 227 ∷ 228 ∷ 229 ∷ 230 ∷ 231 ∷ 232 ∷
      233 ∷ 234 ∷ 235 ∷ 236 ∷ 237 ∷ 238 ∷ 239 ∷ 240 ∷
      6 ∷ []
  pub translation_laid :
      translation_words translation1 ≡
      0x1_0007 ∷ 111 ∷ 112 ∷ 113 ∷ 114 ∷ 115 ∷ 116 ∷ 300 ∷
      301 ∷ 302 ∷ 303 ∷ 304 ∷ 305 ∷ 306 ∷ 307 ∷ 308 ∷ []
  -- and their rows are these limits again, with ids of 32 bits; the upper half of word 48 is not looked at
  pub rotation_row_back : rotation_row (edited ((48, 0xFFFF_0006) ∷ []) (rotation_words rotation1)) ≡ rotation1
  pub wide_row_back : rotation_row (rotation_words (rotation_of 0xFFFF_FFFF)) ≡ rotation_of 0xFFFF_FFFF
  pub translation_row_back : translation_row (translation_words (translation_of 0xFFFF_FFFF)) ≡ translation_of 0xFFFF_FFFF
