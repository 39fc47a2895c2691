-- Bones and their names as the rows give them: the words of a bone's record, the bytes that names take. Definitions only.
use Rattle.std.specs.Prelude.{ℕ, ◌+◌, ◌*◌, ◌/◌, ◌%◌, ◌≤◌, ◌<◌, List, [], ◌∷◌, ◌++◌, length, get_or, map}
use Rattle.std.specs.Prelude.{Option, None, Some}
use Rattle.format.specs.Field.{◌⊳◌, lay}
use Rattle.format.specs.Section.{Place}
use Rattle.format.specs.Bone.{Bone}
use Rattle.format.specs.Rows.{bone_of}
use Rattle.format.specs.Layout.{Bytes, pointer, bone_items, block_size}
use Rattle.format.specs.Section.{window}

-- the bytes that a name takes, with the zero behind it
abbrev pub takes : Option Place → ℕ
takes None = 0
takes (Some p) = p.size + 1

unfoldable pub takes_all : List (Bone Place) → ℕ
takes_all [] = 0
takes_all (b ∷ bs) = takes b.name + takes_all bs

-- the bones' records, their names lying one behind the other from an address on
unfoldable pub records : ℕ → List (Bone Place) → Bytes
records at [] = []
records at (b ∷ bs) = lay (bone_items b (pointer at (takes b.name))) ++ records (at + takes b.name) bs

-- the bones block; no bones, no block
unfoldable pub block : ℕ → List (Bone Place) → Bytes
block at [] = []
block at (b ∷ bs) = lay (4 ⊳ length (b ∷ bs) ∷ 4 ⊳ 0 ∷ 4 ⊳ 0 ∷ 4 ⊳ 0 ∷ []) ++ records at (b ∷ bs)

-- the words of a row's record, with the address of its name
unfoldable pub bone_record : List ℕ → ℕ → List ℕ
bone_record w at =
    get_or w 0 0 ∷ get_or w 1 0 ∷ get_or w 2 0 ∷ get_or w 3 0 ∷ get_or w 4 0 ∷ get_or w 5 0 ∷ get_or w 6 0 ∷ 0 ∷
    get_or w 7 0 ∷ get_or w 8 0 ∷ get_or w 9 0 ∷ 0x3F80_0000 ∷ get_or w 10 0 ∷ 0 ∷ at ∷ 0 ∷
    get_or w 11 0 ∷ (get_or w 12 0 % 65536 + get_or w 11 0 / 65536 * 65536) ∷ 0 ∷ 0 ∷ []

-- a row whose name has at most 255 bytes
abbrev pub ShortName : List ℕ → Type 0
ShortName row = takes (bone_of row).name ≤ 256

-- rows with such names, at most 65,535 of them
pub record ShortNames (rows : List (List ℕ)) : Type 0 where
  pub few : length rows ≤ 65535
  pub short : (p : ℕ) → p < length rows → ShortName (get_or rows p [])

-- room for the records of some rows from `at` on in `size` bytes, and addresses for their names
pub record BonesRoom (rows : List (List ℕ)) (at names size : ℕ) : Type 0 where
  pub names_short : ShortNames rows
  pub room : at + 80 * length rows ≤ size
  pub small : names + takes_all (map bone_of rows) ≤ window

-- the same for the whole block
pub record BlockRoom (rows : List (List ℕ)) (at names size : ℕ) : Type 0 where
  pub names_short : ShortNames rows
  pub room : at + block_size (length rows) ≤ size
  pub small : names + takes_all (map bone_of rows) ≤ window
