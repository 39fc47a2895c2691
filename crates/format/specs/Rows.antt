-- How lent tables hold rows: words one behind the other, zeros behind the last row (docs/FORMAT.md: "result tables are zero past their
-- rows"). A bone's row has no malformed state: each field has the width that its record gives it. Definitions only.
use Rattle.std.specs.Prelude.{ℕ, zero, suc, ◌+◌, ◌-◌, ◌*◌, ◌/◌, ◌%◌, ◌^◌, length, get_or, drop, replicate}
use Rattle.std.specs.Prelude.{Option, None, Some}
use mathlib.Core.List.{List, [], ◌∷◌, ◌++◌, flat_map}
use Rattle.format.specs.Section.{Place}
use Rattle.format.specs.Bone.{Bone, words3, words4}
use Rattle.format.specs.Deriving.{EntryRow}
use Rattle.format.specs.Tables.{Tables}

-- the table of n words that begins with some rows
abbrev pub laid : List ℕ → ℕ → List ℕ
laid words n = words ++ replicate (n - length words) 0

-- a table of n zeros, as every refusal leaves it
abbrev pub cleared : ℕ → List ℕ
cleared n = replicate n 0

-- ---- entries: three words; a bucket, a parent and a child entry are one word, and a matrix sixteen

abbrev pub entry_words : EntryRow → List ℕ
entry_words e = e.tag ∷ e.position ∷ e.link ∷ []

-- ---- bones: 21 words

-- two 16-bit fields in one word, the first in the lower half
abbrev pub pair : ℕ → ℕ → ℕ
pair a b = a + 65536 * b

abbrev pub lower : ℕ → ℕ
lower w = w % 65536

abbrev pub upper : ℕ → ℕ
upper w = w / 65536

-- a 64-bit number in two words, the lower first
abbrev pub two_words : ℕ → List ℕ
two_words v = v % 2 ^ 32 ∷ v / 2 ^ 32 ∷ []

-- the words of a name's place: no name is address 0
abbrev pub place_words : Option Place → List ℕ
place_words None = 0 ∷ 0 ∷ 0 ∷ 0 ∷ []
place_words (Some p) = two_words p.address ++ two_words p.size

abbrev pub bone_width : ℕ
bone_width = 21

-- Words 0 to 3 rotation, 4 to 6 translation, 7 to 9 scale, 10 next sibling and parent, 11 flags and index, 12 tag, 13 to 16 the kept
-- words, 17 and 18 the name's address, 19 and 20 its size.
unfoldable pub bone_words : Bone Place → List ℕ
bone_words b =
    b.rotation.x ∷ b.rotation.y ∷ b.rotation.z ∷ b.rotation.w ∷
    b.translation.x ∷ b.translation.y ∷ b.translation.z ∷
    b.scale.x ∷ b.scale.y ∷ b.scale.z ∷
    pair b.next_sibling b.parent ∷ pair b.flags b.index ∷ b.tag ∷
    b.kept.x ∷ b.kept.y ∷ b.kept.z ∷ b.kept.w ∷ place_words b.name

-- the place at an address of so many bytes; address 0 is no name, whatever the size
unfoldable pub place_of : ℕ → ℕ → Option Place
place_of zero n = None
place_of (suc a) n = Some (record { address = suc a; size = n })

-- The bone that a row holds, whatever its words. The upper half of word 12 is not looked at.
unfoldable pub bone_of : List ℕ → Bone Place
bone_of w =
    let at : ℕ → ℕ = λ i. get_or w i 0 in
    record {
      rotation = words4 (at 0) (at 1) (at 2) (at 3);
      translation = words3 (at 4) (at 5) (at 6);
      scale = words3 (at 7) (at 8) (at 9);
      next_sibling = lower (at 10);
      parent = upper (at 10);
      name = place_of (at 17 + 2 ^ 32 * at 18) (at 19 + 2 ^ 32 * at 20);
      flags = lower (at 11);
      index = upper (at 11);
      tag = lower (at 12);
      kept = words4 (at 13) (at 14) (at 15) (at 16);
    }

-- the bones of the first n rows of a table
unfoldable pub bones_of : ℕ → List ℕ → List (Bone Place)
bones_of zero t = []
bones_of (suc n) t = bone_of t ∷ bones_of n (drop bone_width t)

-- ---- what reading leaves in its result tables

-- the words of the rows of each table
pub record TableWords : Type 0 where
  pub bones : List ℕ
  pub buckets : List ℕ
  pub entries : List ℕ
  pub inverse : List ℕ
  pub local : List ℕ
  pub parents : List ℕ
  pub children : List ℕ

unfoldable pub table_words : Tables → TableWords
table_words t =
    record {
      bones = flat_map bone_words t.bones;
      buckets = t.chained.buckets;
      entries = flat_map entry_words t.chained.entries;
      inverse = t.lists.inverse;
      local = t.lists.local;
      parents = t.lists.parents;
      children = t.lists.children;
    }
