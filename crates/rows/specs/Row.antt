-- The rows of a table of bones, one behind the other from the table's first word on. Words that the table lacks are 0.
-- Definitions only.
use Rattle.std.specs.Prelude.{ℕ, ◌+◌, ◌*◌, ◌<◌, ◌≡◌, Bool, cond, List, length, get_or, drop, leb}
use Rattle.std.specs.Prelude.{Option, None, Some}
use Rattle.std.proofs.lemmas.List.Edits.{sets}
use Rattle.format.specs.Result.{Res, ◌>>=◌, need, done}
use Rattle.format.specs.Section.{Place}
use Rattle.format.specs.Bone.{Bone, Words3, Words4, words3, words4}
use Rattle.format.specs.Rows.{bone_width, bone_words, bone_of, bones_of}

-- the words from row p on
abbrev pub row_words : List ℕ → ℕ → List ℕ
row_words t p = drop (bone_width * p) t

-- the bone in row p
abbrev pub row_at : List ℕ → ℕ → Bone Place
row_at t p = bone_of (row_words t p)

-- three and four words of a row, from word i on
abbrev pub words3_from : List ℕ → ℕ → Words3
words3_from w i = words3 (get_or w i 0) (get_or w (i + 1) 0) (get_or w (i + 2) 0)

abbrev pub words4_from : List ℕ → ℕ → Words4
words4_from w i = words4 (get_or w i 0) (get_or w (i + 1) 0) (get_or w (i + 2) 0) (get_or w (i + 3) 0)

-- the bones in the first n rows; 2 above 65,535 of them, then 1 where the table has fewer
unfoldable pub bones_got : ℕ → List ℕ → Res (List (Bone Place))
bones_got n t = do
  u2 ← need 2 (leb n 65535)
  u1 ← need 1 (leb (bone_width * n) (length t))
  done (bones_of n t)

-- whether row p lies wholly in the table
abbrev pub has_row : List ℕ → ℕ → Bool
has_row t p = leb (bone_width * p + bone_width) (length t)

-- the table with a bone in row p, if it has that row
unfoldable pub put_row : List ℕ → ℕ → Bone Place → List ℕ
put_row t p b = cond (has_row t p) (sets t (bone_width * p) (bone_words b)) t

-- ---- bones that a row gives back as they were stored

-- a name's place is not at address 0, which stands for no name
abbrev pub PlaceFits : Option Place → Type 0
PlaceFits None = Unit
PlaceFits (Some p) = p.address ≡ 0 → ⊥

-- The lower of two fields in one word has no more than 16 bits, and so has the tag beside the free half.
pub record FitsRow (b : Bone Place) : Type 0 where
  pub sibling : b.next_sibling < 65536
  pub flags : b.flags < 65536
  pub tag : b.tag < 65536
  pub name : PlaceFits b.name
