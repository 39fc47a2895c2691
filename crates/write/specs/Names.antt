-- Names as the rows and the lent halves give them: what the writer stores, and what it answers of them. Definitions only.
use Rattle.std.specs.Prelude.{◌≡◌, ℕ, ◌+◌, ◌*◌, ◌≤◌, List, ◌++◌, length}
use Rattle.std.proofs.lemmas.List.Edits.{sets}
use Rattle.format.specs.Result.{Res, done, need, ◌>>=◌}
use Rattle.format.specs.Section.{Section, Place, name_bytes}
use Rattle.format.specs.Bone.{Bone, map_name}
use Rattle.format.specs.Rows.{bone_of}
use Rattle.format.specs.Layout.{Bytes, ended_name}
use Rattle.format.specs.Write.{good_names}
use Rattle.write.specs.Records.{takes_all}

-- the name of a row, ended by a zero; none where there is no name
abbrev pub name_in : Section → List ℕ → Bytes
name_in lent row = ended_name (map_name (name_bytes lent) (bone_of row).name)

-- the bytes that the names take, if all are good
unfoldable pub names_result : Section → List (Bone Place) → Res ℕ
names_result lent bones = do
  u ← need 4 (good_names lent bones)
  done (takes_all bones)

-- a table that holds n rows
pub record RowsHere (t : List ℕ) (n : ℕ) : Type 0 where
  pub rows : 21 * n ≤ length t
  pub few : n ≤ 65535

-- x stored from `at` on, and perhaps others behind it, up to `limit`
pub record StoredTo (limit : ℕ) (d₀ : List ℕ) (at : ℕ) (x d : List ℕ) : Type 0 where
  pub more : List ℕ
  pub room : at + length x + length more ≤ limit
  pub is : d ≡ sets d₀ at (x ++ more)
