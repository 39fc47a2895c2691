-- What the lent tables stand for while bones are read: some bones, and a pool. Definitions only.
use Rattle.std.specs.Prelude.{◌≡◌, ℕ, ◌/◌, ◌<◌, List, length}
use Rattle.std.specs.Prelude.{Some}
use mathlib.Core.List.{flat_map}
use Rattle.format.specs.Section.{Place}
use Rattle.format.specs.Bone.{Bone}
use Rattle.format.specs.Chains.{up_from}
use Rattle.format.specs.Tables.{kind_number, bone, string, Pooled, Tables, tables, Room, find}
use Rattle.format.specs.Rows.{laid, bone_width, bone_words}
use Rattle.blocks.specs.Hashed.{Represents}
use Rattle.tables.specs.Working.{SameTable}
use Rattle.read_bones.specs.declared.Tables as declared

-- the same tables are lent, each as long as it was
pub record SameTables (v w : declared.Tables) : Type 0 where
  pub bones : SameTable v.bones w.bones
  pub pool : SameTable v.pool w.pool

-- the table b of m rows holds the bones
pub record BonesIn (b : List ℕ) (m : ℕ) (bones : List (Bone Place)) : Type 0 where
  pub size : length b / bone_width ≡ m
  pub rows : b ≡ laid (flat_map bone_words bones) (length b)

-- the two tables hold the bones and the pool
pub record LentBones (room : Room) (bones : List (Bone Place)) (pool : List Pooled) (b p : List ℕ) : Type 0 where
  pub rows : BonesIn b room.bones bones
  pub held : Represents p room.pool pool

-- the tables with other bones, members and pool: all else that reading stores is as it was
abbrev pub leaving : Tables → List (Bone Place) → List ℕ → List Pooled → Tables
leaving t bones members pool = tables t.chained bones members t.lists t.skeletons pool

-- ---- what is asked of a pool

-- a row of the pool at the address a: a bone's lies before `at`, and a name's place is not at address 0
pub record Passed (at a : ℕ) (p : Pooled) : Type 0 where
  pub bones : kind_number p.kind ≡ kind_number bone → a < at
  pub names : kind_number p.kind ≡ kind_number string → 0 < p.stored.first

-- no bone from the address `at` on was read, as no single reading has when it comes to its bones; names are where they were found
pub record Unread (at : ℕ) (pool : List Pooled) : Type 0 where
  pub each : (a : ℕ) (p : Pooled) → find a pool ≡ Some p → Passed at a p

-- The members are all rows in order. It is so in a single reading, where no bone is read twice, and then no table of members is
-- lent: row i is member i. Readings that share their tables need such a table, lent beside the bones.
abbrev pub InOrder : Tables → Type 0
InOrder t = t.members ≡ up_from 0 (length t.bones)
