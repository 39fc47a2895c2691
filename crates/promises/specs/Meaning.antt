-- The words that demand 3 uses: a section that reads, tables that hold a reading, lists that equal those derived, the greatest position
-- bearing a tag, what was written and read back. Definitions only.
use Rattle.std.specs.Prelude.{◌≡◌, ◌≢◌, ℕ, zero, suc, ◌*◌, ◌^◌, ◌≤◌, ◌<◌, List, [], ◌∷◌, length, get_or, take, drop, T}
use Rattle.std.specs.Prelude.{Option, None, Some}
use Rattle.format.specs.Result.{Res, refused, done}
use Rattle.format.specs.Section.{Section, Place, window}
use Rattle.format.specs.Bone.{Bone, Words3, Words4}
use Rattle.format.specs.Chains.{Entry, entry_of, chains}
use Rattle.format.specs.Children.{children}
use Rattle.format.specs.Matrices.{inverses, locals}
use Rattle.format.specs.Deriving.{EntryRow, DeriveRoom, derives, tags, parents, indices}
use Rattle.format.specs.Tables.{inverse_table, local_table, parents_table, children_table, Rows, SkeletonRow, Tables, no_rows, Room}
use Rattle.format.specs.Read.{read_skeleton}
use Rattle.format.specs.Layout.{base}
use Rattle.format.specs.Write.{named}
use Rattle.format.specs.Check.{bones_read, list_read, no_entry, check}

-- ---- reading

-- The section reads, with some tables, to this skeleton and these rows: reading gives neither a refusal nor none.
pub record ReadsTo (sec : Section) (root : ℕ) (s : SkeletonRow) (t : Tables) : Type 0 where
  pub room : Room
  pub gives : read_skeleton sec room root no_rows ≡ done (Some s, t)

-- Tables that hold a reading have at least the rows that it uses. The pool has one row for each distinct address pooled.
pub record Holds (room : Room) (t : Tables) : Type 0 where
  pub bones : length t.bones ≤ room.bones
  pub buckets : length t.chained.buckets ≤ room.buckets
  pub entries : length t.chained.entries ≤ room.entries
  pub inverse : length t.lists.inverse ≤ 16 * room.inverse
  pub local : length t.lists.local ≤ 16 * room.local
  pub parents : length t.lists.parents ≤ room.parents
  pub children : length t.lists.children ≤ room.children
  pub pool : length t.pool ≤ room.pool

-- The tables lent for the check of a section, sized as docs/FORMAT.md says: whatever it reads to, they hold its reading and its deriving.
pub record Sized (sec : Section) (root : ℕ) (room : Room) (droom : DeriveRoom) : Type 0 where
  pub read : (s : SkeletonRow) (t : Tables) → ReadsTo sec root s t → Holds room t
  pub derive : (s : SkeletonRow) (t : Tables) → ReadsTo sec root s t → T (derives droom (length (bones_read s.bones t)))

-- ---- the lists read and those derived

-- the bucket links of a skeleton read; absent and empty are alike
abbrev pub links_read : Option Rows → Tables → List ℕ
links_read None t = []
links_read (Some r) t = take r.count (drop r.first t.chained.buckets)

-- a chain is the tags and positions met along its links until 0; every link that reading stores leads to a row
abbrev pub ChainFrom : List EntryRow → ℕ → List Entry → Type 0
ChainFrom es zero [] = Unit {0}
ChainFrom es zero (e ∷ c) = ⊥
ChainFrom es (suc r) [] = ⊥
ChainFrom es (suc r) (e ∷ c) =
    (e ≡ entry_of (get_or es r no_entry).tag (get_or es r no_entry).position) × ChainFrom es (get_or es r no_entry).link c

-- as many chains as links, each from its link
abbrev pub ChainsFrom : List EntryRow → List ℕ → List (List Entry) → Type 0
ChainsFrom es [] [] = Unit {0}
ChainsFrom es [] (c ∷ cs) = ⊥
ChainsFrom es (l ∷ ls) [] = ⊥
ChainsFrom es (l ∷ ls) (c ∷ cs) = ChainFrom es l c × ChainsFrom es ls cs

-- the chains, parents, children and matrices read equal those derived from the bones
pub record Derived (bones : List (Bone Place)) (s : SkeletonRow) (t : Tables) : Type 0 where
  pub same_chains : ChainsFrom t.chained.entries (links_read s.buckets t) (chains (tags bones))
  pub same_parents : list_read parents_table s.parents t ≡ parents bones
  pub same_children : list_read children_table s.children t ≡ children (indices bones) (parents bones)
  pub same_inverse : list_read inverse_table s.inverse t ≡ inverses bones
  pub same_local : list_read local_table s.local t ≡ locals bones

-- the section reads, and what it reads to equals what is derived from the bones read
pub record Sound (sec : Section) (root : ℕ) : Type 0 where
  pub skeleton : SkeletonRow
  pub tables : Tables
  pub reads : ReadsTo sec root skeleton tables
  pub derived : Derived (bones_read skeleton.bones tables) skeleton tables

-- the check says ok
pub record Accepts (sec : Section) (room : Room) (droom : DeriveRoom) (root : ℕ) : Type 0 where
  pub count : ℕ
  pub says : check sec room droom root ≡ done (Some count)

-- ---- tags

-- the greatest position bearing a tag: it bears it, and no greater position does
pub record IsGreatest (ts : List ℕ) (tag p : ℕ) : Type 0 where
  pub stands : p < length ts
  pub bears : get_or ts p 0 ≡ tag
  pub last : (q : ℕ) → p < q → q < length ts → get_or ts q 0 ≢ tag

abbrev pub NoneBears : List ℕ → ℕ → Type 0
NoneBears ts tag = (q : ℕ) → q < length ts → get_or ts q 0 ≢ tag

-- A lookup's answer is right: the greatest position bearing the tag, or none where no bone bears it. No refusal is right.
abbrev pub Right : List ℕ → ℕ → Res (Option ℕ) → Type 0
Right ts tag (done (Some p)) = IsGreatest ts tag p
Right ts tag (done None) = NoneBears ts tag
Right ts tag (refused n) = ⊥

-- ---- what the writer takes: numbers that fit their fields, which typed rows always hold

abbrev pub Fits3 : Words3 → Type 0
Fits3 v = (v.x < 256 ^ 4) × (v.y < 256 ^ 4) × (v.z < 256 ^ 4)

abbrev pub Fits4 : Words4 → Type 0
Fits4 v = (v.x < 256 ^ 4) × (v.y < 256 ^ 4) × (v.z < 256 ^ 4) × (v.w < 256 ^ 4)

pub record BoneFits {N : Type 0} (b : Bone N) : Type 0 where
  pub rotation : Fits4 b.rotation
  pub translation : Fits3 b.translation
  pub scale : Fits3 b.scale
  pub next_sibling : b.next_sibling < 256 ^ 2
  pub parent : b.parent < 256 ^ 2
  pub flags : b.flags < 256 ^ 2
  pub index : b.index < 256 ^ 2
  pub tag : b.tag < 256 ^ 2
  pub kept : Fits4 b.kept

-- ---- written and read back

-- The written section reads back these bones, whose names lie in the lent halves: as many, in order, every stored field, the kept words
-- and the name's bytes equal, no name and an empty name being two. It is accepted with any tables that hold its reading and its deriving.
pub record ReadsBack (lent : Section) (bones : List (Bone Place)) (free : Words4) (sec : Section) : Type 0 where
  pub skeleton : SkeletonRow
  pub tables : Tables
  pub reads : ReadsTo sec base skeleton tables
  pub same : named sec (bones_read skeleton.bones tables) ≡ named lent bones
  pub kind_word : skeleton.kind ≡ 1080114336
  pub free_words : skeleton.free ≡ free
  pub accepted :
      (room : Room) (droom : DeriveRoom) → Holds room tables → T (derives droom (length bones)) →
      check sec room droom base ≡ done (Some (length bones))
  -- every address lies in the window of the system half
  pub addresses : length sec.system < window
