-- What reading stores: the lent tables with the rows in them, and the pool (docs/FORMAT.md, "Finding bytes"). The pool serves any number of
-- readings: nothing here knows how many have used it. Definitions only.
use Rattle.std.specs.Prelude.{ℕ, Bool, cond, List, [], ◌∷◌, ◌++◌, length, take, drop, ltb, eqb}
use Rattle.std.specs.Prelude.{Option, None, Some}
use Rattle.format.specs.Result.{Res, done, ◌>>=◌, need}
use Rattle.format.specs.Section.{Place}
use Rattle.format.specs.Bone.{Bone, Words4}
use Rattle.format.specs.Deriving.{EntryRow}

-- ---- the four tables that a plain array is read into

pub data ListTable : Type 0 where
  inverse_table local_table parents_table children_table : ListTable

abbrev pub table_number : ListTable → ℕ
table_number inverse_table = 1
table_number local_table = 2
table_number parents_table = 3
table_number children_table = 4

-- bytes of a word, and words of a row: a matrix is one row of sixteen words
abbrev pub width : ListTable → ℕ
width inverse_table = 4
width local_table = 4
width parents_table = 2
width children_table = 2

abbrev pub words_per_row : ListTable → ℕ
words_per_row inverse_table = 16
words_per_row local_table = 16
words_per_row parents_table = 1
words_per_row children_table = 1

-- ---- rows

-- rows of one table: the first, and how many; of a list table, its words
pub record Rows : Type 0 where
  pub first : ℕ
  pub count : ℕ

-- how many rows a part has; an absent part has none
abbrev pub part_length : Option Rows → ℕ
part_length None = 0
part_length (Some r) = r.count

abbrev pub rows : ℕ → ℕ → Rows
rows f c = record { first = f; count = c }

-- what reading a skeleton gives: the fields that stay, and where each list stands that does
pub record SkeletonRow : Type 0 where
  -- the kind word, as it is stored
  pub kind : ℕ
  -- the four free words
  pub free : Words4
  -- the stored counts
  pub bucket_count : ℕ
  pub bone_count : ℕ
  pub child_count : ℕ
  pub buckets : Option Rows
  pub bones : Option Rows
  pub inverse : Option Rows
  pub local : Option Rows
  pub parents : Option Rows
  pub children : Option Rows

-- what an address can be read as
pub data Kind : Type 0 where
  skeleton buckets entry block bone string : Kind
  list : ListTable → Kind

-- both matrix lists are one kind, parents and children another
abbrev pub list_kind : ListTable → ℕ
list_kind inverse_table = 7
list_kind local_table = 7
list_kind parents_table = 8
list_kind children_table = 8

abbrev pub kind_number : Kind → ℕ
kind_number skeleton = 1
kind_number buckets = 2
kind_number entry = 3
kind_number block = 4
kind_number bone = 5
kind_number string = 6
kind_number (list t) = list_kind t

abbrev pub same_kind : Kind → Kind → Bool
same_kind k l = eqb (kind_number k) (kind_number l)

-- a row of the pool: an address, the kind read there, and the rows stored; a name's are its address and its size
pub record Pooled : Type 0 where
  pub address : ℕ
  pub kind : Kind
  pub stored : Rows

abbrev pub pooled : ℕ → Kind → Rows → Pooled
pooled va k r = record { address = va; kind = k; stored = r }

-- ---- the tables

-- a bucket is a link, as in an entry
pub record Chained : Type 0 where
  pub buckets : List ℕ
  pub entries : List EntryRow

-- the words of the four list tables
pub record Lists : Type 0 where
  pub inverse : List ℕ
  pub local : List ℕ
  pub parents : List ℕ
  pub children : List ℕ

-- `members` holds, for each bones block in turn, the rows of its bones in position order
pub record Tables : Type 0 where
  pub chained : Chained
  pub bones : List (Bone Place)
  pub members : List ℕ
  pub lists : Lists
  pub skeletons : List SkeletonRow
  pub pool : List Pooled

abbrev pub tables : Chained → List (Bone Place) → List ℕ → Lists → List SkeletonRow → List Pooled → Tables
tables c b m l s p = record { chained = c; bones = b; members = m; lists = l; skeletons = s; pool = p }

abbrev pub no_rows : Tables
no_rows =
    tables (record { buckets = []; entries = [] }) [] [] (record { inverse = []; local = []; parents = []; children = [] }) [] []

-- ---- storing a row

abbrev pub add_bucket : ℕ → Tables → Tables
add_bucket l t =
    tables (record { buckets = t.chained.buckets ++ (l ∷ []); entries = t.chained.entries }) t.bones t.members t.lists t.skeletons t.pool

abbrev pub add_entry : EntryRow → Tables → Tables
add_entry e t =
    tables (record { buckets = t.chained.buckets; entries = t.chained.entries ++ (e ∷ []) }) t.bones t.members t.lists t.skeletons t.pool

abbrev pub with_bones : List (Bone Place) → Tables → Tables
with_bones b t = tables t.chained b t.members t.lists t.skeletons t.pool

abbrev pub add_bone : Bone Place → Tables → Tables
add_bone b t = with_bones (t.bones ++ (b ∷ [])) t

abbrev pub add_member : ℕ → Tables → Tables
add_member r t = tables t.chained t.bones (t.members ++ (r ∷ [])) t.lists t.skeletons t.pool

abbrev pub add_skeleton : SkeletonRow → Tables → Tables
add_skeleton s t = tables t.chained t.bones t.members t.lists (t.skeletons ++ (s ∷ [])) t.pool

abbrev pub with_pool : List Pooled → Tables → Tables
with_pool p t = tables t.chained t.bones t.members t.lists t.skeletons p

-- the words of a list table, and the lists with more of them
abbrev pub words_in : ListTable → Lists → List ℕ
words_in inverse_table l = l.inverse
words_in local_table l = l.local
words_in parents_table l = l.parents
words_in children_table l = l.children

abbrev pub longer : ListTable → List ℕ → Lists → Lists
longer inverse_table w l = record { inverse = l.inverse ++ w; local = l.local; parents = l.parents; children = l.children }
longer local_table w l = record { inverse = l.inverse; local = l.local ++ w; parents = l.parents; children = l.children }
longer parents_table w l = record { inverse = l.inverse; local = l.local; parents = l.parents ++ w; children = l.children }
longer children_table w l = record { inverse = l.inverse; local = l.local; parents = l.parents; children = l.children ++ w }

abbrev pub add_words : ListTable → List ℕ → Tables → Tables
add_words k w t = tables t.chained t.bones t.members (longer k w t.lists) t.skeletons t.pool

-- the words of a stored list, a part of its table's
abbrev pub list_at : ListTable → Rows → Tables → List ℕ
list_at k r t = take r.count (drop r.first (words_in k t.lists))

-- ---- room

-- how many rows each lent table has room for
pub record Room : Type 0 where
  pub bones : ℕ
  pub buckets : ℕ
  pub entries : ℕ
  pub inverse : ℕ
  pub local : ℕ
  pub parents : ℕ
  pub children : ℕ
  pub pool : ℕ

abbrev pub list_room : ListTable → Room → ℕ
list_room inverse_table r = r.inverse
list_room local_table r = r.local
list_room parents_table r = r.parents
list_room children_table r = r.children

-- ---- the pool

-- what was read at an address
unfoldable pub find : ℕ → List Pooled → Option Pooled
find va [] = None
find va (p ∷ ps) = cond (eqb p.address va) (Some p) (find va ps)

-- a later row at the same address replaces the earlier
unfoldable pub replace : Pooled → List Pooled → List Pooled
replace q [] = []
replace q (p ∷ ps) = cond (eqb p.address q.address) (q ∷ ps) (p ∷ replace q ps)

-- a row of the pool, by what was found at its address: only a new address takes a new row
unfoldable pub put_over : Room → Pooled → Tables → Option Pooled → Res Tables
put_over room q t (Some p) = done (with_pool (replace q t.pool) t)
put_over room q t None = do
  u ← need 1 (ltb (length t.pool) room.pool)
  done (with_pool (t.pool ++ (q ∷ [])) t)

abbrev pub put : Room → ℕ → Kind → Rows → Tables → Res Tables
put room va k r t = put_over room (pooled va k r) t (find va t.pool)

-- what was read at an address as a kind: none where nothing was, 12 where another kind was
unfoldable pub as_kind : Kind → Option Pooled → Res (Option Rows)
as_kind k None = done None
as_kind k (Some p) = do
  u ← need 12 (same_kind p.kind k)
  done (Some p.stored)

abbrev pub read_as : Kind → ℕ → Tables → Res (Option Rows)
read_as k va t = as_kind k (find va t.pool)
