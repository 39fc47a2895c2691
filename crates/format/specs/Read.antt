-- `Skeleton::read` in its order: buckets with chains, bones with names, inverse, local, parents, children (docs/FORMAT.md, "Finding bytes"
-- and "Reading and writing a skeleton"). Definitions only.
use Rattle.std.specs.Prelude.{ℕ, zero, suc, ◌+◌, ◌-◌, ◌*◌, Bool, true, false, List, [], ◌∷◌, length, get_or, take, drop, leb, ltb, eqb}
use Rattle.std.specs.Prelude.{Option, None, Some}
use Rattle.format.specs.Result.{Res, refused, done, ◌>>=◌, need}
use Rattle.format.specs.Field.{words}
use Rattle.format.specs.Section.{Section, Place, cursor, part, array, name_at}
use Rattle.format.specs.Bone.{Bone, words4, keeping}
use Rattle.format.specs.Deriving.{entry_row}
use Rattle.format.specs.Tables.{ListTable, inverse_table, local_table, parents_table, children_table, table_number, width, words_per_row}
use Rattle.format.specs.Tables.{Kind, skeleton, buckets, entry, block, bone, string, list, same_kind}
use Rattle.format.specs.Tables.{Rows, rows, Pooled, SkeletonRow, Tables, Room, list_room}
use Rattle.format.specs.Tables.{with_bones, add_bone, add_member, add_bucket, add_entry, add_skeleton, words_in, add_words, list_at}
use Rattle.format.specs.Tables.{find, put, read_as}
use Rattle.format.specs.Records.{Header, header, bone_row, name_field, entry_tag, entry_position, entry_next, column_words}

-- what a reading step gives: its value, and the tables after it
abbrev pub Step : Type 0 → Type 0
Step A = Res (A × Tables)

-- a list with one element altered
unfoldable pub alter : {A : Type 0} → ℕ → (A → A) → List A → List A
alter n f [] = []
alter zero f (x ∷ xs) = f x ∷ xs
alter (suc n) f (x ∷ xs) = x ∷ alter n f xs

-- each bone takes column 4 of its matrix, while there are matrices
unfoldable pub take_columns : List ℕ → List ℕ → List (Bone Place) → List (Bone Place)
take_columns [] m bs = bs
take_columns (r ∷ rs) [] bs = bs
take_columns (r ∷ rs) (w ∷ ws) bs = take_columns rs (drop 15 ws) (alter r (keeping (column_words (w ∷ ws))) bs)

-- the tables once the bones that stand have taken column 4 of the local matrices that stand
abbrev pub keep_columns : Option Rows → Option Rows → Tables → Tables
keep_columns None l t = t
keep_columns (Some b) None t = t
keep_columns (Some b) (Some l) t =
    with_bones (take_columns (take b.count (drop b.first t.members)) (list_at local_table l t) t.bones) t

-- the row of a skeleton: the header's fields, and the lists that stand
abbrev pub skeleton_row : Header → (bs ms is ls ps cs : Option Rows) → SkeletonRow
skeleton_row h bs ms is ls ps cs =
    record {
      kind = h.kind;
      free = h.free;
      bucket_count = h.bucket_count;
      bone_count = h.bone_count;
      child_count = h.child_count;
      buckets = bs;
      bones = ms;
      inverse = is;
      local = ls;
      parents = ps;
      children = cs;
    }

-- no skeleton's row: the pool names a row that stands, so that this one is never given
abbrev pub no_skeleton : SkeletonRow
no_skeleton =
    record {
      kind = 0;
      free = words4 0 0 0 0;
      bucket_count = 0;
      bone_count = 0;
      child_count = 0;
      buckets = None;
      bones = None;
      inverse = None;
      local = None;
      parents = None;
      children = None;
    }

-- ---- links

-- the link to an entry that was read, by the rows found
abbrev pub link_of : Option Rows → Option ℕ
link_of None = None
link_of (Some s) = Some (suc s.first)

-- The link to an address: 0 for the address 0, the row for an entry already read. None where the entry there is yet to be read.
unfoldable pub link_to : ℕ → Tables → Res (Option ℕ)
link_to zero t = done (Some 0)
link_to (suc a) t = do
  r ← read_as entry (suc a) t
  done (link_of r)

-- Each step below that depends on what the pool holds is two functions: the second goes by cases on what was found.
module _ (sec : Section) (room : Room) where
  -- ---- chains

  -- the entry with bytes b, stored with its link; where the next entry is yet to be read, it will stand in the next row
  abbrev pub chain_from : (ℕ → Tables → Res Tables) → List ℕ → ℕ → Tables → Option ℕ → Res Tables
  chain_from next b n t (Some k) = done (add_entry (entry_row (entry_tag b) (entry_position b) k) t)
  chain_from next b n t None = next (entry_next b) (add_entry (entry_row (entry_tag b) (entry_position b) (suc (suc n))) t)

  -- The entry at an address and those behind it, up to a link 0 or an entry already read. `left` is the room left for entries.
  unfoldable pub read_chain : ℕ → ℕ → Tables → Res Tables
  read_chain zero va t = do
    b ← part sec va 16
    refused 1
  read_chain (suc left) va t = do
    b ← part sec va 16
    t'' ← put room va entry (rows (length t.chained.entries) 1) t
    l ← link_to (entry_next b) t''
    chain_from (λ a u. read_chain left a u) b (length t.chained.entries) t'' l

  unfoldable pub head_from : ℕ → Tables → Option ℕ → Step ℕ
  head_from va t (Some k) = done (k, t)
  head_from va t None = do
    t'' ← read_chain (room.entries - length t.chained.entries) va t
    done (suc (length t.chained.entries), t'')

  -- the link to a chain's head, read if it is yet to be
  unfoldable pub read_head : ℕ → Tables → Step ℕ
  read_head va t = do
    l ← link_to va t
    head_from va t l

  -- the buckets of some pointers, each stored after its chain
  unfoldable pub read_buckets : List ℕ → Tables → Res Tables
  read_buckets [] t = done t
  read_buckets (p ∷ ps) t = do
    (k, t'') ← read_head p t
    u ← need 1 (ltb (length t''.chained.buckets) room.buckets)
    read_buckets ps (add_bucket k t'')

  unfoldable pub buckets_from : ℕ → ℕ → Tables → Option Rows → Step (Option Rows)
  buckets_from va n t (Some s) = done (Some s, t)
  buckets_from va n t None = do
    b ← array sec va (8 * n)
    t'' ← read_buckets (words 8 n b) t
    t''' ← put room va buckets (rows (length t.chained.buckets) n) t''
    done (Some (rows (length t.chained.buckets) n), t''')

  unfoldable pub read_bucket_array : ℕ → ℕ → Tables → Step (Option Rows)
  read_bucket_array zero n t = done (None, t)
  read_bucket_array (suc a) n t = do
    r ← read_as buckets (suc a) t
    buckets_from (suc a) n t r

  -- ---- bones

  unfoldable pub name_from : ℕ → Tables → Option Rows → Step (Option Place)
  name_from va t (Some s) = done (Some (record { address = s.first; size = s.count }), t)
  name_from va t None = do
    p ← name_at sec va
    t'' ← put room va string (rows p.address p.size) t
    done (Some p, t'')

  unfoldable pub read_name : ℕ → Tables → Step (Option Place)
  read_name zero t = done (None, t)
  read_name (suc a) t = do
    r ← read_as string (suc a) t
    name_from (suc a) t r

  unfoldable pub bone_from : ℕ → Tables → Option Rows → Step ℕ
  bone_from va t (Some s) = done (s.first, t)
  bone_from va t None = do
    b ← part sec va 70
    (n, t'') ← read_name (name_field b) t
    u ← need 1 (ltb (length t''.bones) room.bones)
    t''' ← put room va bone (rows (length t''.bones) 1) t''
    done (length t''.bones, add_bone (bone_row b n) t''')

  -- the row of the bone at an address
  unfoldable pub read_bone : ℕ → Tables → Step ℕ
  read_bone va t = do
    r ← read_as bone va t
    bone_from va t r

  -- n bones one behind the other
  unfoldable pub read_bones : ℕ → ℕ → Tables → Res Tables
  read_bones zero va t = done t
  read_bones (suc n) va t = do
    (r, t'') ← read_bone va t
    read_bones n (va + 80) (add_member r t'')

  unfoldable pub block_from : ℕ → ℕ → Tables → Option Rows → Step (Option Rows)
  block_from va n t (Some s) = done (Some s, t)
  block_from va n t None = do
    p ← cursor sec va
    t'' ← read_bones n (va + 16) t
    t''' ← put room va block (rows (length t.members) n) t''
    done (Some (rows (length t.members) n), t''')

  -- the bones block
  unfoldable pub read_block : ℕ → ℕ → Tables → Step (Option Rows)
  read_block zero n t = done (None, t)
  read_block (suc a) n t = do
    r ← read_as block (suc a) t
    block_from (suc a) n t r

  -- from the pointer to the first bone
  unfoldable pub read_bones_at : ℕ → ℕ → Tables → Step (Option Rows)
  read_bones_at zero n t = done (None, t)
  read_bones_at (suc a) n t = do
    u ← need 13 (leb 16 (suc a))
    read_block (suc a - 16) n t

  -- ---- plain arrays

  -- words stored as new rows of a list table
  unfoldable pub store_list : ListTable → List ℕ → Tables → Step Rows
  store_list l w t = do
    u ← need 1 (leb (length (words_in l t.lists) + length w) (words_per_row l * list_room l room))
    done (rows (length (words_in l t.lists)) (length w), add_words l w t)

  -- a list read anew: n rows
  unfoldable pub read_new : ListTable → ℕ → ℕ → Tables → Step Rows
  read_new l va n t = do
    b ← array sec va (width l * words_per_row l * n)
    store_list l (words (width l) (words_per_row l * n) b) t

  -- a list of the same kind given again: one of the other table is copied
  unfoldable pub given_again : Bool → ListTable → ListTable → Rows → Tables → Step Rows
  given_again true l o s t = done (s, t)
  given_again false l o s t = store_list l (list_at o s t) t

  -- a list at an address that holds a list, by whether it is of the same kind
  unfoldable pub read_over : Bool → ListTable → ℕ → ℕ → ListTable → Rows → Tables → Step Rows
  read_over true l va n o s t = given_again (eqb (table_number l) (table_number o)) l o s t
  read_over false l va n o s t = read_new l va n t

  -- a list at an address that holds some kind: any other kind is no hindrance, and stays in the pool
  unfoldable pub read_over_kind : ListTable → ℕ → ℕ → Kind → Rows → Tables → Step Rows
  read_over_kind l va n (list o) s t = read_over (same_kind (list o) (list l)) l va n o s t
  read_over_kind l va n skeleton s t = read_new l va n t
  read_over_kind l va n buckets s t = read_new l va n t
  read_over_kind l va n entry s t = read_new l va n t
  read_over_kind l va n block s t = read_new l va n t
  read_over_kind l va n bone s t = read_new l va n t
  read_over_kind l va n string s t = read_new l va n t

  unfoldable pub list_from : ListTable → ℕ → ℕ → Tables → Option Pooled → Step (Option Rows)
  list_from l va n t None = do
    (r, t'') ← read_new l va n t
    t''' ← put room va (list l) r t''
    done (Some r, t''')
  list_from l va n t (Some p) = do
    (r, t'') ← read_over_kind l va n p.kind p.stored t
    done (Some r, t'')

  -- `read_struct_array`
  unfoldable pub read_list : ListTable → ℕ → ℕ → Tables → Step (Option Rows)
  read_list l zero n t = done (None, t)
  read_list l (suc a) n t = list_from l (suc a) n t (find (suc a) t.pool)

  -- ---- the skeleton

  unfoldable pub read_new_skeleton : ℕ → Tables → Step SkeletonRow
  read_new_skeleton root t0 = do
    h ← header sec root
    (bs, t1) ← read_bucket_array h.buckets_at h.bucket_count t0
    (ms, t2) ← read_bones_at h.bones_at h.bone_count t1
    (is, t3) ← read_list inverse_table h.inverse_at h.bone_count t2
    (ls, t4) ← read_list local_table h.local_at h.bone_count t3
    (ps, t5) ← read_list parents_table h.parents_at h.bone_count t4
    (cs, t6) ← read_list children_table h.children_at h.child_count t5
    t7 ← put room root skeleton (rows (length t6.skeletons) 1) (keep_columns ms ls t6)
    let s = skeleton_row h bs ms is ls ps cs in
        done (s, add_skeleton s t7)

  unfoldable pub skeleton_from : ℕ → Tables → Option Rows → Step (Option SkeletonRow)
  skeleton_from root t (Some s) = done (Some (get_or t.skeletons s.first no_skeleton), t)
  skeleton_from root t None = do
    (s, t'') ← read_new_skeleton root t
    done (Some s, t'')

  -- One reading, over the tables and the pool as other readings left them. Root 0 gives none.
  unfoldable pub read_skeleton : ℕ → Tables → Step (Option SkeletonRow)
  read_skeleton zero t = done (None, t)
  read_skeleton (suc a) t = do
    r ← read_as skeleton (suc a) t
    skeleton_from (suc a) t r
