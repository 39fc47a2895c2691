-- What reading each part of a skeleton promises, in one reading: its tables are zero before it, and hold the rows of the format's
-- tables after it (docs/FORMAT.md, "Reading and writing a skeleton"). Of a refusal the number alone is said. Definitions only.
use Rattle.format.specs.declared.Refusal.{Refusal}
use Rattle.std.specs.Prelude.{Err, Ok, Result}
use Rattle.std.specs.Prelude.{ℕ, ◌≤◌, ◌≡◌, length}
use Rattle.std.specs.Prelude.{Option, None, Some}
use mathlib.Core.List.{List, [], flat_map}
use Rattle.format.specs.Result.{refused, done, ◌>>=◌}
use Rattle.format.specs.Refusal.{number}
use Rattle.format.specs.Section.{Section, Place}
use Rattle.format.specs.Bone.{Bone}
use Rattle.format.specs.Chains.{up_from}
use Rattle.format.specs.Records as format
use Rattle.format.specs.Rows.{laid, cleared, entry_words}
use Rattle.format.specs.Tables.{part_length, kind_number, block, Rows, rows, Pooled, Chained, Tables, tables, Room, no_rows, find}
use Rattle.format.specs.Tables.{ListTable, words_in, longer, list_room}
use Rattle.format.specs.Read.{Step, read_bucket_array, read_bones_at, read_list, keep_columns}
use Rattle.blocks.specs.Hashed.{Represents}
use Rattle.read_chains.specs.Lent.{HoldsChains}
use Rattle.read_bones.specs.Lent.{BonesIn, LentBones, leaving, InOrder}
use Rattle.read_bones.specs.Bones.{Before}
use Rattle.read_lists.specs.Lists.{twin, rows_in, ListsStand}
use Rattle.read_lists.specs.Reads as lists
use Rattle.read_records.specs.Header.{meant_header}
use Rattle.read_records.specs.declared.header.Header.{Header}

-- the rows of a part: they are the first of its table
abbrev pub meant_part : (Option ℕ) → Option Rows
meant_part None = None
meant_part (Some n) = Some (rows 0 n)

-- how many rows it has
abbrev pub part_rows : (Option ℕ) → ℕ
part_rows p = part_length (meant_part p)

-- a part is no longer than its table's rows or words
abbrev pub Fits : (Option ℕ) → ℕ → Type 0
Fits None n = Unit {0}
Fits (Some k) n = k ≤ n

-- ---- buckets with chains

pub record ChainsLeft (room : Room) (g : Step (Option Rows)) (x : Option ℕ) (b e p : List ℕ) : Type 0 where
  pub t : Tables
  pub used : ℕ
  pub used_entries : ℕ
  pub is : g ≡ done (meant_part x, t)
  pub holds : HoldsChains room t used used_entries b e p

abbrev pub ChainsBy : Room → Step (Option Rows) → List ℕ → List ℕ → List ℕ → (Result (Option ℕ) Refusal) → Type 0
ChainsBy room g b e p (Ok x) = ChainsLeft room g x b e p
ChainsBy room g b e p (Err x) = g ≡ refused (number x)

pub record ReadsChains (sec : Section) (va n : ℕ) (r : Result (Option ℕ) Refusal) (b₀ b e₀ e p₀ p : List ℕ) : Type 0 where
  pub reads :
      (room : Room) → HoldsChains room no_rows 0 0 b₀ e₀ p₀ → ChainsBy room (read_bucket_array sec room va n no_rows) b e p r

-- ---- bones with names

-- no bones block was read
pub record NoBlock (q : List Pooled) : Type 0 where
  pub each : (a : ℕ) (x : Pooled) → find a q ≡ Some x → kind_number x.kind ≡ kind_number block → ⊥

pub record BonesLeft (room : Room) (t : Tables) (g : Step (Option Rows)) (x : Option ℕ) (b p : List ℕ) : Type 0 where
  -- the bones and the pool after it
  pub bones : List (Bone Place)
  pub pool : List Pooled
  pub is : g ≡ done (meant_part x, leaving t bones (up_from 0 (length bones)) pool)
  pub lent : LentBones room bones pool b p
  pub fits : Fits x (length bones)

abbrev pub BonesBy : Room → Tables → Step (Option Rows) → List ℕ → List ℕ → (Result (Option ℕ) Refusal) → Type 0
BonesBy room t g b p (Ok x) = BonesLeft room t g x b p
BonesBy room t g b p (Err x) = g ≡ refused (number x)

pub record ReadsBonesIn (sec : Section) (pointer n : ℕ) (r : Result (Option ℕ) Refusal) (b₀ b p₀ p : List ℕ) : Type 0 where
  pub reads : (room : Room) (t : Tables) → Before room t pointer 0 b₀ p₀ → InOrder t → NoBlock t.pool →
      BonesBy room t (read_bones_at sec room pointer n t) b p r

-- ---- a list

-- the tables with words more of a list, and another pool
abbrev pub listing : ListTable → List ℕ → List Pooled → Tables → Tables
listing l w q t = tables t.chained t.bones t.members (longer l w t.lists) t.skeletons q

pub record ListLeft
    (l : ListTable) (room : Room) (u : Tables) (g : Step (Option Rows)) (x : Option ℕ) (t₀ t p : List ℕ) : Type 0
  where
    -- the words read and the pool after it
    pub words : List ℕ
    pub pool : List Pooled
    pub is : g ≡ done (meant_part x, listing l words pool u)
    pub own : t ≡ laid (words_in l (longer l words u.lists)) (length t₀)
    pub held : Represents p room.pool pool
    pub lists : ListsStand (listing l words pool u)
    pub fits : Fits x (length (words_in l (longer l words u.lists)))

abbrev pub ListBy : ListTable → Room → Tables → Step (Option Rows) → List ℕ → List ℕ → List ℕ → (Result (Option ℕ) Refusal) → Type 0
ListBy l room u g t₀ t p (Ok x) = ListLeft l room u g x t₀ t p
ListBy l room u g t₀ t p (Err x) = g ≡ refused (number x)

pub record ReadsListIn (sec : Section) (l : ListTable) (va n : ℕ) (o : List ℕ) (r : Result (Option ℕ) Refusal) (t₀ t p₀ p : List ℕ) : Type 0 where
  pub reads : (room : Room) (u : Tables) → lists.LentList l room u 0 t₀ o p₀ →
      ListBy l room u (read_list sec room l va n u) t₀ t p r

-- ---- buckets, then bones

unfoldable pub read_rows : Section → Room → format.Header → Tables → Step (Option Rows × Option Rows)
read_rows sec room h t = do
  (bs, t1) ← read_bucket_array sec room h.buckets_at h.bucket_count t
  (ms, t2) ← read_bones_at sec room h.bones_at h.bone_count t1
  done ((bs, ms), t2)

-- the tables hold no rows
pub record RowsLent (room : Room) (o b e p : List ℕ) : Type 0 where
  pub holds : HoldsChains room no_rows 0 0 b e p
  pub bones : BonesIn o room.bones []

-- tables with buckets, entries, bones in order and a pool, and nothing else
abbrev pub rows_only : Chained → List (Bone Place) → List Pooled → Tables
rows_only c bones q = tables c bones (up_from 0 (length bones)) no_rows.lists [] q

pub record RowsLeft (room : Room) (g : Step (Option Rows × Option Rows)) (x y : Option ℕ) (o b e p : List ℕ) : Type 0 where
  -- the buckets and the entries, the bones and the pool after it
  pub chained : Chained
  pub bones : List (Bone Place)
  pub pool : List Pooled
  pub is : g ≡ done ((meant_part x, meant_part y), rows_only chained bones pool)
  pub own-bones : BonesIn o room.bones bones
  pub own-buckets : b ≡ laid chained.buckets (length b)
  pub own-entries : e ≡ laid (flat_map entry_words chained.entries) (length e)
  pub held : Represents p room.pool pool
  pub lists : ListsStand (rows_only chained bones pool)
  pub fits : Fits y (length bones)

abbrev pub RowsBy :
    Room → Step (Option Rows × Option Rows) → List ℕ → List ℕ → List ℕ → List ℕ → (Result (Option ℕ × Option ℕ) Refusal) → Type 0
RowsBy room g o b e p (Ok (x, y)) = RowsLeft room g x y o b e p
RowsBy room g o b e p (Err x) = g ≡ refused (number x)

pub record ReadsRows (sec : Section) (h : Header) (r : Result (Option ℕ × Option ℕ) Refusal) (o₀ o b₀ b e₀ e p₀ p : List ℕ) : Type 0 where
  pub reads : (room : Room) → RowsLent room o₀ b₀ e₀ p₀ → RowsBy room (read_rows sec room (meant_header h) no_rows) o b e p r

-- ---- a list, then the other of its kind

unfoldable pub read_pair : Section → Room → ListTable → (va n va' n' : ℕ) → Tables → Step (Option Rows × Option Rows)
read_pair sec room l va n va' n' t = do
  (is, t1) ← read_list sec room l va n t
  (ls, t2) ← read_list sec room (twin l) va' n' t1
  done ((is, ls), t2)

-- the two tables hold no words
pub record PairLent (l : ListTable) (room : Room) (u : Tables) (a b p : List ℕ) : Type 0 where
  pub pool : Represents p room.pool u.pool
  pub no_first : words_in l u.lists ≡ []
  pub no_second : words_in (twin l) u.lists ≡ []
  pub zero-first : a ≡ cleared (length a)
  pub zero-second : b ≡ cleared (length b)
  pub room-first : list_room l room ≡ rows_in l a
  pub room-second : list_room (twin l) room ≡ rows_in (twin l) b
  pub lists : ListsStand u

pub record PairLeft
    (l : ListTable) (room : Room) (u : Tables) (g : Step (Option Rows × Option Rows)) (x y : Option ℕ) (a₀ a b₀ b p : List ℕ) : Type 0
  where
    -- the words of the two and the pool after them
    pub first : List ℕ
    pub second : List ℕ
    pub pool : List Pooled
    pub is : g ≡ done ((meant_part x, meant_part y), listing (twin l) second pool (listing l first pool u))
    pub own_first : a ≡ laid first (length a₀)
    pub own-second : b ≡ laid second (length b₀)
    pub held : Represents p room.pool pool
    pub lists : ListsStand (listing (twin l) second pool (listing l first pool u))
    pub fits : Fits y (length second)

abbrev pub PairBy :
    ListTable → Room → Tables → Step (Option Rows × Option Rows) → List ℕ → List ℕ → List ℕ → List ℕ → List ℕ → (Result (Option ℕ × Option ℕ) Refusal) → Type 0
PairBy l room u g a₀ a b₀ b p (Ok (x, y)) = PairLeft l room u g x y a₀ a b₀ b p
PairBy l room u g a₀ a b₀ b p (Err x) = g ≡ refused (number x)

pub record ReadsPair (sec : Section) (l : ListTable) (va n va' n' : ℕ) (r : Result (Option ℕ × Option ℕ) Refusal) (a₀ a b₀ b p₀ p : List ℕ) : Type 0 where
  pub reads : (room : Room) (u : Tables) → PairLent l room u a₀ b₀ p₀ →
      PairBy l room u (read_pair sec room l va n va' n' u) a₀ a b₀ b p r

-- ---- the kept words

pub record KeepsPart (x y : Option ℕ) (local b₀ b : List ℕ) : Type 0 where
  pub keeps : (m : ℕ) (t : Tables) → BonesIn b₀ m t.bones → InOrder t → Fits x (length t.bones) →
      local ≡ laid t.lists.local (length local) → Fits y (length t.lists.local) →
      BonesIn b m (keep_columns (meant_part x) (meant_part y) t).bones
