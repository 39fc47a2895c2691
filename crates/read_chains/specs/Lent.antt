-- What the lent tables stand for: the entries, the buckets and the pool of the format's tables, whatever tables these are
-- (docs/FORMAT.md, "Reading and writing a skeleton"). Definitions only.
use Rattle.std.specs.Prelude.{ℕ, ◌/◌, ◌<◌, ◌≡◌, cond, ltb, length}
use Rattle.std.specs.Prelude.{Some}
use mathlib.Core.List.{List, flat_map}
use Rattle.format.specs.Result.{Res, done}
use Rattle.format.specs.Tables.{entry, Rows, Pooled, Tables, Room, find, as_kind}
use Rattle.format.specs.Rows.{laid, entry_words}
use Rattle.blocks.specs.Hashed.{Represents}
use Rattle.tables.specs.Working.{SameTable}
use Rattle.read_chains.specs.declared.Tables as declared

-- the same tables are lent, each as long as it was
pub record SameTables (v w : declared.Tables) : Type 0 where
  pub buckets : SameTable v.buckets w.buckets
  pub entries : SameTable v.entries w.entries
  pub pool : SameTable v.pool w.pool

-- How many rows an entries table of n words has. Links are 32-bit words: rows from 2 ^ 32 - 2 on are not used, so that the link
-- to a row, and to the row behind it, is one. No section has so many addresses.
unfoldable pub entry_room : ℕ → ℕ
entry_room n = cond (ltb (n / 3) 4294967294) (n / 3) 4294967294

-- the link to each entry of the pool is a 32-bit word
pub record LinksFit (q : List Pooled) : Type 0 where
  pub fits : (a : ℕ) (s : Rows) → as_kind entry (find a q) ≡ done (Some s) → s.first < 4294967295

-- the table e holds the entries, `used` rows of it, and p the pool
pub record HoldsEntries (room : Room) (t : Tables) (used : ℕ) (e p : List ℕ) : Type 0 where
  pub pool : Represents p room.pool t.pool
  pub linked : LinksFit t.pool
  pub rows : room.entries ≡ entry_room (length e)
  pub count : used ≡ length t.chained.entries
  pub table : e ≡ laid (flat_map entry_words t.chained.entries) (length e)

-- besides, the table b holds the buckets, `used` rows of it
pub record HoldsChains (room : Room) (t : Tables) (used used_entries : ℕ) (b e p : List ℕ) : Type 0 where
  pub entries : HoldsEntries room t used_entries e p
  pub rows : room.buckets ≡ length b
  pub count : used ≡ length t.chained.buckets
  pub table : b ≡ laid t.chained.buckets (length b)

-- A reading comes to what some tables go on to give; H says what the lent tables then hold of these. The whole reading is done
-- where `k` is `done`.
pub record Comes {A : Type 0} (H : Tables → Type 0) (g : Res A) (k : Tables → Res A) : Type 0 where
  pub t : Tables
  pub is : g ≡ k t
  pub holds : H t
