-- The eight tables that a reading is lent, as one value: their room in rows, all of them zero, and with the rows of a reading.
-- Definitions only.
use Rattle.std.specs.Prelude.{ℕ, ◌/◌, List, length}
use Rattle.format.specs.Rows.{laid, cleared, bone_width, TableWords}
use Rattle.format.specs.Tables.{Room}
use Rattle.tables.specs.Working.{SameTable}
use Rattle.read_chains.specs.Lent.{entry_room}
use Rattle.read.specs.declared.Tables as declared

pub record Lent : Type 0 where
  pub bones : List ℕ
  pub buckets : List ℕ
  pub entries : List ℕ
  pub inverse : List ℕ
  pub local : List ℕ
  pub parents : List ℕ
  pub children : List ℕ
  pub pool : List ℕ

abbrev pub lent : (bones buckets entries inverse local parents children pool : List ℕ) → Lent
lent o b e i l p c q =
    record { bones = o; buckets = b; entries = e; inverse = i; local = l; parents = p; children = c; pool = q }

-- the words of the tables that are lent
abbrev pub lists : declared.Tables → Lent
lists t =
    lent t.bones.now t.buckets.now t.entries.now t.inverse.now t.local.now t.parents.now t.children.now t.pool.now

-- the same tables are lent, each as long as it was
pub record SameTables (v w : declared.Tables) : Type 0 where
  pub bones : SameTable v.bones w.bones
  pub buckets : SameTable v.buckets w.buckets
  pub entries : SameTable v.entries w.entries
  pub inverse : SameTable v.inverse w.inverse
  pub local : SameTable v.local w.local
  pub parents : SameTable v.parents w.parents
  pub children : SameTable v.children w.children
  pub pool : SameTable v.pool w.pool

-- how many rows each has: a bone has 21 words, a matrix sixteen, a row of the pool four
abbrev pub read_room : Lent → Room
read_room t =
    record {
      bones = length t.bones / bone_width;
      buckets = length t.buckets;
      entries = entry_room (length t.entries);
      inverse = length t.inverse / 16;
      local = length t.local / 16;
      parents = length t.parents;
      children = length t.children;
      pool = length t.pool / 4;
    }

-- zeros in every table
abbrev pub cleared_all : Lent → Lent
cleared_all t =
    lent (cleared (length t.bones)) (cleared (length t.buckets)) (cleared (length t.entries)) (cleared (length t.inverse))
    (cleared (length t.local)) (cleared (length t.parents)) (cleared (length t.children)) (cleared (length t.pool))

-- the rows in their tables, and zeros behind them; the pool's table is q
abbrev pub laid_all : TableWords → List ℕ → Lent → Lent
laid_all w q t =
    lent (laid w.bones (length t.bones)) (laid w.buckets (length t.buckets)) (laid w.entries (length t.entries))
    (laid w.inverse (length t.inverse)) (laid w.local (length t.local)) (laid w.parents (length t.parents))
    (laid w.children (length t.children)) q
