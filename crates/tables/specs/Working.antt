-- The tables that deriving fills, as the writer and the check lend them (docs/FORMAT.md: "The writer's and the check's derived tables are
-- working tables"): their words, the rows that they have room for, and that they are zero. Definitions only.
use Rattle.std.specs.Prelude.{ℕ, ◌/◌, ◌≡◌, List, length}
use Rattle.std.specs.Borrow.{MutBor}
use Rattle.format.specs.Deriving.{DeriveRoom}
use Rattle.format.specs.Rows.{cleared}
use Rattle.tables.specs.declared.working.Working as Lent

-- the words of each table
pub record Working : Type 0 where
  pub buckets : List ℕ
  pub entries : List ℕ
  pub inverse : List ℕ
  pub local : List ℕ
  pub parents : List ℕ
  pub children : List ℕ
  pub pending : List ℕ

abbrev pub working : List ℕ → List ℕ → List ℕ → List ℕ → List ℕ → List ℕ → List ℕ → Working
working b e i l p c q =
    record { buckets = b; entries = e; inverse = i; local = l; parents = p; children = c; pending = q }

-- the words of the tables that are lent
abbrev pub lists : Lent.Working → Working
lists w =
    working w.buckets.now w.entries.now w.inverse.now w.local.now w.parents.now w.children.now w.pending.now

-- the same table is lent, as long as it was
pub record SameTable (v w : MutBor (List ℕ)) : Type 0 where
  pub name : w.ghost_name ≡ v.ghost_name
  pub size : length w.now ≡ length v.now

pub record SameTables (v w : Lent.Working) : Type 0 where
  pub buckets : SameTable v.buckets w.buckets
  pub entries : SameTable v.entries w.entries
  pub inverse : SameTable v.inverse w.inverse
  pub local : SameTable v.local w.local
  pub parents : SameTable v.parents w.parents
  pub children : SameTable v.children w.children
  pub pending : SameTable v.pending w.pending

-- the rows of tables of so many words: an entry has three words, a matrix sixteen, a pending row two
abbrev pub derive_room : ℕ → ℕ → ℕ → ℕ → ℕ → ℕ → ℕ → DeriveRoom
derive_room buckets entries inverse local parents children pending =
    record {
      buckets = buckets;
      entries = entries / 3;
      inverse = inverse / 16;
      local = local / 16;
      parents = parents;
      children = children;
      pending = pending / 2;
    }

abbrev pub room_in : Working → DeriveRoom
room_in x =
    derive_room (length x.buckets) (length x.entries) (length x.inverse) (length x.local) (length x.parents)
    (length x.children) (length x.pending)

-- every table is zero
pub record Zeroed (x₀ x : Working) : Type 0 where
  pub buckets : x.buckets ≡ cleared (length x₀.buckets)
  pub entries : x.entries ≡ cleared (length x₀.entries)
  pub inverse : x.inverse ≡ cleared (length x₀.inverse)
  pub local : x.local ≡ cleared (length x₀.local)
  pub parents : x.parents ≡ cleared (length x₀.parents)
  pub children : x.children ≡ cleared (length x₀.children)
  pub pending : x.pending ≡ cleared (length x₀.pending)
