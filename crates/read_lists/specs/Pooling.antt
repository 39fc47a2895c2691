-- How a list comes into its table, by what the pool has at its address (docs/FORMAT.md, "Finding bytes"). Definitions only.
use Rattle.std.specs.Prelude.{ℕ, ◌≡◌, Bool, true, false, List, eqb}
use Rattle.std.specs.Prelude.{Option, None, Some}
use Rattle.format.specs.Tables.{ListTable, table_number, Kind, skeleton, buckets, entry, block, bone, string, list, same_kind}
use Rattle.format.specs.Tables.{Rows, Pooled, find}
use Rattle.blocks.specs.Hashed.{Represents}
use Rattle.blocks.specs.declared.pool.Stored.{Stored}
use Rattle.read_lists.specs.declared.pooling.Way.{Way}
use Rattle.read_lists.specs.declared.pooling.Way.TheVariants.{Again, Copy, Over, New}

-- where the rows of a list are stored
abbrev pub stored_rows : Rows → Stored
stored_rows s = record { first = s.first; count = s.count }

-- by whether a list is of the kind, and in the table
abbrev pub way_by : Bool → Bool → Rows → Way
way_by true true s = Again (stored_rows s)
way_by true false s = Copy (stored_rows s)
way_by false b s = Over

abbrev pub way_over : ListTable → Kind → Rows → Way
way_over l (list o) s = way_by (same_kind (list o) (list l)) (eqb (table_number l) (table_number o)) s
way_over l skeleton s = Over
way_over l buckets s = Over
way_over l entry s = Over
way_over l block s = Over
way_over l bone s = Over
way_over l string s = Over

abbrev pub way_of : ListTable → Option Pooled → Way
way_of l None = New
way_of l (Some p) = way_over l p.kind p.stored

pub record Leads (t : List ℕ) (l : ListTable) (va : ℕ) (r : Way) : Type 0 where
  pub leads : {n : ℕ} {q : List Pooled} → Represents t n q → r ≡ way_of l (find va q)
