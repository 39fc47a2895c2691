-- The four list tables by the lists read into them, their rows, and our answers as the definitions have them. Definitions only.
use Rattle.std.specs.Prelude.{ℕ, ◌+◌, ◌/◌, ◌≤◌, ◌≡◌, List, length}
use Rattle.std.specs.Prelude.{Option, None, Some, Result, Ok, Err}
use Rattle.format.specs.Result.{Res, refused, done}
use Rattle.format.specs.Refusal.{number}
use Rattle.format.specs.declared.Refusal.{Refusal}
use Rattle.format.specs.Tables.{ListTable, inverse_table, local_table, parents_table, children_table}
use Rattle.format.specs.Tables.{Kind, skeleton, buckets, entry, block, bone, string, list}
use Rattle.format.specs.Tables.{Rows, Pooled, Lists, Tables, words_in, find}
use Rattle.blocks.specs.Pool.{meant_rows}
use Rattle.read_lists.specs.declared.List as ours
use Rattle.read_lists.specs.declared.kinds.Matrices.{Matrices}
use Rattle.read_lists.specs.declared.kinds.Matrices.TheVariants.{Inverse, Local}
use Rattle.read_lists.specs.declared.kinds.Indices.{Indices}
use Rattle.read_lists.specs.declared.kinds.Indices.TheVariants.{Parents, Children}

abbrev pub matrix_table : Matrices → ListTable
matrix_table Inverse = inverse_table
matrix_table Local = local_table

abbrev pub index_table : Indices → ListTable
index_table Parents = parents_table
index_table Children = children_table

-- the other table of the kind
abbrev pub twin : ListTable → ListTable
twin inverse_table = local_table
twin local_table = inverse_table
twin parents_table = children_table
twin children_table = parents_table

-- how many rows a lent table has
abbrev pub rows_in : ListTable → List ℕ → ℕ
rows_in inverse_table t = length t / 16
rows_in local_table t = length t / 16
rows_in parents_table t = length t
rows_in children_table t = length t

-- what an answer gives, where `used` words were used before: the list, and the words used after it; or the refusal's number
abbrev pub meant_listed : ℕ → Result (Option ours.List) Refusal → Res (Option Rows × ℕ)
meant_listed used (Ok None) = done (None, used)
meant_listed used (Ok (Some x)) = done (Some (meant_rows x.stored), x.used)
meant_listed used (Err r) = refused (number r)

-- ---- the lists that the pool gives

-- the stored words lie in their table; of what is no list nothing is said
abbrev pub Inside : Kind → Rows → Lists → Type 0
Inside (list l) r t = r.first + r.count ≤ length (words_in l t)
Inside skeleton r t = Unit {0}
Inside buckets r t = Unit {0}
Inside entry r t = Unit {0}
Inside block r t = Unit {0}
Inside bone r t = Unit {0}
Inside string r t = Unit {0}

-- every list that the pool gives lies in its table
pub record ListsStand (t : Tables) : Type 0 where
  pub stand : (a : ℕ) (p : Pooled) → find a t.pool ≡ Some p → Inside p.kind p.stored t.lists
