-- Our kinds as the definitions have them, and the word that stands for each in a row of the pool. Definitions only.
use Rattle.std.specs.Prelude.{ℕ, Bool, true, false, cond, eqb}
use Rattle.format.specs.Tables as Tables
use Rattle.format.specs.Tables.{inverse_table, local_table, parents_table, children_table}
use Rattle.format.specs.Tables.{skeleton, buckets, entry, block, bone, string, list}
use Rattle.blocks.specs.declared.kinds.ListTable.{ListTable}
use Rattle.blocks.specs.declared.kinds.ListTable.TheVariants.{Inverse, Local, Parents, Children}
use Rattle.blocks.specs.declared.kinds.Kind.{Kind}
use Rattle.blocks.specs.declared.kinds.Kind.TheVariants.{Skeleton, Buckets, Entry, Block, Bone, String, List}

abbrev pub meant_table : ListTable → Tables.ListTable
meant_table Inverse = inverse_table
meant_table Local = local_table
meant_table Parents = parents_table
meant_table Children = children_table

abbrev pub meant_kind : Kind → Tables.Kind
meant_kind Skeleton = skeleton
meant_kind Buckets = buckets
meant_kind Entry = entry
meant_kind Block = block
meant_kind Bone = bone
meant_kind String = string
meant_kind (List t) = list (meant_table t)

-- whether a list's table takes matrices
abbrev pub of_matrices : Tables.ListTable → Bool
of_matrices inverse_table = true
of_matrices local_table = true
of_matrices parents_table = false
of_matrices children_table = false

-- ---- the word in a row of the pool

-- 7 to 10, so that a list's own table can be told
abbrev pub list_code : Tables.ListTable → ℕ
list_code inverse_table = 7
list_code local_table = 8
list_code parents_table = 9
list_code children_table = 10

abbrev pub kind_code : Tables.Kind → ℕ
kind_code skeleton = 1
kind_code buckets = 2
kind_code entry = 3
kind_code block = 4
kind_code bone = 5
kind_code string = 6
kind_code (list t) = list_code t

-- the kind of a code; a number that is no kind's code is taken for the last
unfoldable pub kind_from : ℕ → Tables.Kind
kind_from c =
    cond (eqb c 1) skeleton
    (cond (eqb c 2) buckets
    (cond (eqb c 3) entry
    (cond (eqb c 4) block
    (cond (eqb c 5) bone
    (cond (eqb c 6) string
    (cond (eqb c 7) (list inverse_table)
    (cond (eqb c 8) (list local_table)
    (cond (eqb c 9) (list parents_table) (list children_table)))))))))
