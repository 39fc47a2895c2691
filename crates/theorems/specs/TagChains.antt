-- `build_bone_tags` in the format's words: whatever the bones, following the links of the rows that it leaves gives the chains of their
-- tags (docs/FORMAT.md, "Deriving"). b₀ and e₀ are the lent tables of buckets and entries before it, b and e the same after it.
-- `proofs/TagChains.antt` proves it. Definitions only.
use Rattle.std.specs.Prelude.{◌≡◌, ℕ, length, take}
use Rattle.std.specs.Prelude.{Some, Result, Ok}
use mathlib.Core.List.{List, flat_map}
use Rattle.format.specs.Chains.{chains}
use Rattle.format.specs.Deriving.{tags}
use Rattle.format.specs.Check.{chains_along}
use Rattle.format.specs.Rows.{entry_words, bones_of}
use Rattle.tables.specs.Outcome.{leaves}
use Rattle.derive_chains.specs.ChainRows.{bucket_rows, entry_rows}
use Rattle.format.specs.Refusal.{outcome}
use Rattle.format.specs.declared.Refusal.{Refusal}
use Rattle.derive_chains.specs.Tagging.{tags_result}
use Rattle.check_lists.specs.Chained.{entries_in}

-- the contract of `build_bone_tags`
pub record BuildsTags (bones : List ℕ) (n : ℕ) (r : Result ℕ Refusal) (b₀ e₀ b e : List ℕ) : Type 0 where
  pub answer : outcome r ≡ tags_result n (length bones) (length b₀) (length e₀)
  pub buckets :
      b ≡ leaves (tags_result n (length bones) (length b₀) (length e₀)) (bucket_rows (tags (bones_of n bones))) (length b₀)
  pub entries :
      e ≡ leaves (tags_result n (length bones) (length b₀) (length e₀)) (flat_map entry_words (entry_rows (tags (bones_of n bones))))
      (length e₀)

pub record TagChains : Type 0 where
  pub following :
      (bones : List ℕ) (n count : ℕ) (b₀ e₀ b e : List ℕ) → BuildsTags bones n (Ok count) b₀ e₀ b e →
      chains_along (entries_in e) n (take count b) ≡ Some (chains (tags (bones_of n bones)))
