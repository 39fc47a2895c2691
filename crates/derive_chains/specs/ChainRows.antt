-- The rows that `build_bone_tags` leaves. docs/FORMAT.md ("Deriving") fixes the chains, and not the rows that hold them: ours stand in
-- position order. `ChainRows` says that they hold the chains; `proofs/ChainRows.antt` proves it. Definitions only.
use Rattle.std.specs.Prelude.{◌≡◌, ℕ, zero, suc, ◌%◌, cond, List, map, length, get_or, eqb}
use Rattle.std.specs.Prelude.{Some}
use Rattle.format.specs.Chains.{bucket_count, entry_count, up_from, chains}
use Rattle.format.specs.Deriving.{EntryRow, entry_row}
use Rattle.format.specs.Check.{chains_along}

-- the link to the greatest position below n in bucket b of c, where position p has row p: one more than it, or 0 if there is none
unfoldable pub link_below : List ℕ → ℕ → ℕ → ℕ → ℕ
link_below tags c b zero = 0
link_below tags c b (suc n) = cond (eqb (get_or tags n 0 % c) b) (suc n) (link_below tags c b n)

-- the bucket rows: each a link to its chain's head
unfoldable pub bucket_rows : List ℕ → List ℕ
bucket_rows tags =
    let c = bucket_count (length tags) in
    map (λ b. link_below tags c b (length tags)) (up_from 0 c)

-- the entry rows, one for each position where there are buckets
unfoldable pub entry_rows : List ℕ → List EntryRow
entry_rows tags =
    let c = bucket_count (length tags) in
    map (λ p. entry_row (get_or tags p 0) p (link_below tags c (get_or tags p 0 % c) p)) (up_from 0 (entry_count (length tags)))

-- For all tags: following the links, from each bucket's row along the entries' rows until 0, gives the chains. None has more entries
-- than there are bones.
pub record ChainRows : Type 0 where
  pub following : (tags : List ℕ) → chains_along (entry_rows tags) (length tags) (bucket_rows tags) ≡ Some (chains tags)
