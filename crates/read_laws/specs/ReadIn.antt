-- What was read, as the lent tables have it (docs/FORMAT.md, "Lookup and check"). Definitions only.
use Rattle.std.specs.Prelude.{ℕ, List, take}
use Rattle.format.specs.Rows.{bones_of}
use Rattle.format.specs.Check.{Read, chains_along}
use Rattle.check_lists.specs.Chained.{entries_in}

-- The first n bones of their table, the chains of the first nb buckets, and the first words of each list. What is absent counts 0.
abbrev pub read_in :
    (n : ℕ) (bones : List ℕ) (nb : ℕ) (buckets entries : List ℕ) (ni : ℕ) (inverse : List ℕ) (nl : ℕ) (local : List ℕ) (np : ℕ)
    (parents : List ℕ) (nc : ℕ) (children : List ℕ) → Read
read_in n bones nb buckets entries ni inverse nl local np parents nc children =
    record {
      bones = bones_of n bones;
      chains = chains_along (entries_in entries) n (take nb buckets);
      parents = take np parents;
      children = take nc children;
      inverse = take ni inverse;
      local = take nl local;
    }
