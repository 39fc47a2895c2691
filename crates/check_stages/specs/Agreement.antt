-- The tests of the verdict, stage by stage (docs/FORMAT.md, "Lookup and check"). Definitions only.
use Rattle.std.specs.Prelude.{ℕ, ◌*◌, List, length, take}
use Rattle.std.specs.Prelude.{Option}
use Rattle.format.specs.Result.{Res, ◌>>=◌, need}
use Rattle.format.specs.Section.{Place}
use Rattle.format.specs.Bone.{Bone}
use Rattle.format.specs.Chains.{Entry, chains}
use Rattle.format.specs.Children.{children}
use Rattle.format.specs.Matrices.{inverses, locals}
use Rattle.format.specs.Deriving.{tags, parents, indices}
use Rattle.format.specs.Rows.{bones_of}
use Rattle.format.specs.Check.{same_list, same_entry, same_chains, same_words, chains_along}
use Rattle.derive_chains.specs.Tagging.{tags_result}
use Rattle.derive_children.specs.Indexing.{indices_result}
use Rattle.derive_matrices.specs.Transforming.{matrices_result}
use Rattle.check_lists.specs.Chained.{entries_in, alike}

-- ---- the tests, by the bones and what was read beside them

module _ (bones : List (Bone Place)) where
  unfoldable pub chains_agree : Option (List (List Entry)) → Res (Unit {0})
  chains_agree read = need 21 (same_chains read (chains (tags bones)))

  unfoldable pub indices_agree : List ℕ → List ℕ → Res (Unit {0})
  indices_agree ps cs = do
    u22 ← need 22 (same_words ps (parents bones))
    need 23 (same_words cs (children (indices bones) (parents bones)))

  unfoldable pub matrices_agree : List ℕ → List ℕ → Res (Unit {0})
  matrices_agree is ls = do
    u24 ← need 24 (same_words is (inverses bones))
    need 25 (same_words ls (locals bones))

-- ---- behind a call that derives, which gave g: the first words read against those that it left

unfoldable pub chains_judged :
    (g : Res ℕ) (buckets : List ℕ) (count : ℕ) (entries : List ℕ) (n : ℕ) (dbuckets dentries : List ℕ) → Res (Unit {0})
chains_judged g buckets count entries n dbuckets dentries = do
  c ← g
  need 21
      (alike (same_list (same_list same_entry)) (chains_along (entries_in entries) n (take count buckets))
      (chains_along (entries_in dentries) n (take c dbuckets)))

unfoldable pub indices_judged :
    (g : Res ℕ) (n : ℕ) (parents : List ℕ) (p : ℕ) (children : List ℕ) (c : ℕ) (dparents dchildren : List ℕ) → Res (Unit {0})
indices_judged g n parents p children c dparents dchildren = do
  k ← g
  u22 ← need 22 (same_words (take p parents) (take n dparents))
  need 23 (same_words (take c children) (take k dchildren))

unfoldable pub matrices_judged :
    (g : Res (Unit {0})) (n : ℕ) (inverse : List ℕ) (i : ℕ) (local : List ℕ) (l : ℕ) (dinverse dlocal : List ℕ) → Res (Unit {0})
matrices_judged g n inverse i local l dinverse dlocal = do
  u ← g
  u24 ← need 24 (same_words (take i inverse) (take (16 * n) dinverse))
  need 25 (same_words (take l local) (take (16 * n) dlocal))

-- ---- the stages, by the tables as they lie: the first n rows t of the bones, the first words of the others, and the sizes of the
-- working tables. Deriving's refusals go first.

abbrev pub chains_stage : (n : ℕ) (t : List ℕ) (count : ℕ) (buckets entries : List ℕ) (dbuckets dentries : ℕ) → Res (Unit {0})
chains_stage n t count buckets entries dbuckets dentries = do
  c ← tags_result n (length t) dbuckets dentries
  chains_agree (bones_of n t) (chains_along (entries_in entries) n (take count buckets))

abbrev pub indices_stage :
    (n : ℕ) (t : List ℕ) (p : ℕ) (parents : List ℕ) (c : ℕ) (children : List ℕ) (dparents dchildren pending : ℕ) → Res (Unit {0})
indices_stage n t p parents c children dparents dchildren pending = do
  k ← indices_result n t dparents dchildren pending
  indices_agree (bones_of n t) (take p parents) (take c children)

abbrev pub matrices_stage :
    (n : ℕ) (t : List ℕ) (i : ℕ) (inverse : List ℕ) (l : ℕ) (local : List ℕ) (dinverse dlocal : ℕ) → Res (Unit {0})
matrices_stage n t i inverse l local dinverse dlocal = do
  u ← matrices_result n (length t) dinverse dlocal
  matrices_agree (bones_of n t) (take i inverse) (take l local)
