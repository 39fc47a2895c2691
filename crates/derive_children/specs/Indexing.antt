-- `build_indices`: its sizes, its answer, and what its stages leave. Definitions only.
use Rattle.std.specs.Prelude.{ℕ, ◌+◌, ◌*◌, ◌≤◌, ◌≡◌, Bool, ◌&&◌, List, Result, length, map, leb}
use Rattle.format.specs.Result.{Res}
use Rattle.format.specs.Refusal.{outcome}
use Rattle.format.specs.declared.Refusal.{Refusal}
use Rattle.format.specs.Children.{first_pending, children}
use Rattle.format.specs.Deriving.{indices, parents}
use Rattle.format.specs.Rows.{bone_width, bone_of, bones_of, cleared}
use Rattle.tables.specs.Outcome.{derived, leaves}
use Rattle.derive_children.specs.Pile.{PileTable, pending_of}

-- ---- sizes and answer

-- Whether tables of so many words hold n bones, their parents, 8 × (n + 1) child entries and 4 × (n + 1) rows of the pending
-- list, two words each.
unfoldable pub indices_hold : ℕ → ℕ → ℕ → ℕ → ℕ → Bool
indices_hold n bones parents children pending =
    leb (bone_width * n) bones && leb n parents && leb (8 * (n + 1)) children && leb (2 * (4 * (n + 1))) pending

-- the parents list of the first n bones of a table
abbrev pub parents_of : ℕ → List ℕ → List ℕ
parents_of n t = parents (bones_of n t)

-- their child list
abbrev pub children_of : ℕ → List ℕ → List ℕ
children_of n t = children (indices (bones_of n t)) (parents_of n t)

-- the number of child entries, by the tables' words
abbrev pub indices_result : ℕ → List ℕ → ℕ → ℕ → ℕ → Res ℕ
indices_result n t parents children pending =
    derived n (indices_hold n (length t) parents children pending) (length (children_of n t))

-- what a call of `build_indices` leaves in its two lists, by the tables at entry
pub record Indexing (n : ℕ) (t ps cs pending : List ℕ) (r : Result ℕ Refusal) (ps' cs' : List ℕ) : Type 0 where
  pub answer : outcome r ≡ indices_result n t (length ps) (length cs) (length pending)
  pub parents_left :
      ps' ≡ leaves (indices_result n t (length ps) (length cs) (length pending)) (parents_of n t) (length ps)
  pub children_left :
      cs' ≡ leaves (indices_result n t (length ps) (length cs) (length pending)) (children_of n t) (length cs)

-- ---- stages

-- the indices of the bones in some rows
abbrev pub indices_of : List (List ℕ) → List ℕ
indices_of rows = indices (map bone_of rows)

-- the pile holds the pending list at first, in at most one word for each bone
pub record Rooted (is ps : List ℕ) (top : ℕ) (t : List ℕ) : Type 0 where
  pub pile : PileTable is ps t top
  pub most : top ≤ length ps
  pub pending : pending_of ps t top ≡ first_pending is ps

-- the tables have room for the child list, and the list's own is zero
pub record ListRoom (ps pending out : List ℕ) : Type 0 where
  pub few : length ps ≤ 65535
  pub words : 8 * (length ps + 1) ≤ length pending
  pub outs : 8 * (length ps + 1) ≤ length out
  pub zero : out ≡ cleared (length out)
