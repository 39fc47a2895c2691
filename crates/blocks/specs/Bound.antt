-- How far a search in the pool goes: near the home at 16 rows at most, by the code; in the tree at 65, whatever addresses were pooled.
-- `proofs/Bound.antt` proves it. Definitions only.
use Rattle.std.specs.Prelude.{◌≡◌, ℕ, suc, ◌^◌, ◌≤◌, ◌<◌, List, get_or}
use Rattle.format.specs.Tables.{Pooled}
use Rattle.blocks.specs.Hashed.{path_in, Represents}

pub record Bound : Type 0 where
  -- a row d of a path is at most row 64, in every table of words of 64 bits that holds a pool
  pub path :
      (t : List ℕ) (n : ℕ) (q : List Pooled) → Represents t n q → ((i : ℕ) → get_or t i 0 < 2 ^ 64) →
      (a : ℕ) → a < 2 ^ 64 → (d i : ℕ) → path_in t a d ≡ suc i → d ≤ 64
