-- Deriving the writer's working tables: what it answers and leaves. Definitions only.
use Rattle.std.specs.Prelude.{◌≡◌, ℕ, List, Result, OnOk}
use Rattle.format.specs.Refusal.{outcome}
use Rattle.format.specs.declared.Refusal.{Refusal}
use Rattle.format.specs.Rows.{bones_of}
use Rattle.tables.specs.Working.{Working, room_in}
use Rattle.write.specs.Filling.{DerivedRows}
use Rattle.write.specs.Outcome.{derived_in}

-- nothing is said of the tables after a refusal
pub record Derives (n : ℕ) (t : List ℕ) (r : Result ℕ Refusal) (x₀ x : Working) : Type 0 where
  pub answer : outcome r ≡ derived_in (room_in x₀) n t
  pub rows : OnOk r (DerivedRows (bones_of n t) x)
