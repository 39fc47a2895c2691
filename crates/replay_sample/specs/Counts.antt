-- Counts of 32 bits that stay at their greatest. Definitions only.
use Rattle.std.specs.Prelude.{ℕ, ◌+◌, min, List, get_or, set}

-- one more at a place; a list that has no such place stays as it is
abbrev pub counted_at : ℕ → List ℕ → List ℕ
counted_at at l = set l at (min (get_or l at 0 + 1) 4294967295)
