-- The entries that a lent table holds, and chains compared where both stand (docs/FORMAT.md, "Lookup and check"). Definitions only.
use Rattle.std.specs.Prelude.{ℕ, Bool, false, List, [], ◌∷◌}
use Rattle.std.specs.Prelude.{Option, None, Some}
use Rattle.format.specs.Deriving.{EntryRow, entry_row}
use Rattle.check_lists.specs.declared.Row.{Row}

-- the rows of a table of entries, three words each; words behind the last whole row are none
unfoldable pub entries_in : List ℕ → List EntryRow
entries_in [] = []
entries_in (t ∷ []) = []
entries_in (t ∷ p ∷ []) = []
entries_in (t ∷ p ∷ l ∷ w) = entry_row t p l ∷ entries_in w

-- the row that the code's stands for
abbrev pub meant_row : Row → EntryRow
meant_row r = entry_row r.entry.tag r.entry.position r.link

-- both stand and are alike
abbrev pub alike : {A : Type 0} → (A → A → Bool) → Option A → Option A → Bool
alike f None o = false
alike f (Some x) None = false
alike f (Some x) (Some y) = f x y
