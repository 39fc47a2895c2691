-- The front of a buffer that was written (docs/FORMAT.md, "Who can cause a refusal"). Definitions only.
use Rattle.std.specs.Prelude.{ℕ, List, [], length, take, leb}
use Rattle.format.specs.Field.{which_list}

-- the first n bytes, or none where there are not so many
abbrev pub front_of : ℕ → List ℕ → List ℕ
front_of n out = which_list (leb n (length out)) (take n out) []
