-- The form of a stored case: where each part begins and the last one ends, then the parts (compare/vectors/README.md). Definitions only.
use Rattle.std.specs.Prelude.{ℕ, ◌+◌, ◌-◌, ◌*◌, ◌/◌, ◌&&◌, List, [], ◌++◌, length, take, drop, replicate, leb}
use Rattle.format.specs.Field.{field_at, which_list, words}
use Rattle.format.specs.Rows.{laid}

-- the bytes from one place to another; none where they do not lie in the slice
abbrev pub between : ℕ → ℕ → List ℕ → List ℕ
between from to s = which_list (leb from to && leb to (length s)) (take (to - from) (drop from s)) []

-- part k of a case; none where the first part begins before the places of part k end
abbrev pub part_of : ℕ → List ℕ → List ℕ
part_of k s = which_list (leb (field_at 4 s 0) (4 * k + 4)) [] (between (field_at 4 s (4 * k)) (field_at 4 s (4 * k + 4)) s)

-- the numbers of k bytes that a part holds; a rest that is shorter is none
abbrev pub numbers : ℕ → List ℕ → List ℕ
numbers k e = words k (length e / k) e

-- n bytes that begin with some, the same byte behind them
abbrev pub padded_to : List ℕ → ℕ → ℕ → List ℕ
padded_to e rest n = e ++ replicate (n - length e) rest

-- a table of n words with those of a part, as many as it holds, and zeros behind them
abbrev pub part_loaded : ℕ → List ℕ → List ℕ
part_loaded n e = take n (laid (numbers 4 e) n)
