-- What the types of lent slices and structs hold of their numbers: the only thing that demand 3's statements ask of bytes, bones and
-- free words. `theorems::typed` is proved to promise it of all its arguments. Definitions only.
use Rattle.std.specs.Prelude.{ℕ, ◌^◌, ◌<◌, List, get_or}

-- a slice of u32
abbrev pub Words32 : List ℕ → Type 0
Words32 t = (i : ℕ) → get_or t i 0 < 2 ^ 32
