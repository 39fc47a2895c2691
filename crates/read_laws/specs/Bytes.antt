-- What the types of lent slices of bytes hold of their numbers. Definitions only.
use Rattle.std.specs.Prelude.{ℕ, ◌<◌, List, get_or}
use Rattle.format.specs.Section.{Section}

-- a slice of u8
abbrev pub Bytes8 : List ℕ → Type 0
Bytes8 s = (i : ℕ) → get_or s i 0 < 256

-- a section of bytes
abbrev pub SectionBytes : Section → Type 0
SectionBytes sec = Bytes8 sec.system × Bytes8 sec.graphics
