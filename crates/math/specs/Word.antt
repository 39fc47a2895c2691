-- A stored 32-bit word as a float, and back (docs/FORMAT.md, "Float work").
-- Definitions only.
use Rattle.std.specs.Prelude.{ℕ, Float}
use Rattle.std.specs.Float.{nan, inf, fin, binary32}
use Rattle.std.specs.Float.Ieee.{of_bits, to_bits}

-- the float that a word stands for: every NaN's word is the one NaN
abbrev pub float_of : ℕ → Float
float_of w = of_bits binary32 w

-- the word of a float: a NaN becomes 7FC00000 hex
unfoldable pub word_of : Float → ℕ
word_of nan = 0x7FC0_0000
word_of (inf s) = to_bits binary32 (inf s)
word_of (fin s m e) = to_bits binary32 (fin s m e)
