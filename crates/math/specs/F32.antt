-- The operations of binary32 that the float work is made of: each rounds once, to nearest even (docs/FORMAT.md, "Float work").
-- They have signs of their own, a ring around the usual ones, and bind as Rust's operators do.
-- Definitions only.
use Rattle.std.specs.Prelude.{Bool, Float}
use Rattle.std.specs.Float.{binary32}
use Rattle.std.specs.Float.Ieee.{of_bits}
use Rattle.std.specs.Float.Ieee as Ieee

infixl 65 ◌⊕◌ ◌⊖◌
infixl 70 ◌⊗◌ ◌⊘◌
-- the rounded sum
abbrev pub ◌⊕◌ : Float → Float → Float
x ⊕ y = Ieee.add binary32 x y

-- the rounded difference
abbrev pub ◌⊖◌ : Float → Float → Float
x ⊖ y = Ieee.sub binary32 x y

-- the rounded product
abbrev pub ◌⊗◌ : Float → Float → Float
x ⊗ y = Ieee.mul binary32 x y

-- the rounded quotient
abbrev pub ◌⊘◌ : Float → Float → Float
x ⊘ y = Ieee.div binary32 x y

-- the float with its sign turned
abbrev pub negated : Float → Float
negated x = Ieee.neg x

-- Rust's `==`: a NaN compares equal to nothing, and the two zeros to each other
abbrev pub compares_equal : Float → Float → Bool
compares_equal x y = Ieee.eq x y

-- the literals 0.0, 1.0 and 2.0
abbrev pub 0·0 : Float
0·0 = of_bits binary32 0

abbrev pub 1·0 : Float
1·0 = of_bits binary32 0x3F80_0000

abbrev pub 2·0 : Float
2·0 = of_bits binary32 0x4000_0000
