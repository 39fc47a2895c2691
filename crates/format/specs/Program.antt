-- The program: what it prints for its standard input (docs/FORMAT.md, "Joints and names"). Definitions only.
use Rattle.std.specs.Prelude.{ℕ, zero, suc, ◌+◌, ◌*◌, ◌/◌, ◌%◌, cond, [], ◌∷◌, ◌++◌, length, leb, ltb}
use Rattle.std.specs.Prelude.{Option, None, Some}
use Rattle.format.specs.Result.{Res, refused, done, ◌>>=◌, need}
use Rattle.format.specs.Deriving.{DeriveRoom}
use Rattle.format.specs.Tables.{Room}
use Rattle.format.specs.Layout.{Bytes, base}
use Rattle.format.specs.Check.{check}

-- ---- its tables: 800 bones, 8,192 buckets, 4,096 entries, 8,192 child entries and 8,192 pool rows

abbrev pub program_room : Room
program_room =
    record { bones = 800; buckets = 8192; entries = 4096; inverse = 800; local = 800; parents = 800; children = 8192; pool = 8192 }

abbrev pub program_derive_room : DeriveRoom
program_derive_room =
    record { buckets = 8192; entries = 4096; inverse = 800; local = 800; parents = 800; children = 8192; pending = 4 * 801 }

-- ---- its line

-- the decimal digits of a number in front of some bytes, k digits at most
unfoldable pub digits_onto : ℕ → ℕ → Bytes → Bytes
digits_onto zero n s = s
digits_onto (suc k) n s = cond (ltb n 10) ((48 + n) ∷ s) (digits_onto k (n / 10) ((48 + n % 10) ∷ s))

-- a word, one space, a number of at most five digits and a newline
abbrev pub line : Bytes → ℕ → Bytes
line word n = word ++ 32 ∷ digits_onto 5 n (10 ∷ [])

-- `ok` and the bone count, or `refused` and the number; the root is not 0, so that none does not arise
abbrev pub report : Res (Option ℕ) → Bytes
report (done (Some n)) = line (111 ∷ 107 ∷ []) n
report (done None) = []
report (refused n) = line (114 ∷ 101 ∷ 102 ∷ 117 ∷ 115 ∷ 101 ∷ 100 ∷ []) n

-- what is printed for the bytes of standard input: refused 1 if they are more than 65,536
unfoldable pub printed : Bytes → Bytes
printed s =
    report do
      u ← need 1 (leb (length s) 65536)
      check (record { system = s; graphics = [] }) program_room program_derive_room base
