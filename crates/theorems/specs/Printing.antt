-- Demand 3 of the program: what a line that `skeleton_check` prints means (docs/FORMAT.md, "Joints and names"). The line for a section is
-- `printed`, which `skeleton_check::print_check` promises. `proofs/Printing.antt` proves it. Definitions only.
use Rattle.std.specs.Prelude.{◌≡◌, ◌↔◌, ◌⊎◌, ℕ, ◌≤◌, [], ◌∷◌, length, T}
use Rattle.std.specs.Prelude.{Some}
use Rattle.format.specs.Result.{done}
use Rattle.format.specs.Section.{Section}
use Rattle.format.specs.Deriving.{tags}
use Rattle.format.specs.Tables.{SkeletonRow, Tables}
use Rattle.format.specs.Layout.{Bytes, base}
use Rattle.format.specs.Lookup.{lookup}
use Rattle.format.specs.Check.{bones_read, check}
use Rattle.format.specs.Program.{program_room, program_derive_room, line, printed}
use Rattle.format.specs.CallRefusals.{check_refusals, one_of}
use Rattle.promises.specs.Meaning.{ReadsTo, Sound, Right}

-- the bytes of standard input as a section: its graphics half is empty
abbrev pub input_section : Bytes → Section
input_section s = record { system = s; graphics = [] }

-- the lines `ok n` and `refused n`
abbrev pub ok_line : ℕ → Bytes
ok_line n = line (111 ∷ 107 ∷ []) n

abbrev pub refused_line : ℕ → Bytes
refused_line n = line (114 ∷ 101 ∷ 102 ∷ 117 ∷ 115 ∷ 101 ∷ 100 ∷ []) n

-- n bones are read from the input, and for every tag the lookup gives the greatest position bearing it, or none where no bone does
pub record EveryTagFound (s : Bytes) (n : ℕ) : Type 0 where
  pub skeleton : SkeletonRow
  pub tables : Tables
  pub reads : ReadsTo (input_section s) base skeleton tables
  pub count : length (bones_read skeleton.bones tables) ≡ n
  pub finds :
      (tag : ℕ) → tag ≤ 65535 → Right (tags (bones_read skeleton.bones tables)) tag (lookup (input_section s) base tag)

-- a line `ok` or a line `refused` with a number of the check's refusals, of at most five digits
pub record OneLine (s : Bytes) : Type 0 where
  pub number : ℕ
  pub small : number ≤ 99999
  pub either : (printed s ≡ ok_line number) ⊎ ((printed s ≡ refused_line number) × T (one_of number check_refusals))

pub record Printing : Type 0 where
  pub one_line : (s : Bytes) → OneLine s
  -- `ok n` stands exactly for an acceptance with n bones, of at most 65,536 bytes
  pub ok :
      (s : Bytes) (n : ℕ) → n ≤ 99999 →
      (printed s ≡ ok_line n) ↔
      ((length s ≤ 65536) × (check (input_section s) program_room program_derive_room base ≡ done (Some n)))
  -- what is accepted reads, and its lists equal those derived
  pub sound : (s : Bytes) (n : ℕ) → n ≤ 99999 → printed s ≡ ok_line n → Sound (input_section s) base
  -- with n of 2 or more, every tag is found
  pub found : (s : Bytes) (n : ℕ) → n ≤ 99999 → printed s ≡ ok_line n → 2 ≤ n → EveryTagFound s n
