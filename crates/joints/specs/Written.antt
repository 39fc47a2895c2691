-- What our writer of joints answers, and what it leaves in the buffer (docs/FORMAT.md, "Joints and names"). Definitions only.
use Rattle.std.specs.Prelude.{ℕ, ◌*◌, List, ◌++◌, map, length, drop, leb}
use Rattle.format.specs.Result.{Res, refused, done, ◌>>=◌, need}
use Rattle.format.specs.Joints.{RotationLimit, rotation_row, rotation_width, TranslationLimit, translation_row, translation_width}
use Rattle.format.specs.Joints.{limit_rows, joints_written}

-- the limits in the first n rows of a table
abbrev pub rotations_of : ℕ → List ℕ → List RotationLimit
rotations_of n t = map rotation_row (limit_rows rotation_width n t)

abbrev pub translations_of : ℕ → List ℕ → List TranslationLimit
translations_of n t = map translation_row (limit_rows translation_width n t)

-- the first n rows of w words of a table, if it has so many
unfoldable pub rows_got : ℕ → ℕ → List ℕ → Res (List (List ℕ))
rows_got w n t = do
  u1 ← need 1 (leb (w * n) (length t))
  done (limit_rows w n t)

-- `joints_written` of the limits in the first r and t rows of two tables, into a buffer of `size` bytes. A table with fewer rows
-- than asked for is 1, behind 6 and before 35, since the ids of its rows are not there.
unfoldable pub table_written : ℕ → List ℕ → ℕ → List ℕ → ℕ → Res (List ℕ)
table_written size rotation r translation t = do
  u6 ← need 6 (leb r 65535)
  v6 ← need 6 (leb t 65535)
  u1 ← need 1 (leb (rotation_width * r) (length rotation))
  v1 ← need 1 (leb (translation_width * t) (length translation))
  joints_written size (rotations_of r rotation) (translations_of t translation)

-- what a buffer holds then: the bytes written and the rest as it was, or after a refusal all as it was
abbrev pub left_in : Res (List ℕ) → List ℕ → List ℕ
left_in (refused n) out = out
left_in (done b) out = b ++ drop (length b) out
