-- What the writer answers and leaves (docs/FORMAT.md, "Who can cause a refusal": writing tests 2, 4, 1, 3, 5). Definitions only.
use Rattle.std.specs.Prelude.{◌≡◌, ℕ, ◌*◌, List, length, leb, Result}
use Rattle.std.proofs.lemmas.List.Edits.{sets}
use Rattle.format.specs.Result.{Res, refused, done, need, ◌>>=◌}
use Rattle.format.specs.Refusal.{outcome as answered}
use Rattle.format.specs.declared.Refusal.{Refusal}
use Rattle.format.specs.Section.{Section, Place}
use Rattle.format.specs.Bone.{Bone, Words4}
use Rattle.format.specs.Deriving.{DeriveRoom, derives}
use Rattle.format.specs.Rows.{bone_width, bones_of}
use Rattle.format.specs.Layout.{Bytes, layout}
use Rattle.format.specs.Write.{named, written}
use Rattle.tables.specs.Outcome.{size_of}
use Rattle.write.specs.Filling.{kids_of}

-- ---- the outcome

-- The bytes to write for the first n bones of a table. A table that lacks rows of them is too short, 1, as every table is. This is met
-- before 4: the names of rows that are not there cannot be looked at.
unfoldable pub outcome : Section → DeriveRoom → ℕ → ℕ → List ℕ → Words4 → Res Bytes
outcome lent room size n t free = do
  u2 ← need 2 (leb n 65535)
  u1 ← need 1 (leb (bone_width * n) (length t))
  written lent room size (bones_of n t) free

-- the buffer: the section's own bytes at its front, and nothing else changed; after a refusal as it was
abbrev pub write_leaves : Res Bytes → List ℕ → List ℕ
write_leaves (refused c) out = out
write_leaves (done b) out = sets out 0 b

-- the number of bytes, and the buffer
pub record Writes (w : Res Bytes) (r : Result ℕ Refusal) (out out' : List ℕ) : Type 0 where
  pub answer : answered r ≡ size_of w
  pub buffer : out' ≡ write_leaves w out

-- ---- its steps

-- 1 for the derived tables; the number of child entries
unfoldable pub derived_in : DeriveRoom → ℕ → List ℕ → Res ℕ
derived_in room n t = do
  u1 ← need 1 (derives room n)
  done (length (kids_of (bones_of n t)))

-- 3, 5; the bytes
unfoldable pub laid_out : Section → ℕ → List (Bone Place) → Words4 → Res Bytes
laid_out lent size bones free = do
  u3 ← need 3 (leb (length (kids_of bones)) 65535)
  u5 ← need 5 (leb (length (layout (named lent bones) free)) size)
  done (layout (named lent bones) free)
