-- What keeping column 4 promises: the format's `keep_columns`, of tables of a single reading. Definitions only.
use Rattle.std.specs.Prelude.{◌≡◌, ℕ, ◌≤◌, List, length}
use Rattle.std.specs.Prelude.{Some}
use Rattle.format.specs.Tables.{rows, Tables}
use Rattle.format.specs.Rows.{laid}
use Rattle.format.specs.Read.{keep_columns}
use Rattle.read_bones.specs.Lent.{BonesIn, InOrder}

-- Meant for tables t whose members are all rows in order: the block is the first n bones, and the local matrices are the first
-- words of their table. So it is in a single reading that has read its bones and its lists.
pub record KeepsColumns (n words : ℕ) (local b₀ b : List ℕ) : Type 0 where
  pub keeps : (m : ℕ) (t : Tables) → BonesIn b₀ m t.bones → InOrder t → n ≤ length t.bones →
      local ≡ laid t.lists.local (length local) → words ≤ length t.lists.local →
      BonesIn b m (keep_columns (Some (rows 0 n)) (Some (rows 0 words)) t).bones
