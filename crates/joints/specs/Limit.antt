-- A kind of limit (docs/FORMAT.md, "Joints and names"): its sizes, and the writing of one record. Definitions only.
use Rattle.std.specs.Prelude.{◌≡◌, ℕ, ◌*◌, ◌≤◌, ◌<◌, Bool, List, leb}
use Rattle.format.specs.Result.{Res, done, ◌>>=◌, need}
use Rattle.format.specs.Field.{word_bytes}

-- the bytes and the slots of a record, and the words of a row
pub record Sizes (bytes words slots : ℕ) : Type 0 where
  pub four : bytes ≡ 4 * slots
  pub slots_some : 0 < slots
  pub slots_most : slots ≤ 48
  pub words_some : 0 < words

-- A record with these slots, which has n bytes, into a buffer of `size` bytes, if its id fits. Tests 35, 5.
abbrev pub limit_written : Bool → ℕ → ℕ → List ℕ → Res (List ℕ)
limit_written fits n size w = do
  u35 ← need 35 fits
  u5 ← need 5 (leb n size)
  done (word_bytes 4 w)
