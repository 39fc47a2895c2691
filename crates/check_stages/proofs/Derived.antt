-- The derived chains in tables that hold their rows. Assumes nothing.
use mathlib.Core.Path.{◌≡◌, ◌∙◌}
use Rattle.std.specs.Prelude.{Some}
use mathlib.Core.List.{List, flat_map}
use Prim.Native.Nat.{ℕ, ◌-◌}
use lib.ListN.{length, take, replicate}
use lib.Seq.{take_at}
use Rattle.format.specs.Chains.{bucket_count, chains}
use Rattle.format.specs.Check.{chains_along}
use Rattle.format.specs.Rows.{entry_words, laid}
use Rattle.derive_chains.specs.ChainRows.{bucket_rows, entry_rows}
use Rattle.derive_chains.proofs.ChainRows.{rows-chained, length-bucket_rows}
use Rattle.check_lists.specs.Chained.{entries_in}
use Rattle.check_lists.proofs.Held.{chains-held}

module _ (ts : List ℕ) where
  abbrev count : ℕ
  count = bucket_count (length ts)

  -- in tables that hold the rows
  pub chains-derived :
      {heads rows : List ℕ} (lb le : ℕ) → heads ≡ laid (bucket_rows ts) lb → rows ≡ laid (flat_map entry_words (entry_rows ts)) le
      → {n c : ℕ} → n ≡ length ts → c ≡ count → chains_along (entries_in rows) n (take c heads) ≡ Some (chains ts)
  chains-derived {heads} {rows} lb le hb he {n} {c} en ec =
      let t : take count heads ≡ bucket_rows ts =
      rw hb (take_at (bucket_rows ts) (replicate (lb - length (bucket_rows ts)) 0) count (length-bucket_rows ts)) in
      rw (en, ec, t) (chains-held (entry_rows ts) le he (length ts) (bucket_rows ts) ∙ rows-chained ts)
