-- Following the links of the derived rows gives the derived chains, each of at most as many entries as there are bones. Assumes nothing.
use mathlib.Core.Path.{◌≡◌, refl, ap, ◌∙◌}
use mathlib.Core.Bool.{Bool, true, false, cond}
use Rattle.std.specs.Prelude.{Some}
use mathlib.Core.List.{List, [], ◌∷◌, map}
use Prim.Native.Nat.{ℕ, zero, suc, ◌%◌, ◌≤◌, ◌<◌}
use native.Mathlib.Nat.{zero-add, le_refl}
use native.Mathlib.Omega.{arith}
use borrow.Author.Tests.{eqb-true}
use lib.ListN.{length, get_or}
use lib.Dec.{eqb}
use Rattle.format.specs.Chains.{bucket_count, entry_count, entry_of, keep_if, keep, falling, in_bucket, chain, up_from, chains}
use Rattle.format.specs.Check.{no_entry, chain_along, chains_along}
use Rattle.derive_chains.specs.ChainRows.{link_below, bucket_rows, entry_rows, ChainRows}
use Rattle.derive_chains.proofs.Tagging.{row_for, get_or-up_from, length-up_from}

-- there are no buckets, or an entry for each bone
none_or_each : {A : Type 0} (n : ℕ) → (bucket_count n ≡ 0 → A) → (n ≤ entry_count n → A) → A
unfolding bucket_count entry_count
none_or_each zero f g = f refl
none_or_each (suc zero) f g = f refl
none_or_each (suc (suc n)) f g = g (le_refl (suc (suc n)))

module _ (ts : List ℕ) where
  abbrev count : ℕ
  count = bucket_count (length ts)

  row_at : (p : ℕ) → p < entry_count (length ts) → get_or (entry_rows ts) p no_entry ≡ row_for ts count p
  unfolding entry_rows
  row_at p h = get_or-up_from (row_for ts count) no_entry 0 (entry_count (length ts)) p h ∙ ap (row_for ts count) (zero-add p)

  -- the chain of the positions below n, where at most m entries are followed
  along-below :
      (b n m : ℕ) → n ≤ entry_count (length ts) → n ≤ m
      → chain_along (entry_rows ts) m (link_below ts count b n) ≡ Some (keep (in_bucket count b) (falling ts n))
  unfolding link_below keep falling chain_along
  along-below b zero zero h k = refl
  along-below b zero (suc m) h k = refl
  along-below b (suc n) zero h k = absurd (omega arith)
  along-below b (suc n) (suc m) h k =
      by (eqb (get_or ts n 0 % count) b) refl (along-below b n (suc m) (omega arith) (omega arith))
      (along-below b n m (omega arith) (omega arith))
    where
      by :
          (x : Bool) → eqb (get_or ts n 0 % count) b ≡ x
          → chain_along (entry_rows ts) (suc m) (link_below ts count b n) ≡ Some (keep (in_bucket count b) (falling ts n))
          → chain_along (entry_rows ts) m (link_below ts count b n) ≡ Some (keep (in_bucket count b) (falling ts n))
          → chain_along (entry_rows ts) (suc m) (cond x (suc n) (link_below ts count b n))
          ≡ Some (keep_if x (entry_of (get_or ts n 0) n) (keep (in_bucket count b) (falling ts n)))
      by false q e f = e
      by true q e f = rw (row_at n (omega arith), eqb-true (get_or ts n 0 % count) b q, f)

  alongs_below :
      (bs : List ℕ) → length ts ≤ entry_count (length ts)
      → chains_along (entry_rows ts) (length ts) (map (λ b. link_below ts count b (length ts)) bs) ≡ Some (map (chain ts count) bs)
  unfolding chains_along chain
  alongs_below [] h = refl
  alongs_below (b ∷ bs) h = rw (along-below b (length ts) (length ts) h (le_refl (length ts)), alongs_below bs h)

  pub rows-chained : chains_along (entry_rows ts) (length ts) (bucket_rows ts) ≡ Some (chains ts)
  unfolding bucket_rows chains up_from chains_along
  rows-chained = none_or_each (length ts) (λ z. rw z) (alongs_below (up_from 0 count))

  pub length-bucket_rows : length (bucket_rows ts) ≡ count
  unfolding bucket_rows
  length-bucket_rows = length-up_from (λ b. link_below ts count b (length ts)) 0 count

pub chain_rows_lem : ChainRows
chain_rows_lem = record { following = rows-chained }
