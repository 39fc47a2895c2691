-- A table of entries that holds some rows, zeros behind them: the chains along the table are those along the rows. Assumes nothing.
use mathlib.Core.Path.{◌≡◌, refl, ap}
use Rattle.std.specs.Prelude.{Some}
use mathlib.Core.List.{List, [], ◌∷◌, ◌++◌, flat_map}
use Prim.Native.Nat.{ℕ, zero, suc, ◌-◌}
use lib.ListN.{length, get_or, replicate}
use Rattle.format.specs.Chains.{entry_of}
use Rattle.format.specs.Deriving.{EntryRow}
use Rattle.format.specs.Check.{onto, no_entry, chain_along, chains_along}
use Rattle.format.specs.Rows.{entry_words, laid}
use Rattle.check_lists.specs.Chained.{entries_in}

-- ---- the rows of a table

entries-front : (es : List EntryRow) (w : List ℕ) → entries_in (flat_map entry_words es ++ w) ≡ es ++ entries_in w
unfolding entries_in flat_map
entries-front [] w = refl
entries-front (e ∷ es) w = ap (λ (rs : List EntryRow). e ∷ rs) (entries-front es w)

zero-rows : (n r : ℕ) → get_or (entries_in (replicate n 0)) r no_entry ≡ no_entry
unfolding entries_in
zero-rows zero r = refl
zero-rows (suc zero) r = refl
zero-rows (suc (suc zero)) r = refl
zero-rows (suc (suc (suc n))) zero = refl
zero-rows (suc (suc (suc n))) (suc r) = zero-rows n r

-- rows behind the others that are none
past-rows : (es zs : List EntryRow) → ((r : ℕ) → get_or zs r no_entry ≡ no_entry) → (r : ℕ) → get_or (es ++ zs) r no_entry ≡ get_or es r no_entry
past-rows [] zs h r = h r
past-rows (e ∷ es) zs h zero = refl
past-rows (e ∷ es) zs h (suc r) = past-rows es zs h r

rows-held :
    {t : List ℕ} (es : List EntryRow) (n : ℕ) → t ≡ laid (flat_map entry_words es) n → (r : ℕ)
    → get_or (entries_in t) r no_entry ≡ get_or es r no_entry
rows-held es n h r =
    let z = n - length (flat_map entry_words es) in
    rw (h, entries-front es (replicate z 0)) (past-rows es (entries_in (replicate z 0)) (zero-rows z) r)

-- ---- chains along rows that are alike

module _ (es ds : List EntryRow) (h : (r : ℕ) → get_or es r no_entry ≡ get_or ds r no_entry) where
  along-same : (n l : ℕ) → chain_along es n l ≡ chain_along ds n l
  unfolding chain_along
  along-same zero zero = refl
  along-same zero (suc r) = refl
  along-same (suc n) zero = refl
  along-same (suc n) (suc r) =
      rw (h r)
      (ap (onto (Some (entry_of (get_or ds r no_entry).tag (get_or ds r no_entry).position))) (along-same n (get_or ds r no_entry).link))

  alongs_same : (n : ℕ) (ls : List ℕ) → chains_along es n ls ≡ chains_along ds n ls
  unfolding chains_along
  alongs_same n [] = refl
  alongs_same n (l ∷ ls) = rw (along-same n l, alongs_same n ls)

pub chains-held :
    {t : List ℕ} (es : List EntryRow) (m : ℕ) → t ≡ laid (flat_map entry_words es) m → (n : ℕ) (ls : List ℕ)
    → chains_along (entries_in t) n ls ≡ chains_along es n ls
chains-held {t} es m h n ls = alongs_same (entries_in t) es (rows-held es m h) n ls
