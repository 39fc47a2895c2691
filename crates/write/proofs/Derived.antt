-- The derived rows link the derived chains: a row for each position, links that fall, and the chain of each bucket along them.
-- Assumes nothing.
use mathlib.Core.Path.{◌≡◌, refl, ap, ◌∙◌}
use mathlib.Core.Bool.{Bool, true, false, cond}
use mathlib.Core.List.{List, [], ◌∷◌, ◌++◌, map, flat_map}
use Prim.Native.Nat.{ℕ, zero, suc, ◌+◌, ◌-◌, ◌*◌, ◌%◌, ◌≤◌, ◌<◌}
use native.Mathlib.Nat.{add-zero, zero-add, le_refl}
use native.Mathlib.Omega.{arith}
use borrow.Author.Tests.{eqb-true, leb-true, leb-false}
use lib.ListN.{length, get_or, take, replicate, get_or-append}
use lib.Seq.{take_at, get_or-append-add}
use lib.Dec.{leb, eqb}
use Rattle.format.specs.Chains.{bucket_count, entry_count, Entry, entry_of, keep_if, keep, falling, in_bucket, chain, up_from, chains}
use Rattle.format.specs.Deriving.{EntryRow, entry_row}
use Rattle.derive_chains.specs.ChainRows.{link_below, bucket_rows, entry_rows}
use Rattle.format.specs.Rows.{entry_words, laid}
use Rattle.derive_chains.proofs.Counts.{few-buckets, many_entries}
use Rattle.derive_chains.proofs.Tagging.{get_or-up_from, length-up_from}
use Rattle.write.specs.Linked.{follow_rows, linked, LinksFall, chains_of}
use Rattle.write.proofs.Linked.{linked-suc}
use Rattle.write.proofs.Totals.{few_or_many}

-- ---- tables with zeros behind their rows

zeros_at : (n i : ℕ) → get_or {A = ℕ} (replicate n 0) i 0 ≡ 0
zeros_at zero i = refl
zeros_at (suc n) zero = refl
zeros_at (suc n) (suc i) = zeros_at n i

laid-past : (w : List ℕ) (n i : ℕ) → length w ≤ i → get_or (laid w n) i 0 ≡ 0
laid-past w n i h =
    let e : length w + (i - length w) ≡ i = omega arith in
    rw (← e) (get_or-append-add w (replicate (n - length w) 0) (i - length w) 0 ∙ zeros_at (n - length w) (i - length w))

below_or_past : {A : Type 0} (a b : ℕ) → (a < b → A) → (b ≤ a → A) → A
below_or_past {A} a b f g = by (leb b a) refl
  where
    by : (t : Bool) → leb b a ≡ t → A
    by true e = g (leb-true b a e)
    by false e = f (leb-false b a e)

-- ---- the rows of the entries table

words_at_lem :
    (es : List EntryRow) (z : List ℕ) (p j : ℕ) (d : EntryRow) → p < length es → j < 3
    → get_or (flat_map entry_words es ++ z) (3 * p + j) 0 ≡ get_or (entry_words (get_or es p d)) j 0
unfolding flat_map
words_at_lem [] z p j d h k = absurd (omega arith)
words_at_lem (e ∷ es) z zero zero d h k = refl
words_at_lem (e ∷ es) z zero (suc zero) d h k = refl
words_at_lem (e ∷ es) z zero (suc (suc zero)) d h k = refl
words_at_lem (e ∷ es) z zero (suc (suc (suc j))) d h k = absurd (omega arith)
words_at_lem (e ∷ es) z (suc p) j d h k =
    let q : 3 * suc p + j ≡ suc (suc (suc (3 * p + j))) = omega arith in
    rw q (words_at_lem es z p j d (omega arith) k)

length-entry_words : (es : List EntryRow) → length (flat_map entry_words es) ≡ 3 * length es
unfolding flat_map
length-entry_words [] = refl
length-entry_words (e ∷ es) = (let k = length-entry_words es in omega arith)

-- the link of a bucket below n is at most n
link_le : (ts : List ℕ) (c b n : ℕ) → link_below ts c b n ≤ n
unfolding link_below
link_le ts c b zero = omega arith
link_le ts c b (suc n) = by (eqb (get_or ts n 0 % c) b) (link_le ts c b n)
  where
    by : (x : Bool) → link_below ts c b n ≤ n → cond x (suc n) (link_below ts c b n) ≤ suc n
    by true k = le_refl (suc n)
    by false k = omega arith

-- how many buckets there are, and the row of a position
abbrev count : List ℕ → ℕ
count ts = bucket_count (length ts)

abbrev row_for : List ℕ → ℕ → EntryRow
row_for ts p = entry_row (get_or ts p 0) p (link_below ts (count ts) (get_or ts p 0 % count ts) p)

module _ (ts rows : List ℕ) (m : ℕ) (e : rows ≡ laid (flat_map entry_words (entry_rows ts)) m) where
  row_word : (p j : ℕ) → p < entry_count (length ts) → j < 3 → get_or rows (3 * p + j) 0 ≡ get_or (entry_words (row_for ts p)) j 0
  unfolding entry_rows
  row_word p j h k =
      let l = length-up_from (row_for ts) 0 (entry_count (length ts)) in
      let es = map (row_for ts) (up_from 0 (entry_count (length ts))) in
      rw e (words_at_lem es (replicate (m - length (flat_map entry_words es)) 0) p j (row_for ts 0) (omega (arith, l)) k
      ∙ ap (λ (r : EntryRow). get_or (entry_words r) j 0)
      (get_or-up_from (row_for ts) (row_for ts 0) 0 (entry_count (length ts)) p h ∙ ap (row_for ts) (zero-add p)))

  length-rows-words : length (flat_map entry_words (entry_rows ts)) ≡ 3 * entry_count (length ts)
  unfolding entry_rows
  length-rows-words =
      length-entry_words (map (row_for ts) (up_from 0 (entry_count (length ts)))) ∙ ap (λ (k : ℕ). 3 * k) (length-up_from (row_for
      ts) 0 (entry_count (length ts)))

  -- every link leads to an earlier row
  pub rows_fall : LinksFall rows
  rows_fall p =
      below_or_past p (entry_count (length ts))
      (λ h. rw (row_word p 2 h (omega arith)) (link_le ts (count ts) (get_or ts p 0 % count ts) p))
      (λ h. rw (e, laid-past (flat_map entry_words (entry_rows ts)) m (3 * p + 2) (omega (arith, length-rows-words))) (omega arith))

  -- the chain along the links of the positions below n
  chain-below :
      (b n : ℕ) → n ≤ entry_count (length ts)
      → linked rows (link_below ts (count ts) b n) ≡ keep (in_bucket (count ts) b) (falling ts n)
  unfolding link_below keep falling follow_rows
  chain-below b zero h = refl
  chain-below b (suc n) h = by (eqb (get_or ts n 0 % count ts) b) refl (chain-below b n (omega arith))
    where
      by :
          (x : Bool) → eqb (get_or ts n 0 % count ts) b ≡ x
          → linked rows (link_below ts (count ts) b n) ≡ keep (in_bucket (count ts) b) (falling ts n)
          → linked rows (cond x (suc n) (link_below ts (count ts) b n))
          ≡ keep_if x (entry_of (get_or ts n 0) n) (keep (in_bucket (count ts) b) (falling ts n))
      by false q k = k
      by true q k =
          let r : get_or ts n 0 % count ts ≡ b = eqb-true (get_or ts n 0 % count ts) b q in
          let w₀ : get_or rows (3 * n) 0 ≡ get_or ts n 0 = rw (add-zero (3 * n)) at (row_word n 0 (omega arith) (omega arith)) in
          let w₁ : get_or rows (3 * n + 1) 0 ≡ n = row_word n 1 (omega arith) (omega arith) in
          let w₂ : get_or rows (3 * n + 2) 0 ≡ link_below ts (count ts) b n =
          row_word n 2 (omega arith) (omega arith) ∙ ap (λ (i : ℕ). link_below ts (count ts) i n) r in
          linked-suc rows n rows_fall ∙ rw (w₀, w₁, w₂, k)

  module _ (heads : List ℕ) (l : ℕ) (f : heads ≡ laid (bucket_rows ts) l) where
    length-bucket_rows : length (bucket_rows ts) ≡ count ts
    unfolding bucket_rows
    length-bucket_rows = length-up_from (λ b. link_below ts (count ts) b (length ts)) 0 (count ts)

    get_or_head : (b : ℕ) → b < count ts → get_or heads b 0 ≡ link_below ts (count ts) b (length ts)
    unfolding bucket_rows
    get_or_head b h =
        rw f (get_or-append (bucket_rows ts) (replicate (l - length (bucket_rows ts)) 0) 0 b (omega (arith, length-bucket_rows)))
        ∙ get_or-up_from (λ b. link_below ts (count ts) b (length ts)) 0 0 (count ts) b h
        ∙ ap (λ (k : ℕ). link_below ts (count ts) k (length ts)) (zero-add b)

    -- every head lies in the table
    pub heads-stand : 3 * entry_count (length ts) ≤ length rows → (b : ℕ) → 3 * get_or heads b 0 ≤ length rows
    heads-stand r b =
        below_or_past b (count ts)
        (λ h. few_or_many (length ts)
        (λ k. absurd (omega (arith, few-buckets (length ts) k)))
        (λ k. omega (arith, get_or_head b h, link_le ts (count ts) b (length ts), many_entries (length ts) k)))
        (λ h. rw (f, laid-past (bucket_rows ts) l b (omega (arith, length-bucket_rows))) (omega arith))

    map-linked :
        (bs : List ℕ) → length ts ≤ entry_count (length ts)
        → map (linked rows) (map (λ b. link_below ts (count ts) b (length ts)) bs) ≡ map (chain ts (count ts)) bs
    unfolding chain
    map-linked [] h = refl
    map-linked (b ∷ bs) h =
        rw (chain-below b (length ts) h) (ap (λ (cs : List (List Entry)). chain ts (count ts) b ∷ cs) (map-linked bs h))

    -- the chains of the (count ts) are the derived chains
    pub chains-linked : chains_of (take (count ts) heads) rows ≡ chains ts
    unfolding bucket_rows chains up_from
    chains-linked =
        let t : take (count ts) heads ≡ bucket_rows ts =
        rw f (take_at (bucket_rows ts) (replicate (l - length (bucket_rows ts)) 0) (count ts) length-bucket_rows) in
        ap (map (linked rows)) t
        ∙ few_or_many (length ts)
        (λ k. rw (few-buckets (length ts) k))
        (λ k. map-linked (up_from 0 (count ts)) (omega (arith, many_entries (length ts) k)))
