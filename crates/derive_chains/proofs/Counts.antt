-- Laws of the numbers of buckets and entries: which counts have the same, and what fewer than two bones have. Assumes nothing.
use Prim.Native.Nat.{ℕ, zero, suc, ◌≤◌, ◌<◌}
use native.Mathlib.Omega.{arith}
use mathlib.Core.Path.{◌≡◌, refl, sym, ◌∙◌}
use mathlib.Core.Bool.{Bool, true, false, cond}
use mathlib.Core.List.{List, [], ◌∷◌}
use lib.Dec.{T, ltb, leb, leb→le}
use borrow.Author.Tests.{lt-ltb, le-ltb, ltb-true, ltb-false}
use Rattle.format.specs.Field.{Each}
use Rattle.format.specs.Chains.{ladder, first_above, num_hash_buckets, bucket_count, entry_count}

-- ---- the first of a list greater than n

module _ (m n : ℕ) (from : m ≤ n) where
  -- it stays until the count reaches it
  first_above_stays : (l : List ℕ) → n < first_above m l → first_above n l ≡ first_above m l
  unfolding first_above
  first_above_stays [] below = refl
  first_above_stays (b ∷ l) below = by (ltb m b) refl below (first_above_stays l)
    where
      by : (q : Bool) → ltb m b ≡ q → n < cond q b (first_above m l)
          → (n < first_above m l → first_above n l ≡ first_above m l)
          → first_above n (b ∷ l) ≡ cond q b (first_above m l)
      by true e h k = rw (lt-ltb n b h)
      by false e h k = rw (le-ltb n b (omega (arith, ltb-false m b e)), k h)

  -- where none is above m, none is above n
  first_above-none : (l : List ℕ) → Each (λ b. T (leb b m)) l → first_above n l ≡ 65521
  unfolding first_above
  first_above-none [] none = refl
  first_above-none (b ∷ l) none = rw (le-ltb n b (omega (arith, leb→le b m none.0)), first_above-none l none.1)

-- ---- the number of buckets

-- a count has those of a smaller one until it reaches them
pub buckets_stay : {m n b : ℕ} → num_hash_buckets m ≡ b → m ≤ n → n < b → b ≡ num_hash_buckets n
unfolding num_hash_buckets
buckets_stay {m} {n} e from below = sym (first_above_stays m n from ladder (rw (sym e) at below) ∙ e)

-- it has 65521 from the last of the ladder on
pub buckets-end : {n : ℕ} → 65167 ≤ n → 65521 ≡ num_hash_buckets n
unfolding num_hash_buckets
buckets-end {n} from = sym (first_above-none 65167 n from ladder (search))

-- ---- fewer than two bones

pub few-buckets : (n : ℕ) → n < 2 → bucket_count n ≡ 0
unfolding bucket_count
few-buckets zero h = refl
few-buckets (suc zero) h = refl
few-buckets (suc (suc n)) h = absurd (omega arith)

pub many_buckets : (n : ℕ) → 2 ≤ n → bucket_count n ≡ num_hash_buckets n
unfolding bucket_count
many_buckets zero h = absurd (omega arith)
many_buckets (suc zero) h = absurd (omega arith)
many_buckets (suc (suc n)) h = refl

pub few-entries : (n : ℕ) → n ≤ 1 → entry_count n ≡ 0
unfolding entry_count
few-entries zero h = refl
few-entries (suc zero) h = refl
few-entries (suc (suc n)) h = absurd (omega arith)

pub many_entries : (n : ℕ) → 1 < n → entry_count n ≡ n
unfolding entry_count
many_entries zero h = absurd (omega arith)
many_entries (suc zero) h = absurd (omega arith)
many_entries (suc (suc n)) h = refl

-- ---- where there are entries there are buckets

pick_positive : (q : Bool) (b m : ℕ) → (q ≡ true → 0 < b) → 0 < m → 0 < cond q b m
pick_positive true b m h k = h refl
pick_positive false b m h k = k

first_above_positive : (n : ℕ) (l : List ℕ) → 0 < first_above n l
unfolding first_above
first_above_positive n [] = omega arith
first_above_positive n (b ∷ l) = pick_positive (ltb n b) b _ (λ e. omega (arith, ltb-true n b e)) (first_above_positive n l)

pub buckets_positive : (n : ℕ) → 0 < entry_count n → 0 < bucket_count n
unfolding bucket_count entry_count num_hash_buckets
buckets_positive zero h = h
buckets_positive (suc zero) h = h
buckets_positive (suc (suc n)) h = first_above_positive (suc (suc n)) ladder

pub entries_le : (n : ℕ) → entry_count n ≤ n
unfolding entry_count
entries_le zero = omega arith
entries_le (suc zero) = omega arith
entries_le (suc (suc n)) = omega arith
