-- How many buckets there are, and how many entries the derived chains have together: each position falls into one bucket, so that
-- they are as many as the format counts. Assumes nothing.
use mathlib.Core.Path.{◌≡◌, refl, sym, ap, ◌∙◌}
use mathlib.Core.Bool.{Bool, true, false, cond}
use mathlib.Core.List.{List, [], ◌∷◌, map}
use Prim.Native.Nat.{ℕ, zero, suc, ◌+◌, ◌%◌, ◌≤◌, ◌<◌}
use native.Mathlib.Nat.{mod-lt, le_refl}
use native.Mathlib.Omega.{arith}
use borrow.Author.Tests.{eqb-true, eqb-false}
use lib.ListN.{length}
use lib.Dec.{T, ltb, leb, leb→le}
use Rattle.format.specs.Field.{Each}
use Rattle.format.specs.Chains.{ladder, first_above, num_hash_buckets, bucket_count, entry_count, Entry}
use Rattle.format.specs.Chains.{keep_if, keep, falling, in_bucket, chain, up_from, chains}
use Rattle.format.specs.Layout.{entry_total}
use Rattle.derive_chains.proofs.Counts.{few-buckets, few-entries, many_entries, buckets_positive}
use Rattle.derive_chains.proofs.Tagging.{length-up_from}

-- ---- how many buckets there are

above_le : (n : ℕ) (l : List ℕ) → Each (λ b. b ≤ 65521) l → first_above n l ≤ 65521
unfolding first_above
above_le n [] h = le_refl 65521
above_le n (b ∷ l) h = by (ltb n b) (above_le n l h.1)
  where
    by : (x : Bool) → first_above n l ≤ 65521 → cond x b (first_above n l) ≤ 65521
    by true k = h.0
    by false k = k

ladder_le : Each (λ b. b ≤ 65521) ladder
ladder_le =
    let ok : (b : ℕ) → T (leb b 65521) → b ≤ 65521 = λ b t. leb→le b 65521 t in (
      ok 11 tt,
      (
        ok 29 tt,
        (
          ok 59 tt,
          (
            ok 107 tt,
            (
              ok 191 tt,
              (
                ok 331 tt,
                (
                  ok 563 tt,
                  (
                    ok 953 tt,
                    (
                      ok 1609 tt,
                      (
                        ok 2729 tt,
                        (
                          ok 4621 tt,
                          (
                            ok 7841 tt,
                            (
                              ok 13297 tt,
                              (ok 22571 tt, (ok 38351 tt, (ok 65167 tt, tt))),
                            ),
                          ),
                        ),
                      ),
                    ),
                  ),
                ),
              ),
            ),
          ),
        ),
      ),
    )

pub bucket_count_le : (n : ℕ) → bucket_count n ≤ 65521
unfolding bucket_count num_hash_buckets
bucket_count_le zero = omega arith
bucket_count_le (suc zero) = omega arith
bucket_count_le (suc (suc n)) = above_le (suc (suc n)) ladder ladder_le

pub length-chains : (ts : List ℕ) → length (chains ts) ≡ bucket_count (length ts)
unfolding chains
length-chains ts = length-up_from (chain ts (bucket_count (length ts))) 0 (bucket_count (length ts))

-- ---- how many entries the chains have

one : Bool → ℕ
one true = 1
one false = 0

-- how many buckets of a list an entry falls into
hits : ℕ → Entry → List ℕ → ℕ
hits c e [] = 0
hits c e (b ∷ bs) = one (in_bucket c b e) + hits c e bs

-- of m numbers from i on, none is a remainder below i, and one is a remainder among them
hits_none : (c i m : ℕ) (e : Entry) → e.tag % c < i → hits c e (up_from i m) ≡ 0
unfolding hits up_from one
hits_none c i zero e h = refl
hits_none c i (suc m) e h = go (in_bucket c i e) refl (hits_none c (suc i) m e (omega arith))
  where
    go : (x : Bool) → in_bucket c i e ≡ x → hits c e (up_from (suc i) m) ≡ 0 → one x + hits c e (up_from (suc i) m) ≡ 0
    go true q k = absurd (omega (arith, eqb-true (e.tag % c) i q))
    go false q k = omega (arith, k)

hits_one : (c i m : ℕ) (e : Entry) → i ≤ e.tag % c → e.tag % c < i + m → hits c e (up_from i m) ≡ 1
unfolding hits up_from one
hits_one c i zero e h k = absurd (omega arith)
hits_one c i (suc m) e h k =
    go (in_bucket c i e) refl (λ r. hits_one c (suc i) m e (omega (arith, r)) (omega arith))
  where
    go :
        (x : Bool) → in_bucket c i e ≡ x → ((e.tag % c ≡ i → ⊥) → hits c e (up_from (suc i) m) ≡ 1)
        → one x + hits c e (up_from (suc i) m) ≡ 1
    go true q f =
        let r : e.tag % c ≡ i = eqb-true (e.tag % c) i q in
        omega (arith, hits_none c (suc i) m e (omega (arith, r)))
    go false q f = omega (arith, f (eqb-false (e.tag % c) i q))

length-keep_if : (x : Bool) (e : Entry) (l : List Entry) → length (keep_if x e l) ≡ one x + length l
unfolding one
length-keep_if true e l = (let q : suc (length l) ≡ 1 + length l = omega arith in q)
length-keep_if false e l = (let q : length l ≡ 0 + length l = omega arith in q)

-- the entries sorted into some buckets
abbrev sorted : ℕ → List Entry → List ℕ → List (List Entry)
sorted c es bs = map (λ b. keep (in_bucket c b) es) bs

total-cons :
    (c : ℕ) (e : Entry) (es : List Entry) (bs : List ℕ)
    → entry_total (sorted c (e ∷ es) bs) ≡ hits c e bs + entry_total (sorted c es bs)
unfolding entry_total keep hits
total-cons c e es [] = refl
total-cons c e es (b ∷ bs) = omega (arith, length-keep_if (in_bucket c b e) e (keep (in_bucket c b) es), total-cons c e es bs)

total_none : (c : ℕ) (bs : List ℕ) → entry_total (sorted c [] bs) ≡ 0
unfolding entry_total keep
total_none c [] = refl
total_none c (b ∷ bs) = omega (arith, total_none c bs)

total_sorted : (c : ℕ) (es : List Entry) → 0 < c → entry_total (sorted c es (up_from 0 c)) ≡ length es
total_sorted c [] h = total_none c (up_from 0 c)
total_sorted c (e ∷ es) h =
    let r : e.tag % c < c = mod-lt e.tag h in
    omega (arith, total-cons c e es (up_from 0 c), hits_one c 0 c e (omega arith) (omega arith), total_sorted c es h)

length-falling : (ts : List ℕ) (n : ℕ) → length (falling ts n) ≡ n
unfolding falling
length-falling ts zero = refl
length-falling ts (suc n) = ap suc (length-falling ts n)

total_few : (ts : List ℕ) → length ts < 2 → entry_total (chains ts) ≡ entry_count (length ts)
unfolding chains entry_total up_from
total_few ts h = rw (few-buckets (length ts) (omega arith), few-entries (length ts) (omega arith))

total_many : (ts : List ℕ) → 2 ≤ length ts → entry_total (chains ts) ≡ entry_count (length ts)
unfolding chains chain
total_many ts h =
    let c = bucket_count (length ts) in
    total_sorted c (falling ts (length ts)) (buckets_positive (length ts) (omega (arith, many_entries (length ts) h)))
    ∙ length-falling ts (length ts) ∙ sym (many_entries (length ts) h)

-- a number is below two or not
pub few_or_many : {A : Type 0} (n : ℕ) → (n < 2 → A) → (2 ≤ n → A) → A
few_or_many zero f g = f (omega arith)
few_or_many (suc zero) f g = f (omega arith)
few_or_many (suc (suc n)) f g = g (omega arith)

pub entry_total_lem : (ts : List ℕ) → entry_total (chains ts) ≡ entry_count (length ts)
entry_total_lem ts = few_or_many (length ts) (total_few ts) (total_many ts)
