-- Laws of the chains of tags: the two tables after each position that is entered. Assumes nothing.
use Prim.Native.Nat.{ℕ, zero, suc, ◌+◌, ◌*◌, ◌%◌, ◌≤◌, ◌<◌}
use native.Mathlib.Omega.{arith}
use native.Mathlib.Nat.{add-zero, zero-add, mod-lt}
use native.Mathlib.Numerals.{add-one}
use mathlib.Core.Path.{◌≡◌, refl, sym, ap, ◌∙◌}
use mathlib.Core.Bool.{Bool, true, false}
use mathlib.Core.List.{List, [], ◌∷◌, ◌++◌, map, flat_map}
use lib.ListN.{length, get_or, set, replicate, length-set}
use lib.Seq.{ext_get_or, get_or-set_same, get_or-set_other}
use lib.Dec.{eqb}
use borrow.Author.Tests.{eq-eqb, ne_eqb, eqb-true, eqb-false}
use Rattle.format.specs.Chains.{bucket_count, entry_count, up_from}
use Rattle.format.specs.Deriving.{EntryRow, entry_row}
use Rattle.derive_chains.specs.ChainRows.{link_below, bucket_rows, entry_rows}
use Rattle.format.specs.Rows.{entry_words, laid}
use Rattle.derive_chains.specs.Tagging.{buckets_below, entries_below, TagEntered, TagsRoom, Linked}
use Rattle.derive_chains.proofs.Counts.{buckets_positive, entries_le}
use Rattle.tables.proofs.Laid.{laid_none, laid_zeros, get_or-laid, set-laid, sets-laid}

-- ---- a list by position

module _ {A : Type 0} (f : ℕ → A) where
  pub get_or-up_from : (d : A) (i n k : ℕ) → k < n → get_or (map f (up_from i n)) k d ≡ f (i + k)
  unfolding up_from
  get_or-up_from d i zero k h = absurd (omega arith)
  get_or-up_from d i (suc n) zero h = ap f (sym (add-zero i))
  get_or-up_from d i (suc n) (suc k) h =
      let e : suc i + k ≡ i + suc k = omega arith in
      get_or-up_from d (suc i) n k (omega arith) ∙ ap f e

  pub length-up_from : (i n : ℕ) → length (map f (up_from i n)) ≡ n
  unfolding up_from
  length-up_from i zero = refl
  length-up_from i (suc n) = ap suc (length-up_from (suc i) n)

  up_from-more : (i n : ℕ) → map f (up_from i (suc n)) ≡ map f (up_from i n) ++ (f (i + n) ∷ [])
  unfolding up_from
  up_from-more i zero = ap (λ (k : ℕ). f k ∷ []) (sym (add-zero i))
  up_from-more i (suc n) =
      let e : suc i + n ≡ i + suc n = omega arith in
      ap (λ (l : List A). f i ∷ l) (up_from-more (suc i) n ∙ ap (λ (k : ℕ). map f (up_from (suc i) n) ++ (f k ∷ [])) e)

-- ---- the buckets

module _ (tags : List ℕ) (c p : ℕ) where
  length-buckets : length (buckets_below tags c p) ≡ c
  unfolding buckets_below
  length-buckets = length-up_from (λ b. link_below tags c b p) 0 c

  get_or-buckets : (b : ℕ) → b < c → get_or (buckets_below tags c p) b 0 ≡ link_below tags c b p
  unfolding buckets_below
  get_or-buckets b h = get_or-up_from (λ b. link_below tags c b p) 0 0 c b h ∙ ap (λ (k : ℕ). link_below tags c k p) (zero-add b)

module _ (tags : List ℕ) (c p : ℕ) where
  link_here : (b : ℕ) → get_or tags p 0 % c ≡ b → link_below tags c b (suc p) ≡ suc p
  unfolding link_below
  link_here b e = rw (eq-eqb (get_or tags p 0 % c) b e)

  link-other : (b : ℕ) → (get_or tags p 0 % c ≡ b → ⊥) → link_below tags c b (suc p) ≡ link_below tags c b p
  unfolding link_below
  link-other b e = rw (ne_eqb (get_or tags p 0 % c) b e)

  bucket-set :
      (b : ℕ) → b < c → (q : Bool) → eqb (get_or tags p 0 % c) b ≡ q
      → get_or (set (buckets_below tags c p) (get_or tags p 0 % c) (suc p)) b 0 ≡ link_below tags c b (suc p)
  bucket-set b g true e =
      let k : get_or tags p 0 % c ≡ b = eqb-true _ _ e in
      let l : b < length (buckets_below tags c p) = omega (arith, length-buckets tags c p) in
      rw k (get_or-set_same (buckets_below tags c p) b (suc p) 0 l) ∙ sym (link_here b k)
  bucket-set b g false e =
      let k : get_or tags p 0 % c ≡ b → ⊥ = eqb-false _ _ e in
      get_or-set_other (buckets_below tags c p) (get_or tags p 0 % c) b (suc p) 0 (λ r. k (sym r)) ∙ get_or-buckets tags c p b g ∙ sym
      (link-other b k)

  set-buckets : set (buckets_below tags c p) (get_or tags p 0 % c) (suc p) ≡ buckets_below tags c (suc p)
  set-buckets =
      let new = set (buckets_below tags c p) (get_or tags p 0 % c) (suc p) in
      let l : length new ≡ c = length-set (buckets_below tags c p) (get_or tags p 0 % c) (suc p) ∙ length-buckets tags c p in
      ext_get_or 0 new (buckets_below tags c (suc p)) (l ∙ sym (length-buckets tags c (suc p)))
      λ b g. bucket-set b (omega (arith, l, g)) (eqb (get_or tags p 0 % c) b) refl
      ∙ sym (get_or-buckets tags c (suc p) b (omega (arith, l, g)))

no_links : (tags : List ℕ) (c i m : ℕ) → map (λ b. link_below tags c b 0) (up_from i m) ≡ replicate m 0
unfolding link_below up_from
no_links tags c i zero = refl
no_links tags c i (suc m) = ap (λ (l : List ℕ). 0 ∷ l) (no_links tags c (suc i) m)

buckets-none : (tags : List ℕ) (c : ℕ) → buckets_below tags c 0 ≡ replicate c 0
unfolding buckets_below
buckets-none tags c = no_links tags c 0 c

-- ---- the entries

-- the entry of position p
abbrev pub row_for : List ℕ → ℕ → ℕ → EntryRow
row_for tags c p = entry_row (get_or tags p 0) p (link_below tags c (get_or tags p 0 % c) p)

words_append : (a b : List EntryRow) → flat_map entry_words (a ++ b) ≡ flat_map entry_words a ++ flat_map entry_words b
unfolding flat_map
words_append [] b = refl
words_append (e ∷ a) b = simp (words_append a b)

length-words : (a : List EntryRow) → length (flat_map entry_words a) ≡ 3 * length a
unfolding flat_map
length-words [] = refl
length-words (e ∷ a) = simp (length-words a) (omega arith)

module _ (tags : List ℕ) (c p : ℕ) where
  words_more : flat_map entry_words (entries_below tags c (suc p)) ≡ flat_map entry_words (entries_below tags c p) ++ entry_words (row_for
      tags c p)
  unfolding entries_below flat_map
  words_more =
      ap (flat_map entry_words) (up_from-more (row_for tags c) 0 p ∙ ap (λ (k : ℕ). entries_below tags c p ++ (row_for tags c k ∷ []))
      (zero-add p))
      ∙ words_append (entries_below tags c p) (row_for tags c p ∷ [])

  length-entries : length (flat_map entry_words (entries_below tags c p)) ≡ 3 * p
  unfolding entries_below
  length-entries =
      length-words (entries_below tags c p) ∙ ap (λ (k : ℕ). 3 * k) (length-up_from (row_for tags c) 0 p)

-- ---- all positions

all-heads :
    (tags : List ℕ) (n : ℕ)
    → map (λ b. link_below tags (bucket_count n) b n) (up_from 0 (bucket_count n))
    ≡ map (λ b. link_below tags (bucket_count n) b (entry_count n)) (up_from 0 (bucket_count n))
unfolding bucket_count entry_count up_from
all-heads tags zero = refl
all-heads tags (suc zero) = refl
all-heads tags (suc (suc n)) = refl

bucket_rows_lem : (tags : List ℕ) → bucket_rows tags ≡ buckets_below tags (bucket_count (length tags)) (entry_count (length tags))
unfolding bucket_rows buckets_below
bucket_rows_lem tags = all-heads tags (length tags)

entry_rows_lem : (tags : List ℕ) → entry_rows tags ≡ entries_below tags (bucket_count (length tags)) (entry_count (length tags))
unfolding entry_rows entries_below
entry_rows_lem tags = refl

-- ---- the loop

-- the positions below p are entered
pub record Entering (tags : List ℕ) (n p : ℕ) (buckets₀ entries₀ buckets entries : List ℕ) : Type 0 where
  pub within : p ≤ entry_count n
  pub same_buckets : length buckets ≡ length buckets₀
  pub same_entries : length entries ≡ length entries₀
  pub heads : buckets ≡ laid (buckets_below tags (length buckets₀) p) (length buckets₀)
  pub rows : entries ≡ laid (flat_map entry_words (entries_below tags (length buckets₀) p)) (length entries₀)

pub entering_none : {n : ℕ} {b e : List ℕ} (tags : List ℕ) → TagsRoom n b e → Entering tags n 0 b e b e
unfolding entries_below flat_map up_from
entering_none {n} {b} {e} tags r =
    record {
      within = omega arith;
      same_buckets = refl;
      same_entries = refl;
      heads = r.buckets_zero ∙ sym (laid_zeros (length b) (length b) (omega arith)) ∙ rw (buckets-none tags (length b)) refl;
      rows = r.entries_zero ∙ sym (laid_none (length e));
    }

module _ {tags : List ℕ} {n p : ℕ} {b₀ e₀ b e : List ℕ} (room : TagsRoom n b₀ e₀) (s : Entering tags n p b₀ e₀ b e) where
  abbrev c : ℕ
  c = length b₀

  module _ (inside : p < entry_count n) where
    in_bucket_lem : (tag : ℕ) → tag % c < c
    in_bucket_lem tag = mod-lt tag (omega (arith, buckets_positive n (omega arith), room.counted))

    -- what entering position p asks for
    pub entering_asks : (p < 65535) × (0 < length b) × (3 * p + 3 ≤ length e)
    entering_asks =
        let k = buckets_positive n (omega arith) in (
          omega (arith, entries_le n, room.few),
          omega (arith, k, room.counted, s.same_buckets),
          omega (arith, room.entry_room, s.same_entries),
        )

    -- what the bucket of position p led to
    led_to : get_or b (get_or tags p 0 % c) 0 ≡ link_below tags c (get_or tags p 0 % c) p
    led_to =
        let k : get_or tags p 0 % c < length (buckets_below tags c p) = omega (
          arith,
          in_bucket_lem (get_or tags p 0),
          length-buckets tags
              c p,
        ) in
        rw s.heads (get_or-laid (buckets_below tags c p) c (get_or tags p 0 % c) k
        ∙ get_or-buckets tags c p (get_or tags p 0 % c) (in_bucket_lem (get_or tags p 0)))

    pub entering_more :
        {tag : ℕ} {b' e' : List ℕ} → tag ≡ get_or tags p 0 → length b' ≡ length b → length e' ≡ length e → TagEntered tag p b e b' e'
        → Entering tags n (p + 1) b₀ e₀ b' e'
    entering_more {tag} {b'} {e'} t lb le d =
        let i = get_or tags p 0 % c in
        let k : get_or tags p 0 % c < length (buckets_below tags c p) = omega (
          arith,
          in_bucket_lem (get_or tags p 0),
          length-buckets tags
              c p,
        ) in
        let l = length-buckets tags c (suc p) ∙ sym (length-buckets tags c p) in
        let h : 3 * p + 3 ≤ length e₀ = omega (arith, room.entry_room) in
        record {
          within = omega arith;
          same_buckets = lb ∙ s.same_buckets;
          same_entries = le ∙ s.same_entries;
          heads =
              d.bucket ∙ rw (t, s.same_buckets, s.heads, add-one)
              (set-laid (buckets_below tags c p) (buckets_below tags c (suc p)) c i (suc p) k (set-buckets tags c p) l);
          rows =
              d.entry ∙ rw (t, s.same_buckets, led_to, s.rows, add-one, words_more)
              (sets-laid (entry_words (row_for tags c p)) (flat_map entry_words (entries_below tags c p)) (length e₀) (3 * p)
              (length-entries tags c p) h);
        }

  pub entering_all : length tags ≡ n → entry_count n ≤ p → Linked tags b₀ e₀ b e
  entering_all l h =
      let q : p ≡ entry_count n = omega (arith, s.within) in
      record {
        heads = s.heads ∙ rw (bucket_rows_lem tags, l, room.counted, q) refl;
        rows = s.rows ∙ rw (entry_rows_lem tags, l, room.counted, q) refl;
      }
