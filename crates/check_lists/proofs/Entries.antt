-- Rows of a table of entries, and the chains along them compared: entry by entry, and bucket by bucket. Assumes nothing.
use mathlib.Core.Path.{◌≡◌, refl, sym, ap, ◌∙◌}
use mathlib.Core.Bool.{Bool, true, false, ◌&&◌}
use Rattle.std.specs.Prelude.{Option, None, Some}
use mathlib.Core.List.{List, [], ◌∷◌}
use Prim.Native.Nat.{ℕ, zero, suc, ◌+◌, ◌-◌, ◌*◌, ◌/◌, ◌≤◌, ◌<◌}
use native.Mathlib.Omega.{arith}
use lib.ListN.{length, get_or}
use lib.Dec.{eqb, eqb-zero-suc, eqb-suc-zero}
use mathlib.Core.Logic.{◌⊎◌}
use Rattle.format.specs.Chains.{entry_of}
use Rattle.format.specs.Deriving.{EntryRow, entry_row}
use Rattle.format.specs.Check.{onto, no_entry, chain_along, chains_along, same_list, same_entry}
use Rattle.check_lists.specs.Chained.{entries_in, alike}

-- ---- rows of a table

pub row-past : (t : List ℕ) (r : ℕ) → length t / 3 ≤ r → no_entry ≡ get_or (entries_in t) r no_entry
unfolding entries_in
row-past [] r h = refl
row-past (a ∷ []) r h = refl
row-past (a ∷ b ∷ []) r h = refl
row-past (a ∷ b ∷ c ∷ t) zero h = absurd (omega arith)
row-past (a ∷ b ∷ c ∷ t) (suc r) h = row-past t r (omega arith)

pub row_in :
    (t : List ℕ) (r : ℕ) → r < length t / 3
    → entry_row (get_or t (3 * r) 0) (get_or t (3 * r + 1) 0) (get_or t (3 * r + 2) 0) ≡ get_or (entries_in t) r no_entry
unfolding entries_in
row_in [] r h = absurd (omega arith)
row_in (a ∷ []) r h = absurd (omega arith)
row_in (a ∷ b ∷ []) r h = absurd (omega arith)
row_in (a ∷ b ∷ c ∷ t) zero h = refl
row_in (a ∷ b ∷ c ∷ t) (suc r) h =
    let e₀ : 3 * suc r ≡ suc (suc (suc (3 * r))) = omega arith in
    let e₁ : 3 * suc r + 1 ≡ suc (suc (suc (3 * r + 1))) = omega arith in
    let e₂ : 3 * suc r + 2 ≡ suc (suc (suc (3 * r + 2))) = omega arith in
    rw (e₁, e₂, e₀) (row_in t r (omega arith))

-- ---- both stand and are alike

module _ {A : Type 0} (f : A → A → Bool) where
  and-false : (b : Bool) → false ≡ (b && false)
  and-false true = refl
  and-false false = refl

  -- an element in front of each
  pub alike-onto :
      (o p : Option A) (os ps : Option (List A))
      → alike (same_list f) (onto o os) (onto p ps) ≡ (alike f o p && alike (same_list f) os ps)
  unfolding same_list
  alike-onto None p os ps = refl
  alike-onto (Some x) None None ps = refl
  alike-onto (Some x) (Some y) None ps = and-false (f x y)
  alike-onto (Some x) None (Some xs) ps = refl
  alike-onto (Some x) (Some y) (Some xs) None = and-false (f x y)
  alike-onto (Some x) (Some y) (Some xs) (Some ys) = refl

  -- an element in front of one alone
  pub alike-second : (p : Option A) (ps : Option (List A)) → false ≡ alike (same_list f) (Some []) (onto p ps)
  unfolding same_list
  alike-second None ps = refl
  alike-second (Some y) None = refl
  alike-second (Some y) (Some ys) = refl

  pub alike-first : (o : Option A) (os : Option (List A)) → false ≡ alike (same_list f) (onto o os) (Some [])
  unfolding same_list
  alike-first None os = refl
  alike-first (Some x) None = refl
  alike-first (Some x) (Some xs) = refl

-- ---- one chain

-- whether the chains from two links are alike, each of at most n entries
abbrev pub chains_same : List EntryRow → List EntryRow → ℕ → ℕ → ℕ → Bool
chains_same es ds n a b = alike (same_list same_entry) (chain_along es n a) (chain_along ds n b)

module _ (es ds : List EntryRow) where
  -- a chain that ends is alike to one that ends, and to no other
  pub same_ended : (n a b : ℕ) → (a ≡ 0) ⊎ (b ≡ 0) → chains_same es ds n a b ≡ eqb a b
  unfolding chain_along same_list
  same_ended zero zero zero h = refl
  same_ended (suc n) zero zero h = refl
  same_ended zero zero (suc s) h = rw (eqb-zero-suc s)
  same_ended (suc n) zero (suc s) h =
      rw (eqb-zero-suc s)
      (sym (alike-second same_entry (Some (entry_of (get_or ds s no_entry).tag (get_or ds s no_entry).position))
      (chain_along ds n (get_or ds s no_entry).link)))
  same_ended zero (suc r) zero h = rw (eqb-suc-zero r)
  same_ended (suc n) (suc r) zero h =
      rw (eqb-suc-zero r)
      (sym (alike-first same_entry (Some (entry_of (get_or es r no_entry).tag (get_or es r no_entry).position))
      (chain_along es n (get_or es r no_entry).link)))
  same_ended n (suc r) (suc s) h = absurd (omega (arith, h))

  -- no entry is allowed
  pub same_long : (n a b : ℕ) → n ≡ 0 → chains_same es ds n a b ≡ (eqb a 0 && eqb b 0)
  unfolding chain_along same_list
  same_long zero zero zero h = refl
  same_long zero zero (suc s) h = rw (eqb-suc-zero s)
  same_long zero (suc r) b h = rw (eqb-suc-zero r)
  same_long (suc n) a b h = absurd (omega arith)

  -- an entry of each, x and y
  pub same_entries :
      (n left a b : ℕ) → n ≡ left + 1 → (a ≡ 0 → ⊥) → (b ≡ 0 → ⊥) → (x y : EntryRow) → x ≡ get_or es (a - 1) no_entry
      → y ≡ get_or ds (b - 1) no_entry
      → chains_same es ds n a b ≡ (same_entry (entry_of x.tag x.position) (entry_of y.tag y.position)
      && chains_same es ds left x.link y.link)
  unfolding chain_along
  same_entries zero left a b h ha hb x y ex ey = absurd (omega arith)
  same_entries (suc n) left zero b h ha hb x y ex ey = absurd (ha refl)
  same_entries (suc n) left (suc r) zero h ha hb x y ex ey = absurd (hb refl)
  same_entries (suc n) left (suc r) (suc s) h ha hb x y ex ey =
      let en : left ≡ n = omega arith in
      let er : suc r - 1 ≡ r = omega arith in
      let es' : suc s - 1 ≡ s = omega arith in
      rw (en, ex, ey, er, es')
      (alike-onto same_entry (Some (entry_of (get_or es r no_entry).tag (get_or es r no_entry).position))
      (Some (entry_of (get_or ds s no_entry).tag (get_or ds s no_entry).position))
      (chain_along es n (get_or es r no_entry).link) (chain_along ds n (get_or ds s no_entry).link))

  -- the chains of some buckets, link by link
  pub same_buckets_lem :
      (n : ℕ) (ls ks : List ℕ)
      → same_list (chains_same es ds n) ls ks ≡ alike (same_list (same_list same_entry)) (chains_along es n ls) (chains_along ds n ks)
  unfolding chains_along same_list
  same_buckets_lem n [] [] = refl
  same_buckets_lem n [] (k ∷ ks) = alike-second (same_list same_entry) (chain_along ds n k) (chains_along ds n ks)
  same_buckets_lem n (l ∷ ls) [] = alike-first (same_list same_entry) (chain_along es n l) (chains_along es n ls)
  same_buckets_lem n (l ∷ ls) (k ∷ ks) =
      ap (λ (b : Bool). chains_same es ds n l k && b) (same_buckets_lem n ls ks)
      ∙ sym (alike-onto (same_list same_entry) (chain_along es n l) (chain_along ds n k) (chains_along es n ls) (chains_along ds n ks))
