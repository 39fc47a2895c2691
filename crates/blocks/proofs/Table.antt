-- The laws of a pool in a table. In order: the size and the table of zeros; one table holds one pool; the ways out of `find`
-- and `cached_as`. Storing a row is in `Storing`. Assumes nothing.
use mathlib.Core.Path.{◌≡◌, refl, sym, ap, subst, ◌∙◌}
use mathlib.Core.Bool.{true, false}
use Rattle.std.specs.Prelude.{Option, None, Some, Result, Ok, Err}
use mathlib.Core.List.{List, []}
use mathlib.Core.Logic.{◌⊎◌, inl, inr, ⊎_elim}
use Prim.Native.Nat.{ℕ, zero, suc, ◌+◌, ◌*◌, ◌/◌, ◌<◌, ◌≤◌}
use native.Mathlib.Omega.{arith}
use borrow.Author.Tests.{eq-eqb}
use lib.ListN.{length, get_or, length-replicate, get_or-replicate, get_or-eq_default}
use Rattle.format.specs.declared.Refusal.TheVariants.{OtherKind}
use Rattle.format.specs.Rows.{cleared}
use Rattle.format.specs.Tables.{Kind, rows, Pooled, pooled, find, same_kind, as_kind}
use Rattle.blocks.specs.Kinds.{meant_kind, kind_from}
use Rattle.blocks.specs.declared.kinds.Kind as ours
use Rattle.format.specs.declared.Refusal.{Refusal}
use Rattle.blocks.specs.declared.pool.Pooled as our
use Rattle.blocks.specs.declared.pool.Stored.{Stored}
use Rattle.blocks.specs.Tree.{kind_in, link_in, linkable, path_at}
use Rattle.blocks.specs.Hashed.{pool_rows, code_at, key, links, val, used, HashHolds, Represents, Missed, FarPast}
use Rattle.blocks.specs.Hashed.{PlacedIn, near, along, beyond, Untaken, PlacedAt, Reaches}
use Rattle.blocks.specs.declared.pool.Spot.{Spot}
use Rattle.blocks.specs.declared.pool.Spot.TheVariants.{Row, Tree, Full}
use Rattle.blocks.specs.Hashed.Reaches.{near as reaches-near, along as reaches-along, beyond as reaches-beyond}
use Rattle.blocks.specs.Pool.{meant_found, meant_cached, Finds, FindsAs}
use Rattle.blocks.proofs.Cases.{le-or-lt, eq-or-ne}
use Rattle.blocks.proofs.Paths.{linkable_le, path_lt, path-back, below_suc}
use Rattle.blocks.proofs.Search.{size-le, path-used, near_absent, tree_absent, beyond_absent}
use Rattle.blocks.proofs.Links.{link_left, link-right}
use Rattle.blocks.proofs.Scanning.{key-free, key-used, key-address}

-- a pool has at most as many rows as its table
pub represents_size : {t : List ℕ} {n : ℕ} {q : List Pooled} → Represents t n q → length q ≤ n
represents_size {t} {n} {q} h = size-le n (key t) (links t) (val t) q h.holds

-- the invariant at the table's own number of rows
pub holds_rows : {t : List ℕ} {n : ℕ} {q : List Pooled} → Represents t n q → HashHolds (pool_rows t) (key t) (links t) (val t) q
holds_rows {t} {n} {q} h = subst (λ (m : ℕ). HashHolds m (key t) (links t) (val t) q) (sym h.size) h.holds

-- ---- the table of zeros

used-none : (key : ℕ → ℕ) (n : ℕ) → ((i : ℕ) → i < n → key i ≡ 0) → 0 ≡ used key n
unfolding used
used-none key zero f = refl
used-none key (suc n) f = simp (eq-eqb (key n) 0 (f n (omega arith))) (used-none key n (λ i l. f i (omega arith)))

length_zeros : (n : ℕ) → length (cleared n) ≡ n
length_zeros n = length-replicate n 0

get_or_zeros : (n i : ℕ) → get_or (cleared n) i 0 ≡ 0
get_or_zeros n i =
    ⊎_elim
    (λ l. let h : length (cleared n) ≤ i = omega (arith, length_zeros n) in get_or-eq_default (cleared n) 0 h)
    (λ l. get_or-replicate n i 0 0 l)
    (le-or-lt n i)

-- it has no links, and so no path
no_path : (link : ℕ → ℕ → ℕ) (m a d i : ℕ) → link 0 0 ≡ 0 → path_at link m a d ≡ suc i → ⊥
unfolding path_at
no_path link m a zero i z e = omega (arith, (below_suc m (link 0 0) i e).0)
no_path link m a (suc d) i z e = let b = path-back link m a d i e in no_path link m a d b.0 z b.1

word-links : (s : ℕ) → link_in 0 s ≡ 0
word-links zero = link_left 0
word-links (suc s) = link-right 0 (suc s) (omega arith)

-- it holds the empty pool
pub represents_zero : (n : ℕ) → Represents (cleared n) (n / 4) []
unfolding find links
represents_zero n =
    let zeros : List ℕ = cleared n in
    let size : length zeros ≡ n = length_zeros n in
    let word : (i : ℕ) → get_or zeros i 0 ≡ 0 = λ i. get_or_zeros n i in
    let free : (i : ℕ) → key zeros i ≡ 0 = λ i. key-free zeros i (ap kind_in (word (4 * i + 1))) in
    let None : (i s : ℕ) → links zeros i s ≡ 0 = λ i s. ap (λ (w : ℕ). link_in w s) (word (4 * i + 1)) ∙ word-links s in
    record {
      size = ap (λ (m : ℕ). m / 4) size;
      holds =
          record {
            reach = λ a j l k. absurd (omega (arith, free j));
            here = λ a j l k. absurd (omega (arith, free j));
            nowhere = λ a f. refl;
            size = used-none (key zeros) (n / 4) (λ i l. free i);
            taken = λ i l o. absurd (omega (arith, None 0 1));
            led = λ a d i e. absurd (no_path (links zeros) (linkable (n / 4)) a d i (None 0 0) e);
            alike = λ a d i b c e k l. absurd (no_path (links zeros) (linkable (n / 4)) a d i (None 0 0) e);
            bare = λ i s h l o z. None i s;
          };
    }

-- ---- the table determines the pool, but for the order of its rows

at_or_nowhere : (key : ℕ → ℕ) (a n : ℕ) → ((j : ℕ) × (j < n) × (key j ≡ a)) ⊎ ((j : ℕ) → j < n → key j ≡ a → ⊥)
at_or_nowhere key a zero = inr (λ j l e. omega arith)
at_or_nowhere key a (suc n) = by (at_or_nowhere key a n) (eq-or-ne (key n) a)
  where
    by :
        ((j : ℕ) × (j < n) × (key j ≡ a)) ⊎ ((j : ℕ) → j < n → key j ≡ a → ⊥) → (key n ≡ a) ⊎ (key n ≡ a → ⊥) →
        ((j : ℕ) × (j < suc n) × (key j ≡ a)) ⊎ ((j : ℕ) → j < suc n → key j ≡ a → ⊥)
    by (inl h) d = inl (h.0, omega (arith, h.1), h.2)
    by (inr h) (inl e) = inl (n, omega arith, e)
    by (inr h) (inr d) = inr (λ j l e. ⊎_elim (λ s. d (sym (ap key s) ∙ e)) (λ s. h j (omega arith) e) (eq-or-ne j n))

module _ {t : List ℕ} {n : ℕ} {q p : List Pooled} (h : Represents t n q) (g : Represents t n p) where
  pub represents_find : (a : ℕ) → find a q ≡ find a p
  represents_find a =
      ⊎_elim
      (λ w. h.holds.here a w.0 w.1 w.2 ∙ sym (g.holds.here a w.0 w.1 w.2))
      (λ w. h.holds.nowhere a w ∙ sym (g.holds.nowhere a w))
      (at_or_nowhere (key t) (suc a) n)

  pub represents_length : length q ≡ length p
  represents_length = h.holds.size ∙ sym g.holds.size

-- ---- find

module _ (t : List ℕ) (a i : ℕ) where
  -- the row where the search ends lies in the table
  pub row_lt : PlacedIn t a i → i < pool_rows t
  row_lt (near l x f e) = l
  row_lt (along f h) =
      omega (arith, linkable_le (pool_rows t), path_lt (links t) (linkable (pool_rows t)) a h.depth i h.is)
  row_lt (beyond h) = h.scanned.high

  -- it is the address's, if it is not free
  pub row-own : PlacedIn t a i → 0 < key t i → key t i ≡ suc a
  row-own (near l x f e) u = e u
  row-own (along f h) u = by (kind_in (code_at t i)) refl
    where
      by : (k : ℕ) → kind_in (code_at t i) ≡ k → key t i ≡ suc a
      by zero e = absurd (omega (arith, key-free t i e))
      by (suc k) e = key-used t i (λ z. omega arith) ∙ ap suc h.address
  row-own (beyond h) u = h.scanned.ends u

  -- the search comes to the row
  pub placed_reaches :
      PlacedIn t a i → {q : List Pooled} → HashHolds (pool_rows t) (key t) (links t) (val t) q →
      Reaches (pool_rows t) (key t) (links t) a i
  placed_reaches (near l x f e) {q} H = reaches-near x f
  placed_reaches (along f h) {q} H =
      reaches-along h.depth f h.is λ d j l p.
      (path-used (pool_rows t) (key t) (links t) (val t) q H a d j p, λ k. h.before d j l p (key-address t j a k))
  placed_reaches (beyond h) {q} H =
      reaches-beyond h.missed.near
      (λ d j p. (path-used (pool_rows t) (key t) (links t) (val t) q H a d j p, λ k. h.missed.path d j p (key-address t j a k)))
      (λ j s. ⊎_elim (λ d. H.taken j d s) (λ d. h.full j d) (le-or-lt (linkable (pool_rows t)) (j + links t 0 1)))
      h.scanned.passed h.scanned.low

-- where it ends at a free row, or at no row, no row has the address
module _ (t : List ℕ) (a : ℕ) {q : List Pooled} (H : HashHolds (pool_rows t) (key t) (links t) (val t) q) where
  abbrev Absent : Type 0
  Absent = (j : ℕ) → j < pool_rows t → key t j ≡ suc a → ⊥

  missed : Missed t a → (d i : ℕ) → path_at (links t) (linkable (pool_rows t)) a d ≡ suc i → key t i ≡ suc a → ⊥
  missed m d i p s = m.path d i p (key-address t i a s)

  pub free-absent : (i : ℕ) → PlacedIn t a i → key t i ≡ 0 → Absent
  free-absent i (near l x f e) z j o k =
      near_absent (pool_rows t) (key t) (links t) (val t) q H a i l x f z j o k
  free-absent i (along f h) z j o k =
      let u : 0 < key t i = path-used (pool_rows t) (key t) (links t) (val t) q H a h.depth i h.is in omega arith
  free-absent i (beyond h) z j o k =
      beyond_absent (pool_rows t) (key t) (links t) (val t) q H a h.missed.near (missed h.missed) i
      h.scanned.passed (λ l. z) h.scanned.low (omega (arith, h.scanned.high)) j o k

  pub untaken-absent : (f : ℕ) → Untaken t a f → Absent
  untaken-absent f h j o k =
      tree_absent (pool_rows t) (key t) (links t) (val t) q H a h.missed.near (missed h.missed) f h.free.low h.free.free j o k

  pub full-absent : FarPast t a None → Absent
  full-absent h j o k =
      beyond_absent (pool_rows t) (key t) (links t) (val t) q H a h.missed.near (missed h.missed) (pool_rows t)
      h.scanned (λ l. absurd (omega arith)) (linkable_le (pool_rows t)) (omega arith) j o k

module _ (t : List ℕ) (a : ℕ) where
  module _ (i : ℕ) (p : PlacedIn t a i) where
    pub finds-here :
        (k : ours.Kind) → (kind_in (code_at t i) ≡ 0 → ⊥) → meant_kind k ≡ kind_from (kind_in (code_at t i)) →
        Finds t a
        (Some (record { kind = k; stored = record { first = get_or t (4 * i + 2) 0; count = get_or t (4 * i + 3) 0 } }))
    unfolding val
    finds-here k n e =
        let used : key t i ≡ suc (get_or t (4 * i) 0) = key-used t i n in
        let own : key t i ≡ suc a = row-own t a i p (omega (arith, used)) in
        let is : a ≡ get_or t (4 * i) 0 = omega (arith, used, own) in
        let f : ℕ = get_or t (4 * i + 2) 0 in
        let c : ℕ = get_or t (4 * i + 3) 0 in
        record {
          found =
              λ h.
              ap (λ (x : Kind). Some (pooled a x (rows f c))) e
              ∙ ap (λ (x : ℕ). Some (pooled x (kind_from (kind_in (code_at t i))) (rows f c))) is
              ∙ sym ((holds_rows h).here a i (row_lt t a i p) own);
        }

    pub finds-free : kind_in (code_at t i) ≡ 0 → Finds t a None
    finds-free e =
        record { found = λ h. sym ((holds_rows h).nowhere a (free-absent t a (holds_rows h) i p (key-free t i e))) }

  -- at no row
  pub finds-nowhere : (s : Spot) → PlacedAt t a s → ((i : ℕ) → s ≡ Row i → ⊥) → Finds t a None
  finds-nowhere (Row i) p n = absurd (n i refl)
  finds-nowhere (Tree f) p n = record { found = λ h. sym ((holds_rows h).nowhere a (untaken-absent t a (holds_rows h) f p)) }
  finds-nowhere Full p n = record { found = λ h. sym ((holds_rows h).nowhere a (full-absent t a (holds_rows h) p)) }

-- nothing is found in a cleared table
none_found : (a : ℕ) (r : Option our.Pooled) → meant_found a r ≡ None → r ≡ None
none_found a None e = refl
none_found a (Some p) e = let z : ◌≡◌ {A = ℕ} 0 1 = cc in absurd (omega arith)

pub find-cleared : (n : ℕ) {a : ℕ} {r : Option our.Pooled} → Finds (cleared n) a r → r ≡ None
unfolding find
find-cleared n {a} {r} m = none_found a r (m.found (represents_zero n))

-- ---- cached_as

module _ (t : List ℕ) (k : Kind) (a : ℕ) {r : Option our.Pooled} (m : Finds t a r) where
  cached : (w : Result (Option Stored) Refusal) → meant_cached w ≡ as_kind k (meant_found a r) → FindsAs t k a w
  cached w v = record { found = λ h. v ∙ ap (as_kind k) (m.found h) }

  pub cached_nothing : r ≡ None → FindsAs t k a (Ok None)
  unfolding as_kind
  cached_nothing e = cached (Ok None) (rw e refl)

  module _ (p : our.Pooled) (e : r ≡ Some p) where
    pub cached_here : same_kind (meant_kind p.kind) k ≡ true → FindsAs t k a (Ok (Some p.stored))
    unfolding as_kind
    cached_here s = cached (Ok (Some p.stored)) (rw e (simp s))

    pub cached_other : same_kind (meant_kind p.kind) k ≡ false → FindsAs t k a (Err OtherKind)
    unfolding as_kind
    cached_other s = cached (Err OtherKind) (rw e (simp s))
