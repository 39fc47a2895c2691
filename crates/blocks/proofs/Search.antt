-- The search over rows that are functions of their number. In order: addresses that have no row; one row for each; where a path ends.
-- That storing a row keeps the invariant is in `Keeping`. Assumes nothing.
use mathlib.Core.Path.{◌≡◌, sym, ap, ◌∙◌}
use mathlib.Core.List.{List}
use mathlib.Core.Logic.{⊎_elim}
use Prim.Native.Nat.{ℕ, zero, suc, ◌+◌, ◌<◌, ◌≤◌}
use native.Mathlib.Nat.{eq-or-lt_of_le}
use native.Mathlib.Omega.{arith}
use lib.ListN.{length}
use Rattle.format.specs.Tables.{Pooled}
use Rattle.blocks.specs.Tree.{linkable, path_at, EndsBehind}
use Rattle.blocks.specs.Hashed.{home_of, IsNear, Other, Reaches, near, along, beyond, HashHolds}
use Rattle.blocks.proofs.Cases.{le-or-lt}
use Rattle.blocks.proofs.Paths.{side_lt, path_lt}
use Rattle.blocks.proofs.Counting.{used_le, used_all}

-- ---- what the end of a search tells

module _ (n : ℕ) (key : ℕ → ℕ) (link : ℕ → ℕ → ℕ) (val : ℕ → Pooled) (q : List Pooled) (H : HashHolds n key link val q) where
  abbrev m : ℕ
  m = linkable n

  abbrev path : ℕ → ℕ → ℕ
  path a d = path_at link m a d

  -- the rows of a path are used
  pub path-used : (a d i : ℕ) → path a d ≡ suc i → 0 < key i
  path-used a d i e = H.taken i (H.led a d i e) (path_lt link m a d i e)

  pub size-le : length q ≤ n
  size-le = omega (arith, H.size, used_le key n)

  pub all-full : ((i : ℕ) → i < n → 0 < key i) → length q ≡ n
  all-full f = H.size ∙ used_all key n f

  -- no row has an address whose search ends at a free row near its home
  pub near_absent :
      (a r : ℕ) → r < n → IsNear n a r → ((i : ℕ) → home_of a n ≤ i → i < r → Other key a i) → key r ≡ 0 →
      (j : ℕ) → j < n → key j ≡ suc a → ⊥
  near_absent a r l x f z j o k = by (H.reach a j o k)
    where
      used_r : Other key a r → ⊥
      used_r u = omega (arith, u.0)

      by : Reaches n key link a j → ⊥
      by (near y g) =
          ⊎_elim
          (λ s. ⊎_elim (λ e. omega (arith, ap key e)) (λ e. used_r (g r x.0 e)) (eq-or-lt_of_le {n = r} {m = j} s))
          (λ s. (f j y.0 s).1 k)
          (le-or-lt r j)
      by (along d g p h) = used_r (g r x l)
      by (beyond g p u h y) = used_r (g r x l)

  -- or ends behind its path: in the tree, or behind the rows that can be linked
  module _
      (a : ℕ) (full : (i : ℕ) → IsNear n a i → i < n → Other key a i) (missed : (e i : ℕ) → path a e ≡ suc i → key i ≡ suc a → ⊥)
    where
      pub tree_absent : (f : ℕ) → f < m → key f ≡ 0 → (j : ℕ) → j < n → key j ≡ suc a → ⊥
      tree_absent f l z j o k = by (H.reach a j o k)
        where
          by : Reaches n key link a j → ⊥
          by (near y g) = (full j y o).1 k
          by (along d g p h) = missed d j p k
          by (beyond g p u h y) = omega (arith, u f l)

      pub beyond_absent :
          (r : ℕ) → ((i : ℕ) → m ≤ i → i < r → Other key a i) → (r < n → key r ≡ 0) → m ≤ r → r ≤ n →
          (j : ℕ) → j < n → key j ≡ suc a → ⊥
      beyond_absent r f z lo hi j o k = by (H.reach a j o k)
        where
          by : Reaches n key link a j → ⊥
          by (near y g) = (full j y o).1 k
          by (along d g p h) = missed d j p k
          by (beyond g p u h y) =
              ⊎_elim
              (λ s.
              ⊎_elim
              (λ e. omega (arith, ap key e, z (omega arith)))
              (λ e. let v : 0 < key r = (h r lo e).0 in omega (arith, z (omega arith)))
              (eq-or-lt_of_le {n = r} {m = j} s))
              (λ s. (f j y s).1 k)
              (le-or-lt r j)

  -- ---- one row for an address

  pub unique : (a i j : ℕ) → i < n → j < n → key i ≡ suc a → key j ≡ suc a → i ≡ j
  unique a i j l o u v = by (H.reach a i l u) (H.reach a j o v)
    where
      other_i : Other key a i → ⊥
      other_i w = w.1 u

      other_j : Other key a j → ⊥
      other_j w = w.1 v

      between :
          (from : ℕ) → from ≤ i → from ≤ j → ((k : ℕ) → from ≤ k → k < i → Other key a k) →
          ((k : ℕ) → from ≤ k → k < j → Other key a k) → i ≡ j
      between from x y f g =
          ⊎_elim
          (λ s. ⊎_elim (λ e. e) (λ e. absurd (other_i (g i x e))) (eq-or-lt_of_le {n = i} {m = j} s))
          (λ s. absurd (other_j (f j y s)))
          (le-or-lt i j)

      by : Reaches n key link a i → Reaches n key link a j → i ≡ j
      by (near x f) (near y g) = between (home_of a n) x.0 y.0 f g
      by (near x f) (along d g p h) = absurd (other_i (g i x l))
      by (near x f) (beyond g p w h y) = absurd (other_i (g i x l))
      by (along d f p h) (near y g) = absurd (other_j (f j y o))
      by (along d f p h) (along e g r k) =
          ⊎_elim
          (λ s.
          ⊎_elim
          (λ t. let w : suc i ≡ suc j = sym p ∙ ap (path a) t ∙ r in omega arith)
          (λ t. absurd (other_i (k d i t p)))
          (eq-or-lt_of_le {n = d} {m = e} s))
          (λ s. absurd (other_j (h e j s r)))
          (le-or-lt d e)
      by (along d f p h) (beyond g r w k y) = absurd (other_i (r d i p))
      by (beyond f p w h x) (near y g) = absurd (other_j (f j y o))
      by (beyond f p w h x) (along d g r k) = absurd (other_j (p d j r))
      by (beyond f p w h x) (beyond g r c k y) = between m x y h k

  -- ---- where a path ends, when a row that can be linked is free

  module _ (f : ℕ) (linked : f < m) (free : key f ≡ 0) where
    -- the rows known to be taken are above it
    pub untaken : f + link 0 1 < m
    untaken = ⊎_elim (λ l. let u = H.taken f l linked in absurd (omega arith)) (λ l. l) (le-or-lt m (f + link 0 1))

    -- only the link of the tree itself is at row 0
    pub tip_first : (a d at s : ℕ) → EndsBehind link m a d at s → at ≡ 0 → s ≡ 0
    tip_first a zero at s t e = t.1
    tip_first a (suc d) at s t e = absurd (omega (arith, untaken, H.led a d at t.0))

    pub tip_side : (a d at s : ℕ) → EndsBehind link m a d at s → s < 2
    tip_side a zero at s t = omega (arith, t.1)
    tip_side a (suc d) at s t = omega (arith, t.1, side_lt a d)
