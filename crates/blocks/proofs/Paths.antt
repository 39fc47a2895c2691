-- The laws of paths in the tree, over each row's links as a function: a path goes down, ends once, and keeps the rows that it has when
-- links are added. Assumes nothing.
use mathlib.Core.Path.{◌≡◌, refl, sym, ap, ◌∙◌}
use mathlib.Core.Logic.{◌⊎◌, inl, inr, ⊎_elim}
use Prim.Native.Nat.{ℕ, zero, suc, ◌<◌, ◌≤◌}
use native.Mathlib.Nat.{eq-or-lt_of_le, mod-lt}
use native.Mathlib.Omega.{arith}
use borrow.Author.Tests.{le-leb, lt-leb, lt-ltb, le-ltb}
use Rattle.blocks.proofs.Cases.{le-or-lt}
use Rattle.blocks.specs.Tree.{linkable, halved, turned_of, side_at, below, onward, path_at}

-- ---- the rows that can be linked

module _ (n : ℕ) where
  pub linkable-all : n < 1073741823 → linkable n ≡ n
  unfolding linkable
  linkable-all l = simp (lt-ltb n 1073741823 l)

  pub linkable-most : 1073741823 ≤ n → linkable n ≡ 1073741823
  unfolding linkable
  linkable-most l = simp (le-ltb n 1073741823 l)

  pub linkable_le : linkable n ≤ n
  linkable_le =
      ⊎_elim (λ l. omega (arith, linkable-most l)) (λ l. omega (arith, linkable-all l)) (le-or-lt 1073741823 n)

  pub linkable_lt : linkable n < 1073741824
  linkable_lt =
      ⊎_elim (λ l. omega (arith, linkable-most l)) (λ l. omega (arith, linkable-all l)) (le-or-lt 1073741823 n)

-- ---- a link that counts

module _ (r l : ℕ) where
  pub below-is : l ≤ r → below r l ≡ l
  unfolding below
  below-is h = simp (le-leb l r h)

  pub below_none : r < l → below r l ≡ 0
  unfolding below
  below_none h = simp (lt-leb l r h)

  pub below_suc : (i : ℕ) → below r l ≡ suc i → (l ≡ suc i) × (i < r)
  below_suc i e =
      ⊎_elim
      (λ h. (sym (below-is h) ∙ e, omega (arith, below-is h)))
      (λ h. absurd (omega (arith, below_none h)))
      (le-or-lt l r)

pub side_lt : (a d : ℕ) → side_at a d < 2
side_lt a d = mod-lt (halved (turned_of a) d) (omega arith)

-- ---- one path

module _ (link : ℕ → ℕ → ℕ) (m a : ℕ) where
  pub path-next : (d r : ℕ) → path_at link m a d ≡ suc r → path_at link m a (suc d) ≡ below r (link r (side_at a d))
  unfolding path_at onward
  path-next d r e = ap (λ (x : ℕ). onward link x (side_at a d)) e

  zero-next : (d : ℕ) → path_at link m a d ≡ 0 → path_at link m a (suc d) ≡ 0
  unfolding path_at onward
  zero-next d e = ap (λ (x : ℕ). onward link x (side_at a d)) e

  onward-back : (l s i : ℕ) → onward link l s ≡ suc i → (r : ℕ) × (l ≡ suc r) × (below r (link r s) ≡ suc i)
  unfolding onward
  onward-back zero s i e = absurd (omega arith)
  onward-back (suc r) s i e = (r, refl, e)

  pub path-back :
      (d i : ℕ) → path_at link m a (suc d) ≡ suc i →
      (r : ℕ) × (path_at link m a d ≡ suc r) × (below r (link r (side_at a d)) ≡ suc i)
  unfolding path_at
  path-back d i e = onward-back (path_at link m a d) (side_at a d) i e

  -- behind its end there is none
  pub zero_stays : (e d : ℕ) → e ≤ d → path_at link m a e ≡ 0 → path_at link m a d ≡ 0
  zero_stays e zero l z = let s : e ≡ 0 = omega arith in sym (ap (path_at link m a) s) ∙ z
  zero_stays e (suc d) l z =
      ⊎_elim
      (λ s. sym (ap (path_at link m a) s) ∙ z)
      (λ s. zero-next d (zero_stays e d (omega arith) z))
      (eq-or-lt_of_le {n = e} {m = suc d} l)

  -- before a row stand rows
  pub row_before : (e d i : ℕ) → e ≤ d → path_at link m a d ≡ suc i → (k : ℕ) × (path_at link m a e ≡ suc k)
  row_before e d i l h = by (path_at link m a e) refl
    where
      by : (x : ℕ) → path_at link m a e ≡ x → (k : ℕ) × (x ≡ suc k)
      by zero z = absurd (omega (arith, zero_stays e d l z))
      by (suc k) z = (k, refl)

  pub path_lt : (d i : ℕ) → path_at link m a d ≡ suc i → i < m
  unfolding path_at
  path_lt zero i e = (below_suc m (link 0 0) i e).1
  path_lt (suc d) i e =
      let b = path-back d i e in
      let u : b.0 < m = path_lt d b.0 b.1 in
      let v : i < b.0 = (below_suc b.0 (link b.0 (side_at a d)) i b.2).1 in
      omega arith

  -- later rows are below
  pub path-falls : (e d i j : ℕ) → e < d → path_at link m a e ≡ suc i → path_at link m a d ≡ suc j → j < i
  path-falls e zero i j l p q = absurd (omega arith)
  path-falls e (suc d) i j l p q =
      let b = path-back d j q in
      let v : j < b.0 = (below_suc b.0 (link b.0 (side_at a d)) j b.2).1 in
      ⊎_elim
      (λ s. let w : suc i ≡ suc b.0 = sym p ∙ ap (path_at link m a) s ∙ b.1 in omega arith)
      (λ s. let w : b.0 < i = path-falls e d i b.0 s p b.1 in omega arith)
      (eq-or-lt_of_le {n = e} {m = d} (omega arith))

-- addresses that go the same way
pub path-alike :
    (link : ℕ → ℕ → ℕ) (m a b d : ℕ) → ((e : ℕ) → e < d → side_at a e ≡ side_at b e) → path_at link m a d ≡ path_at link m b d
unfolding path_at
path-alike link m a b zero f = refl
path-alike link m a b (suc d) f =
    ap (λ (x : ℕ). onward link x (side_at a d)) (path-alike link m a b d (λ e l. f e (omega arith)))
    ∙ ap (onward link (path_at link m b d)) (f d (omega arith))

-- ---- paths by links and by more links

module _ (link link' : ℕ → ℕ → ℕ) (m : ℕ) where
  module _
      (root : (i : ℕ) → below m (link 0 0) ≡ suc i → below m (link' 0 0) ≡ suc i)
      (step : (r s i : ℕ) → s < 2 → below r (link r s) ≡ suc i → below r (link' r s) ≡ suc i)
    where
      pub path-kept : (a d i : ℕ) → path_at link m a d ≡ suc i → path_at link' m a d ≡ suc i
      unfolding path_at
      path-kept a zero i e = root i e
      path-kept a (suc d) i e =
          let b = path-back link m a d i e in
          path-next link' m a d b.0 (path-kept a d b.0 b.1) ∙ step b.0 (side_at a d) i (side_lt a d) b.2

      -- up to a row that stood the path is the same
      pub path-before : (a e d i k : ℕ) → e ≤ d → path_at link m a d ≡ suc i → path_at link' m a e ≡ suc k → path_at link m a e ≡ suc k
      path-before a e d i k l h p =
          let b = row_before link m a e d i l h in
          b.1 ∙ sym (path-kept a e b.0 b.1) ∙ p

  -- every row that a path gains is f
  module _
      (f : ℕ) (root : (i : ℕ) → below m (link' 0 0) ≡ suc i → (below m (link 0 0) ≡ suc i) ⊎ (i ≡ f))
      (step : (r s i : ℕ) → s < 2 → below r (link' r s) ≡ suc i → (below r (link r s) ≡ suc i) ⊎ (i ≡ f))
      (bare : (s i : ℕ) → s < 2 → below f (link' f s) ≡ suc i → ⊥)
    where
      pub path_gains : (a d i : ℕ) → path_at link' m a d ≡ suc i → (path_at link m a d ≡ suc i) ⊎ (i ≡ f)
      unfolding path_at
      path_gains a zero i e = root i e
      path_gains a (suc d) i e =
          let b = path-back link' m a d i e in
          ⊎_elim
          (λ p.
          ⊎_elim
          (λ q. inl (path-next link m a d b.0 p ∙ q))
          inr
          (step b.0 (side_at a d) i (side_lt a d) b.2))
          (λ s.
          absurd
          (bare (side_at a d) i (side_lt a d) (rw s at b.2)))
          (path_gains a d b.0 b.1)

-- the same links, the same paths
module _ (link link' : ℕ → ℕ → ℕ) (same : (r s : ℕ) → link' r s ≡ link r s) where
  onward-same : (l s : ℕ) → onward link' l s ≡ onward link l s
  unfolding onward
  onward-same zero s = refl
  onward-same (suc r) s = ap (below r) (same r s)

  pub path-same : (m a d : ℕ) → path_at link' m a d ≡ path_at link m a d
  unfolding path_at
  path-same m a zero = ap (below m) (same 0 0)
  path-same m a (suc d) =
      ap (λ (x : ℕ). onward link' x (side_at a d)) (path-same m a d) ∙ onward-same (path_at link m a d) (side_at a d)
