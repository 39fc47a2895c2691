-- The laws of a search in a table: the ways out of `scan`, `search` and `place`. Those of the tree are in `Descending`. Assumes nothing.
use mathlib.Core.Path.{◌≡◌, refl, sym, ap, subst, ◌∙◌}
use mathlib.Core.Bool.{true}
use Rattle.std.specs.Prelude.{Option, None, Some}
use mathlib.Core.List.{List}
use mathlib.Core.Logic.{⊎_elim}
use Prim.Native.Nat.{ℕ, zero, suc, ◌+◌, ◌*◌, ◌<◌, ◌≤◌}
use native.Mathlib.Nat.{eq-or-lt_of_le}
use native.Mathlib.Omega.{arith}
use borrow.Author.Tests.{eqb-true, eqb-false}
use lib.Dec.{eqb}
use lib.ListN.{get_or}
use Rattle.blocks.specs.Tree.{kind_in, linkable}
use Rattle.blocks.specs.Hashed.{pool_rows, code_at, key_of, key, links, home_of, Other, EndsAt, FirstAt, Scanned, NearPassed}
use Rattle.blocks.specs.Hashed.{side_number, EndOf, PathEnds, FreeFound, Missed, FarPast, PlacedIn, near, along, beyond, Untaken}
use Rattle.blocks.specs.declared.tree.Side.{Side}
use Rattle.blocks.specs.declared.tree.Ended.{Ended}
use Rattle.blocks.specs.declared.tree.Ended.TheVariants.{At, Behind}
use Rattle.blocks.proofs.Paths.{linkable_le, path_lt}
use Rattle.blocks.proofs.Descending.{left-missed}

-- ---- a row by its words

key_of-free : (k a : ℕ) → k ≡ 0 → key_of k a ≡ 0
key_of-free k a e = rw e

pub key_of-used : (k a : ℕ) → (k ≡ 0 → ⊥) → key_of k a ≡ suc a
key_of-used zero a n = absurd (n refl)
key_of-used (suc k) a n = refl

key_of-is : (k x a : ℕ) → key_of k x ≡ suc a → x ≡ a
key_of-is zero x a e = absurd (omega arith)
key_of-is (suc k) x a e = omega arith

module _ (t : List ℕ) (i : ℕ) where
  pub key-free : kind_in (code_at t i) ≡ 0 → key t i ≡ 0
  unfolding key
  key-free e = key_of-free (kind_in (code_at t i)) (get_or t (4 * i) 0) e

  pub key-used : (kind_in (code_at t i) ≡ 0 → ⊥) → key t i ≡ suc (get_or t (4 * i) 0)
  unfolding key
  key-used n = key_of-used (kind_in (code_at t i)) (get_or t (4 * i) 0) n

  pub key-address : (a : ℕ) → key t i ≡ suc a → get_or t (4 * i) 0 ≡ a
  unfolding key
  key-address a e = key_of-is (kind_in (code_at t i)) (get_or t (4 * i) 0) a e

-- ---- whether a search ends at a row

module _ (t : List ℕ) (a i : ℕ) where
  pub ends-free : kind_in (code_at t i) ≡ 0 → EndsAt t a i true
  ends-free e =
      record { here = λ h u. absurd (omega (arith, key-free t i e)); past = λ h. let z : ◌≡◌ {A = ℕ} 0 1 = cc in absurd (omega arith) }

  pub ends_by : (kind_in (code_at t i) ≡ 0 → ⊥) → EndsAt t a i (eqb (get_or t (4 * i) 0) a)
  ends_by n =
      let k : key t i ≡ suc (get_or t (4 * i) 0) = key-used t i n in
      record {
        here = λ h u. k ∙ ap suc (eqb-true (get_or t (4 * i) 0) a h);
        past = λ h. (omega arith, λ e. eqb-false (get_or t (4 * i) 0) a h (omega arith));
      }

-- ---- the loop of `scan`

-- the rows from `from` to i were passed
pub record Passed (t : List ℕ) (a from to i : ℕ) : Type 0 where
  pub low : from ≤ i
  pub high : i ≤ to
  pub passed : (k : ℕ) → from ≤ k → k < i → Other (key t) a k

module _ (t : List ℕ) (a from to : ℕ) where
  pub passed_none : from ≤ to → Passed t a from to from
  passed_none h = record { low = omega arith; high = h; passed = λ k l m. absurd (omega arith) }

  module _ (i : ℕ) (p : Passed t a from to i) where
    pub passed-more : i < to → Other (key t) a i → Passed t a from to (i + 1)
    passed-more l other =
        record {
          low = omega (arith, p.low);
          high = omega arith;
          passed =
              λ k m h.
              ⊎_elim
              (λ s. subst (λ (x : ℕ). Other (key t) a x) (sym s) other)
              (λ h. p.passed k m h)
              (eq-or-lt_of_le {n = k} {m = i} (omega arith));
        }

-- ---- near the home

module _ (t : List ℕ) (a h : ℕ) (is : h ≡ home_of a (pool_rows t)) where
  -- at the home itself
  pub placed_first : h < pool_rows t → (0 < key t h → key t h ≡ suc a) → PlacedIn t a h
  placed_first l e = near l (omega arith, omega arith) (λ i x y. absurd (omega arith)) e

  module _ (e : ℕ) {r : Option ℕ} (c : Scanned t a h e r) where
    pub placed-near : (i : ℕ) → r ≡ Some i → e ≤ pool_rows t → e ≤ h + 16 → PlacedIn t a i
    placed-near i x o m =
        let f : FirstAt t a h e i = subst (Scanned t a h e) x c in
        near (omega (arith, f.high)) (omega (arith, f.low), omega (arith, f.high)) (λ k y z. f.passed k (omega arith) z) f.ends

    pub near-passed : r ≡ None → ((k : ℕ) → k < h + 16 → k < pool_rows t → k < e) → NearPassed t a
    near-passed x f k y z =
        subst (Scanned t a h e) x c k (omega (arith, y.0)) (f k (omega (arith, y.1)) z)

-- ---- in the tree, and behind the rows that can be linked

module _ (t : List ℕ) (a : ℕ) (full : NearPassed t a) (r : Ended) (p : PathEnds t a r) where
  pub placed-along : (i : ℕ) → r ≡ At i → PlacedIn t a i
  placed-along i e = along full (subst (EndOf t a) e p.end)

  module _ (at : ℕ) (s : Side) (e : r ≡ Behind at s) where
    missed : Missed t a
    missed = record { near = full; path = left-missed t a at (side_number s) (subst (EndOf t a) e p.end) }

    module _ {f : Option ℕ} (g : FreeFound t f) where
      pub placed-untaken : (i : ℕ) → f ≡ Some i → Untaken t a i
      placed-untaken i d = record { free = subst (FreeFound t) d g; missed = missed }

      module _ (d : f ≡ None) (m : ℕ) (is : m ≡ linkable (pool_rows t)) {x : Option ℕ} (c : Scanned t a m (pool_rows t) x) where
        far : FarPast t a x
        far = record { missed = missed; full = subst (FreeFound t) d g; scanned = rw is at c }

        pub placed-beyond : (i : ℕ) → x ≡ Some i → PlacedIn t a i
        placed-beyond i y = beyond (subst (FarPast t a) y far)

        pub placed-full : x ≡ None → FarPast t a None
        placed-full y = subst (FarPast t a) y far

-- a table of no rows
pub placed-nowhere : (t : List ℕ) (a : ℕ) → pool_rows t ≡ 0 → FarPast t a None
placed-nowhere t a z =
    let m : linkable (pool_rows t) ≤ pool_rows t = linkable_le (pool_rows t) in
    record {
      missed =
          record {
            near = λ i x l. absurd (omega arith);
            path = λ d i e h. omega (arith, path_lt (links t) (linkable (pool_rows t)) a d i e);
          };
      full = λ i l. absurd (omega arith);
      scanned = λ k l o. absurd (omega arith);
    }
