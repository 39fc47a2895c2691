-- The sizes of the working tables (docs/FORMAT.md, "Who can cause a refusal"), as a test and as numbers of words. Assumes nothing.
use mathlib.Core.Path.{◌≡◌, refl}
use mathlib.Core.Bool.{Bool, true, false}
use Prim.Native.Nat.{ℕ, ◌+◌, ◌*◌, ◌/◌, ◌≤◌}
use native.Mathlib.Omega.{arith}
use borrow.Author.Tests.{le-leb, leb-true}
use Rattle.format.specs.Chains.{bucket_count, entry_count}
use Rattle.format.specs.Deriving.{derives}
use Rattle.tables.proofs.Outcome.{both_true}
use Rattle.tables.specs.Working.{derive_room}

-- the sizes for n bones, by the tables' words
pub record Enough (n b e i l p c q : ℕ) : Type 0 where
  pub buckets : bucket_count n ≤ b
  pub entries : 3 * entry_count n ≤ e
  pub inverse : 16 * n ≤ i
  pub local : 16 * n ≤ l
  pub parents : n ≤ p
  pub children : 8 * (n + 1) ≤ c
  pub pending : 2 * (4 * (n + 1)) ≤ q

module _ (n b e i l p c q : ℕ) where
  pub enough_derives : Enough n b e i l p c q → derives (derive_room b e i l p c q) n ≡ true
  unfolding derives
  enough_derives h =
      rw (
        le-leb (bucket_count n) b h.buckets,
        le-leb (entry_count n) (e / 3) (omega (arith, h.entries)),
        le-leb n (i / 16) (omega (arith, h.inverse)),
        le-leb n (l / 16) (omega (arith, h.local)),
        le-leb n p h.parents,
        le-leb (8 * (n + 1)) c h.children,
        le-leb (4 * (n + 1)) (q / 2) (omega (arith, h.pending)),
      )

  pub derives_enough : derives (derive_room b e i l p c q) n ≡ true → Enough n b e i l p c q
  unfolding derives
  derives_enough t =
      let t₆ = both_true _ _ t in
      let t₅ = both_true _ _ t₆.0 in
      let t₄ = both_true _ _ t₅.0 in
      let t₃ = both_true _ _ t₄.0 in
      let t₂ = both_true _ _ t₃.0 in
      let t₁ = both_true _ _ t₂.0 in
      let ke = leb-true (entry_count n) (e / 3) t₁.1 in
      let ki = leb-true n (i / 16) t₂.1 in
      let kl = leb-true n (l / 16) t₃.1 in
      let kq = leb-true (4 * (n + 1)) (q / 2) t₆.1 in
      record {
        buckets = leb-true (bucket_count n) b t₁.0;
        entries = omega (arith, ke);
        inverse = omega (arith, ki);
        local = omega (arith, kl);
        parents = leb-true n p t₄.1;
        children = leb-true (8 * (n + 1)) c t₅.1;
        pending = omega (arith, kq);
      }

  -- where some size is not met, the test fails
  pub derives_not : (Enough n b e i l p c q → ⊥) → derives (derive_room b e i l p c q) n ≡ false
  derives_not f = by (derives (derive_room b e i l p c q) n) refl
    where
      by : (t : Bool) → derives (derive_room b e i l p c q) n ≡ t → t ≡ false
      by true h = absurd (f (derives_enough h))
      by false h = refl
