-- Where the parts start: the code's sums are the format's, in their order, and stay below the window. Assumes nothing.
use mathlib.Core.Path.{◌≡◌, refl}
use Prim.Native.Nat.{ℕ, zero, suc, ◌+◌, ◌*◌, ◌≤◌}
use native.Mathlib.Nat.{le_refl}
use native.Mathlib.Omega.{arith}
use Rattle.format.specs.Layout.{after, block_size, Starts, starts}
use Rattle.write.specs.Placing.{Counts}
use Rattle.format.specs.Section.{window}

-- ---- sizes

pub block_size_lem : (n : ℕ) → (n ≡ 0 → ⊥) → 16 + 80 * n ≡ block_size n
unfolding block_size
block_size_lem zero h = absurd (h refl)
block_size_lem (suc n) h = refl

pub block_size_le : (n : ℕ) → block_size n ≤ 16 + 80 * n
unfolding block_size
block_size_le zero = omega arith
block_size_le (suc n) = le_refl (16 + 80 * suc n)

-- ---- the starts

up : (a n b x y : ℕ) → b ≡ after a n → a ≤ x → n ≤ y → b ≤ x + y + 15
up a n b x y e h k = omega arith

-- sums made one behind the other
module _ (c e n s m b2 b3 b4 b5 b6 : ℕ)
    (em : m ≡ block_size n) (e2 : b2 ≡ after 112 (8 * c)) (e3 : b3 ≡ after b2 (16 * e)) (e4 : b4 ≡ after b3 m) (e5 : b5 ≡ after
    b4 s)
    (e6 : b6 ≡ after b5 (64 * n)) where
  sixth_le : Counts c e n s → b6 ≤ 27787043
  sixth_le h =
      let l2 = up 112 (8 * c) b2 112 524280 e2 (omega arith) (omega (arith, h.buckets_few)) in
      let l3 = up b2 (16 * e) b3 524407 1048560 e3 l2 (omega (arith, h.entries_few)) in
      let l4 = up b3 m b4 1572982 5242816 e4 l3 (omega (arith, block_size_le n, h.few)) in
      let l5 = up b4 s b5 6815813 16776960 e5 l4 (omega (arith, h.names_few)) in
      up b5 (64 * n) b6 23592788 4194240 e6 l5 (omega (arith, h.few))

  pub room-local : Counts c e n s → b6 + 64 * n ≤ window
  room-local h = omega (arith, sixth_le h, h.few)

  module _ (b7 : ℕ) (e7 : b7 ≡ after b6 (64 * n)) where
    seventh_le : Counts c e n s → b7 ≤ 31981298
    seventh_le h = up b6 (64 * n) b7 27787043 4194240 e7 (sixth_le h) (omega (arith, h.few))

    pub room-parents : Counts c e n s → b7 + 2 * n ≤ window
    room-parents h = omega (arith, seventh_le h, h.few)

    module _ (b8 : ℕ) (e8 : b8 ≡ after b7 (2 * n)) where
      pub eighth_le : Counts c e n s → b8 ≤ 32112383
      eighth_le h = up b7 (2 * n) b8 31981298 131070 e8 (seventh_le h) (omega (arith, h.few))

      pub placed :
          ◌≡◌ {A = Starts}
          (record { buckets = 112; entries = b2; bones = b3; names = b4; inverse = b5; local = b6; parents = b7; children = b8 })
          (starts c e n s)
      unfolding starts
      placed = rw (e8, e7, e6, e5, e4, e3, e2, em)

-- the last part starts far below the window
pub children_le : (c e n s : ℕ) → Counts c e n s → (starts c e n s).children ≤ 32112383
unfolding starts
children_le c e n s h =
    eighth_le c e n s (block_size n) _ _ _ _ _ refl refl refl refl refl refl _ refl _ refl h

-- ---- the parts lie one behind the other

pub record Ordered (c e n s : ℕ) (a : Starts) : Type 0 where
  pub buckets : a.buckets ≡ 112
  pub entries : a.entries ≡ after a.buckets (8 * c)
  pub bones : a.bones ≡ after a.entries (16 * e)
  pub names : a.names ≡ after a.bones (block_size n)
  pub inverse : a.inverse ≡ after a.names s
  pub local : a.local ≡ after a.inverse (64 * n)
  pub parents : a.parents ≡ after a.local (64 * n)
  pub children : a.children ≡ after a.parents (2 * n)

pub ordered : (c e n s : ℕ) → Ordered c e n s (starts c e n s)
unfolding starts
ordered c e n s =
    record {
      buckets = refl;
      entries = refl;
      bones = refl;
      names = refl;
      inverse = refl;
      local = refl;
      parents = refl;
      children = refl;
    }
