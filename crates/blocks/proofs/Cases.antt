-- Cases on numbers. Assumes nothing.
use mathlib.Core.Path.{◌≡◌}
use mathlib.Core.Logic.{◌⊎◌, inl, inr}
use Prim.Native.Nat.{ℕ, ◌<◌, ◌≤◌}
use native.Mathlib.Decide.{dec_le, ℕ_discrete}
use native.Mathlib.Omega.{arith}

pub le-or-lt : (m n : ℕ) → (m ≤ n) ⊎ (n < m)
le-or-lt m n = by (dec_le m n)
  where
    by : Dec (m ≤ n) → (m ≤ n) ⊎ (n < m)
    by (yes h) = inl h
    by (no h) = inr (omega arith)

pub eq-or-ne : (m n : ℕ) → (m ≡ n) ⊎ (m ≡ n → ⊥)
eq-or-ne m n = by (ℕ_discrete m n)
  where
    by : Dec (m ≡ n) → (m ≡ n) ⊎ (m ≡ n → ⊥)
    by (yes h) = inl h
    by (no h) = inr h
