-- What the answers of the check and of the reading say of the format's. Assumes nothing.
use Prim.Native.Nat.{ℕ}
use native.Mathlib.Omega.{arith}
use mathlib.Core.Path.{◌≡◌, refl, ap}
use Rattle.std.specs.Prelude.{Option, None, Some, Result, Ok, Err}
use Rattle.format.specs.Result.{done}
use Rattle.format.specs.Tables.{SkeletonRow}
use Rattle.read.specs.Reads.{meant_skeleton, meant_read}
use Rattle.read.specs.declared.Skeleton.{Skeleton}
use Rattle.format.specs.Refusal.{outcome}
use Rattle.format.specs.declared.Refusal.{Refusal}

-- the check accepts where the format's does
pub accepted : (r : Result (Option ℕ) Refusal) (n : ℕ) → outcome r ≡ done (Some n) → r ≡ Ok (Some n)
accepted (Ok None) n e = let z : ◌≡◌ {A = ℕ} 0 1 = cc in absurd (omega arith)
accepted (Ok (Some m)) n e = let q : m ≡ n = cc in ap (λ (k : ℕ). Ok (Some k)) q
accepted (Err x) n e = let z : ◌≡◌ {A = ℕ} 0 1 = cc in absurd (omega arith)

-- a skeleton of the format is the one that the reading gives
pub record SkeletonIs (r : Result (Option Skeleton) Refusal) (s : SkeletonRow) : Type 0 where
  pub skeleton : Skeleton
  pub is : r ≡ Ok (Some skeleton)
  pub meant : meant_skeleton skeleton ≡ s

pub skeleton-is : (r : Result (Option Skeleton) Refusal) (s : SkeletonRow) → meant_read r ≡ done (Some s) → SkeletonIs r s
skeleton-is (Ok None) s e = let z : ◌≡◌ {A = ℕ} 0 1 = cc in absurd (omega arith)
skeleton-is (Ok (Some x)) s e = record { skeleton = x; is = refl; meant = cc }
skeleton-is (Err x) s e = let z : ◌≡◌ {A = ℕ} 0 1 = cc in absurd (omega arith)
