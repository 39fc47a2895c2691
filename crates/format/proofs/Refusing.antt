-- Steps of a call, and which refusals they can give: what is refused is of the list. In order: steps; finding bytes. Assumes nothing.
use Prim.Native.Nat.{ℕ, zero, suc, ◌+◌, ◌/◌, ◌%◌}
use mathlib.Core.Path.{◌≡◌, refl, subst}
use native.Mathlib.Omega.{arith}
use mathlib.Core.Bool.{Bool, true, false}
use mathlib.Core.List.{List, []}
use lib.ListN.{length}
use lib.Dec.{T, leb, eqb}
use Rattle.format.specs.Result.{Res, refused, done, ◌>>=◌, need}
use Rattle.format.specs.Section.{Section, in_half, spot, window, cursor, part, array}
use Rattle.format.specs.Records.{header}
use Rattle.format.specs.CallRefusals.{one_of, RefusesOnly}

-- ---- steps

pub only-done : {A : Type 0} {ns : List ℕ} (a : A) → RefusesOnly ns (done a)
only-done a = record { only = λ n e. let z : ◌≡◌ {A = ℕ} 0 1 = cc in absurd (omega arith) }

pub only-refused : {A : Type 0} {ns : List ℕ} (n : ℕ) → T (one_of n ns) → RefusesOnly {A = A} ns (refused n)
only-refused {ns = ns} n h = record { only = λ m e. subst (λ k. T (one_of k ns)) (refused-same n m e) h }
  where
    refused-same : {A : Type 0} (n m : ℕ) → ◌≡◌ {A = Res A} (refused n) (refused m) → n ≡ m
    refused-same n m e = cc

-- a call, and behind it another
pub only_then :
    {A B : Type 0} {ns : List ℕ} {m : Res A} {f : A → Res B} → RefusesOnly ns m → ((a : A) → RefusesOnly ns (f a)) →
    RefusesOnly ns (m >>= f)
only_then {m = refused n} h k = only-refused n (h.only n refl)
only_then {m = done a} h k = k a

-- a test
pub only-need : {ns : List ℕ} (n : ℕ) (b : Bool) → T (one_of n ns) → RefusesOnly ns (need n b)
only-need n true h = only-done tt
only-need n false h = only-refused n h

-- ---- finding bytes, for a call that refuses 10 and 11

module _ {ns : List ℕ} (ten : T (one_of 10 ns)) (eleven : T (one_of 11 ns)) (sec : Section) where
  pub spot-only : (va : ℕ) → RefusesOnly ns (spot sec va)
  unfolding spot
  spot-only va = by (eqb (va / window) 5) (eqb (va / window) 6)
    where
      by : (s g : Bool) → RefusesOnly ns (in_half s g sec (va % window))
      by true g = only-done _
      by false true = only-done _
      by false false = only-refused 10 ten

  pub part-only : (va n : ℕ) → RefusesOnly ns (part sec va n)
  unfolding part
  part-only va n = only_then (spot-only va) λ p. only_then (only-need 11 (leb (p.offset + n) (length p.half)) eleven) λ u. only-done _

  pub array-only : (va n : ℕ) → RefusesOnly ns (array sec va n)
  unfolding array
  array-only va zero = only-done []
  array-only va (suc n) = part-only va (suc n)

  pub cursor-only : (va : ℕ) → RefusesOnly ns (cursor sec va)
  unfolding cursor
  cursor-only va = only_then (spot-only va) λ p. only_then (only-need 11 (leb p.offset (length p.half)) eleven) λ u. only-done p

  pub header-only : (root : ℕ) → RefusesOnly ns (header sec root)
  unfolding header
  header-only root = only_then (part-only root 98) λ b. only-done _
