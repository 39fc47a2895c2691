-- Laws of the order of refusals: which answer each test leads to, and back. Assumes nothing.
use Prim.Native.Nat.{ℕ, ◌≤◌}
use native.Mathlib.Omega.{arith}
use mathlib.Core.Path.{◌≡◌, refl}
use mathlib.Core.Bool.{Bool, true, false, ◌&&◌}
use lib.Dec.{leb}
use borrow.Author.Tests.{le-leb, leb-true}
use Rattle.format.specs.Result.{Res, refused, done, ◌>>=◌, need}
use Rattle.tables.specs.Outcome.{derived}

-- ---- from the tests to the answer

module _ {A : Type 0} (n : ℕ) (hold : Bool) (a : A) where
  pub no_room : n ≤ 65535 → hold ≡ false → refused 1 ≡ derived n hold a
  unfolding derived
  no_room h e = rw (le-leb n 65535 h, e)

  pub has_room : n ≤ 65535 → hold ≡ true → done a ≡ derived n hold a
  unfolding derived
  has_room h e = rw (le-leb n 65535 h, e)

-- ---- from the answer to the tests

-- the order of the tests, whatever they are
abbrev tested : {A : Type 0} → Bool → Bool → A → Res A
tested few hold a = need 2 few >>= λ u. need 1 hold >>= λ v. done a

-- the two tests where there is no refusal, and the value
passed : {A : Type 0} {a b : A} (few hold : Bool) → done b ≡ tested few hold a → (few ≡ true) × (hold ≡ true) × (b ≡ a)
passed true true e = (refl, refl, cc)
passed true false e = let z : ◌≡◌ {A = ℕ} 0 1 = cc in absurd (omega arith)
passed false hold e = let z : ◌≡◌ {A = ℕ} 0 1 = cc in absurd (omega arith)

pub enough : {A : Type 0} {a b : A} (n : ℕ) (hold : Bool) → done b ≡ derived n hold a → (n ≤ 65535) × (hold ≡ true) × (b ≡ a)
unfolding derived
enough n hold e = let t = passed (leb n 65535) hold e in (leb-true n 65535 t.0, t.1, t.2)

-- a refusal does not depend on the value, and what has no room for a part has none for the whole
stopped :
    {A B : Type 0} (few got hold : Bool) (a : A) (b : B) (c : ℕ) → (got ≡ false → hold ≡ false) → refused c ≡ tested few got b
    → refused c ≡ tested few hold a
stopped true true hold a b c h e = let z : ◌≡◌ {A = ℕ} 0 1 = cc in absurd (omega arith)
stopped true false hold a b c h e = rw (h refl) (let q : c ≡ 1 = cc in rw q refl)
stopped false got hold a b c h e = cc

pub refuses_part :
    {A B : Type 0} (n : ℕ) (got hold : Bool) (a : A) (b : B) (c : ℕ) → (got ≡ false → hold ≡ false) → refused c ≡ derived n got b
    → refused c ≡ derived n hold a
unfolding derived
refuses_part n got hold a b c h e = stopped (leb n 65535) got hold a b c h e

pub refuses : {A B : Type 0} (n : ℕ) (hold : Bool) (a : A) (b : B) (c : ℕ) → refused c ≡ derived n hold b → refused c ≡ derived n hold a
unfolding derived
refuses n hold a b c e = stopped (leb n 65535) hold hold a b c (λ q. q) e

-- ---- tests put together

pub both_true : (p q : Bool) → (p && q) ≡ true → (p ≡ true) × (q ≡ true)
both_true true true e = (refl, refl)
both_true true false e = let z : ◌≡◌ {A = ℕ} 0 1 = cc in absurd (omega arith)
both_true false q e = let z : ◌≡◌ {A = ℕ} 0 1 = cc in absurd (omega arith)
