-- How many rows of a table are used, over their keys as a function: all of them, as many as before, or one more. Assumes nothing.
use mathlib.Core.Path.{◌≡◌, refl, ap, ◌∙◌}
use mathlib.Core.Bool.{Bool, true, false, cond}
use mathlib.Core.Logic.{⊎_elim}
use Prim.Native.Nat.{ℕ, zero, suc, ◌<◌, ◌≤◌}
use native.Mathlib.Omega.{arith}
use borrow.Author.Tests.{eq-eqb, ne_eqb}
use lib.Dec.{eqb}
use Rattle.blocks.specs.Hashed.{used}
use Rattle.blocks.proofs.Cases.{eq-or-ne}

pub used_le : (key : ℕ → ℕ) (n : ℕ) → used key n ≤ n
unfolding used
used_le key zero = omega arith
used_le key (suc n) = by (eqb (key n) 0) (used_le key n)
  where
    by : (b : Bool) → used key n ≤ n → cond b (used key n) (suc (used key n)) ≤ suc n
    by true h = omega arith
    by false h = omega arith

pub used-same : (key key' : ℕ → ℕ) (n : ℕ) → ((i : ℕ) → i < n → key' i ≡ key i) → used key' n ≡ used key n
unfolding used
used-same key key' zero f = refl
used-same key key' (suc n) f = simp (f n (omega arith), used-same key key' n (λ i l. f i (omega arith)))

pub used_all : (key : ℕ → ℕ) (n : ℕ) → ((i : ℕ) → i < n → 0 < key i) → used key n ≡ n
unfolding used
used_all key zero f = refl
used_all key (suc n) f =
    let p : 0 < key n = f n (omega arith) in
    simp (ne_eqb (key n) 0 (omega arith), used_all key n (λ i l. f i (omega arith)))

pub used-more :
    (key key' : ℕ → ℕ) (r n : ℕ) → r < n → key r ≡ 0 → 0 < key' r → ((i : ℕ) → (i ≡ r → ⊥) → key' i ≡ key i) →
    used key' n ≡ suc (used key n)
unfolding used
used-more key key' r zero l z p f = absurd (omega arith)
used-more key key' r (suc n) l z p f = ⊎_elim last (λ e. earlier e (used-more key key' r n (omega arith) z p f)) (eq-or-ne n r)
  where
    last :
        n ≡ r →
        cond (eqb (key' n) 0) (used key' n) (suc (used key' n)) ≡ suc (cond (eqb (key n) 0) (used key n) (suc (used key n)))
    last e =
        let k : key n ≡ 0 = ap key e ∙ z in
        let k' : key' n ≡ key' r = ap key' e in
        simp (eq-eqb (key n) 0 k, ne_eqb (key' n) 0 (omega arith), used-same key key' n (λ i m. f i (omega arith)))

    by : (b : Bool) (x y : ℕ) → y ≡ suc x → cond b y (suc y) ≡ suc (cond b x (suc x))
    by true x y e = e
    by false x y e = ap suc e

    earlier :
        (n ≡ r → ⊥) → used key' n ≡ suc (used key n) →
        cond (eqb (key' n) 0) (used key' n) (suc (used key' n)) ≡ suc (cond (eqb (key n) 0) (used key n) (suc (used key n)))
    earlier e h = simp (f n e) (by (eqb (key n) 0) (used key n) (used key' n) h)
