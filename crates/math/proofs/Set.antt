-- Laws of the setters: what each leaves at every one of sixteen words.
-- Assumes nothing.
use Prim.Native.Nat.{ℕ, zero, suc, ◌<◌}
use native.Mathlib.Nat.{le_of_suc-le-suc, not-suc-le-zero}
use mathlib.Core.Path.{◌≡◌, refl, ap, ◌∙◌}
use mathlib.Core.Bool.{cond}
use mathlib.Core.List.{List, [], ◌∷◌}
use native.Mathlib.Omega.{arith}
use lib.Dec.{eqb, eqb-zero-suc, eqb-suc-zero, eqb-suc-suc}
use lib.ListN.{length, get_or, set, length-set}
use Rattle.math.specs.Matrix.{set_diagonal, set_column4, diagonal_word, column4_word}

module _ {A : Type 0} (d : A) where
  -- one word is set: it is the new one, and every other is as it was
  get_or-set : (l : List A) (j i : ℕ) (a : A) → j < length l → get_or (set l j a) i d ≡ cond (eqb i j) a (get_or l i d)
  get_or-set [] j i a h = absurd (not-suc-le-zero h)
  get_or-set (x ∷ xs) zero zero a h = refl
  get_or-set (x ∷ xs) zero (suc i) a h = rw (eqb-suc-zero i) refl
  get_or-set (x ∷ xs) (suc j) zero a h = rw (eqb-zero-suc j) refl
  get_or-set (x ∷ xs) (suc j) (suc i) a h = rw (eqb-suc-suc i j) (get_or-set xs j i a (le_of_suc-le-suc h))

  -- sixteen words l, of which word i is w i
  record Holds (l : List A) (w : ℕ → A) : Type 0 where
    pub size : length l ≡ 16
    pub at : (i : ℕ) → get_or l i d ≡ w i

  as_is : (l : List A) → length l ≡ 16 → Holds l (λ i. get_or l i d)
  as_is l e = record { size = e; at = λ i. refl }

  put : {l : List A} {w : ℕ → A} (j : ℕ) (a : A) → j < 16 → Holds l w → Holds (set l j a) (λ i. cond (eqb i j) a (w i))
  put {l} j a lt h = record {
    size = length-set l j a ∙ h.size;
    at = λ i. get_or-set l j i a (rw h.size lt) ∙ ap (λ (o : A). cond (eqb i j) a o) (h.at i);
  }

  pub set_diagonal-word : (x y z : A) (m : List A) → length m ≡ 16 → (i : ℕ) → get_or (set_diagonal x y z m) i d ≡ diagonal_word x y z i (get_or m i d)
  set_diagonal-word x y z m e = (put 10 z (omega arith) (put 5 y (omega arith) (put 0 x (omega arith) (as_is m e)))).at

  pub set_column4-word : (x y z w : A) (m : List A) → length m ≡ 16 → (i : ℕ)
      → get_or (set_column4 x y z w m) i d ≡ column4_word x y z w i (get_or m i d)
  set_column4-word x y z w m e =
      (put 15 w (omega arith) (put 11 z (omega arith) (put 7 y (omega arith) (put 3 x (omega arith) (as_is m e))))).at
