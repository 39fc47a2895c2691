-- Laws of the positions that have a given parent, from a place on, and of the word that stands for them. Assumes nothing.
use Prim.Native.Nat.{ℕ, zero, suc, ◌+◌, ◌≤◌, ◌<◌}
use native.Mathlib.Omega.{arith}
use mathlib.Core.Path.{◌≡◌, refl, sym, ap, ◌∙◌}
use mathlib.Core.Bool.{Bool, true, false}
use mathlib.Core.List.{List, [], ◌∷◌}
use lib.ListN.{length, get_or, drop, length-drop, drop_of_length-le}
use lib.Seq.{drop-cons}
use lib.Dec.{eqb}
use borrow.Author.Tests.{eqb-true, eq-eqb, ne_eqb}
use Rattle.format.specs.Chains.{keep_if}
use Rattle.format.specs.Children.{positions}
use Rattle.derive_children.specs.Index.{first_word, positions_from}
use Rattle.derive_children.specs.Pile.{rest}

-- ---- the positions from i on

pub after_cons : (parents : List ℕ) (v i : ℕ) → i < length parents → positions_from parents v i ≡ keep_if (eqb (get_or parents i 0) v) i
    (positions_from parents v (suc i))
unfolding positions
after_cons parents v i h = rw (drop-cons parents i 0 h)

pub after_none : (parents : List ℕ) (v i : ℕ) → length parents ≤ i → positions_from parents v i ≡ []
unfolding positions
after_none parents v i h = rw (drop_of_length-le parents {i = i} h)

after_same : (parents : List ℕ) (v i : ℕ) → i < length parents → get_or parents i 0 ≡ v → positions_from parents v i ≡ i ∷ positions_from parents v
    (suc i)
after_same parents v i h e = after_cons parents v i h ∙ rw (eq-eqb _ _ e)

after-other : (parents : List ℕ) (v i : ℕ) → i < length parents → (get_or parents i 0 ≡ v → ⊥) → positions_from parents v i ≡ positions_from parents v
    (suc i)
after-other parents v i h e = after_cons parents v i h ∙ rw (ne_eqb _ _ e)

pub first-same : (parents : List ℕ) (v i : ℕ) → i < length parents → get_or parents i 0 ≡ v → first_word (positions_from parents v i) ≡ suc i
unfolding first_word
first-same parents v i h e = ap first_word (after_same parents v i h e)

pub first-other :
    (parents : List ℕ) (v i : ℕ) → i < length parents → (get_or parents i 0 ≡ v → ⊥) → first_word (positions_from parents v (suc i)) ≡ first_word
    (positions_from parents v i)
first-other parents v i h e = ap first_word (sym (after-other parents v i h e))

-- ---- what a word stands for

-- the word of the first position stands for all of them
first-rest-at : (parents : List ℕ) (v i : ℕ) (xs : List ℕ) → drop i parents ≡ xs → rest parents (first_word (positions v i xs)) ≡
    positions v i xs
unfolding rest first_word positions
first-rest-at parents v i [] e = refl
first-rest-at parents v i (x ∷ xs) e = go (first-rest-at parents v (suc i) xs tail) (eqb x v) refl
  where
    drop_tail : (l : List ℕ) (i x : ℕ) (xs : List ℕ) → drop i l ≡ x ∷ xs → drop (suc i) l ≡ xs
    drop_tail [] zero x xs e = let z : ◌≡◌ {A = ℕ} 0 1 = cc in absurd (omega arith)
    drop_tail [] (suc i) x xs e = let z : ◌≡◌ {A = ℕ} 0 1 = cc in absurd (omega arith)
    drop_tail (y ∷ l) zero x xs e = cc
    drop_tail (y ∷ l) (suc i) x xs e = drop_tail l i x xs e

    drop_head : (l : List ℕ) (i x : ℕ) (xs : List ℕ) → drop i l ≡ x ∷ xs → get_or l i 0 ≡ x
    drop_head [] zero x xs e = let z : ◌≡◌ {A = ℕ} 0 1 = cc in absurd (omega arith)
    drop_head [] (suc i) x xs e = let z : ◌≡◌ {A = ℕ} 0 1 = cc in absurd (omega arith)
    drop_head (y ∷ l) zero x xs e = cc
    drop_head (y ∷ l) (suc i) x xs e = drop_head l i x xs e

    tail : drop (suc i) parents ≡ xs
    tail = drop_tail parents i x xs e

    go : rest parents (first_word (positions v (suc i) xs)) ≡ positions v (suc i) xs → (q : Bool) → eqb x v ≡ q
        → rest parents (first_word (keep_if q i (positions v (suc i) xs))) ≡ keep_if q i (positions v (suc i) xs)
    go ih true t =
        let a : get_or parents i 0 ≡ v = drop_head parents i x xs e ∙ eqb-true _ _ t in
        rw (a, tail)
    go ih false t = ih

pub first_rest : (parents : List ℕ) (v i : ℕ) → rest parents (first_word (positions_from parents v i)) ≡ positions_from parents v i
first_rest parents v i = first-rest-at parents v i (drop i parents) refl

first_bound_at : (v i : ℕ) (xs : List ℕ) → first_word (positions v i xs) ≤ i + length xs
unfolding first_word positions
first_bound_at v i [] = omega arith
first_bound_at v i (x ∷ xs) = go (first_bound_at v (suc i) xs) (eqb x v)
  where
    go : first_word (positions v (suc i) xs) ≤ suc i + length xs → (q : Bool) → first_word (keep_if q i (positions v (suc i) xs))
        ≤ i + suc (length xs)
    go ih true = omega arith
    go ih false = omega arith

pub first_bound : (parents : List ℕ) (v i : ℕ) → i ≤ length parents → first_word (positions_from parents v i) ≤ length parents
first_bound parents v i h = omega (arith, first_bound_at v i (drop i parents), length-drop i parents)
