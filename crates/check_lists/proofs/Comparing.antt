-- `==` of slices, and two lists compared element by element, from their first on. Assumes nothing.
use Rattle.std.proofs.Common.{◌≡◌, refl, ap, arith, Bool, true, false, ◌&&◌, suc, List, [], ◌∷◌, length}
use Rattle.std.specs.Cmp.Lexicographic.{pointwise}
use Rattle.std.specs.List.{list_all, zip}
use Rattle.format.specs.Check.{same_list}

module _ {A : Type 0} (f : A → A → Bool) where
  pub pointwise_is : (l m : List A) → pointwise f l m ≡ same_list f l m
  unfolding same_list
  pointwise_is [] [] = refl
  pointwise_is [] (y ∷ m) = refl
  pointwise_is (x ∷ l) [] = refl
  pointwise_is (x ∷ l) (y ∷ m) = ap (λ (b : Bool). f x y && b) (pointwise_is l m)

  -- lists of different lengths differ
  pub same_lengths : (l m : List A) → (length l ≡ length m → ⊥) → false ≡ same_list f l m
  unfolding same_list
  same_lengths [] [] h = absurd (h refl)
  same_lengths [] (y ∷ m) h = refl
  same_lengths (x ∷ l) [] h = refl
  same_lengths (x ∷ l) (y ∷ m) h = by (f x y) (same_lengths l m (λ e. h (ap suc e)))
    where
      by : (b : Bool) → false ≡ same_list f l m → false ≡ (b && same_list f l m)
      by true e = e
      by false e = refl

  -- the test of each pair
  pub same_pairs : (l m : List A) → length l ≡ length m → list_all (λ p. f p.0 p.1) (zip l m) ≡ same_list f l m
  unfolding same_list
  same_pairs [] [] h = refl
  same_pairs [] (y ∷ m) h = absurd (omega arith)
  same_pairs (x ∷ l) [] h = absurd (omega arith)
  same_pairs (x ∷ l) (y ∷ m) h = ap (λ (b : Bool). f x y && b) (same_pairs l m (omega arith))
