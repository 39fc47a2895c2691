-- A table compared with numbers, one of them behind all others, place by place. Assumes nothing.
use Prim.Native.Nat.{ℕ, suc, ◌+◌, ◌≤◌, ◌<◌}
use native.Mathlib.Nat.{add-zero}
use native.Mathlib.Omega.{arith}
use mathlib.Core.Path.{◌≡◌, refl, sym, ap, ◌∙◌}
use mathlib.Core.Bool.{Bool, false}
use mathlib.Core.List.{List, [], ◌∷◌, map}
use lib.ListN.{length, get_or, length-map, get_or-map}
use Rattle.std.specs.List.{list_all, enumerate_from}
use Rattle.format.specs.Check.{same_list}
use Rattle.check_lists.proofs.Comparing.{same_lengths}
use Rattle.replay_sample.specs.Parts.{padded_to}
use Rattle.replay_sample.proofs.Numbers.{get_or-padded, length-padded, longer-padded}

-- a type of numbers: the value of one, and of each of some
module _ {A : Type 0} (f : A → A → Bool) (value : ℕ → A) (values : List ℕ → List A) (each : (l : List ℕ) → map value l ≡ values l) where
  length-values : (l : List ℕ) → length (values l) ≡ length l
  length-values l = ap length (sym (each l)) ∙ length-map l value

  get_or-values : (l : List ℕ) (i d : ℕ) → get_or (values l) i (value d) ≡ value (get_or l i d)
  get_or-values l i d = ap (λ (m : List A). get_or m i (value d)) (sym (each l)) ∙ get_or-map value l i d

  -- m is wanted of l, which stands from place i on
  numbered :
      (w : List ℕ) (d : ℕ) (l m : List A) (i : ℕ) → length m ≡ length l →
      ((k : ℕ) → get_or m k (value d) ≡ value (get_or w (i + k) d)) →
      list_all (λ p. f p.1 (value (get_or w p.0 d))) (enumerate_from i l) ≡ same_list f l m
  unfolding same_list
  numbered w d [] [] i h k = refl
  numbered w d [] (y ∷ m) i h k = absurd (omega arith)
  numbered w d (x ∷ l) [] i h k = absurd (omega arith)
  numbered w d (x ∷ l) (y ∷ m) i h k =
      let here : y ≡ value (get_or w i d) = k 0 ∙ ap (λ (n : ℕ). value (get_or w n d)) (add-zero i) in
      let behind : (j : ℕ) → get_or m j (value d) ≡ value (get_or w (i + 1 + j) d) =
      λ j. k (suc j) ∙ ap (λ (n : ℕ). value (get_or w n d)) (omega arith)
      in
      rw (here, numbered w d l m (i + 1) (omega arith) behind) refl

  -- a table t, and the numbers w with d behind them
  module _ (t : List A) (w : List ℕ) (d : ℕ) where
    abbrev wanted : List A
    wanted = values (padded_to w d (length t))

    pub same_longer : length t < length w → false ≡ same_list f t wanted
    same_longer l = same_lengths f t wanted (λ e. longer-padded w (length t) d l (e ∙ length-values (padded_to w d (length t))))

    -- each at its place against what is wanted there
    pub same_places :
        length w ≤ length t → list_all (λ p. f p.1 (value (get_or w p.0 d))) (enumerate_from 0 t) ≡ same_list f t wanted
    same_places room =
        numbered w d t wanted 0 (length-values (padded_to w d (length t)) ∙ length-padded w (length t) d room)
        (λ k. get_or-values (padded_to w d (length t)) k d ∙ ap value (get_or-padded w _ k d ∙ ap (λ (n : ℕ). get_or w n d) (omega arith)))
