-- The laws of a pool with a row entered, over `find` and `replace` of the format: the row is found, nothing else is changed,
-- and only a new address takes a row. `enter` is the format's `put` of the pool alone. Assumes nothing.
use mathlib.Core.Path.{◌≡◌, refl, sym, ap, ◌∙◌}
use mathlib.Core.Bool.{Bool, true, false, cond}
use Rattle.std.specs.Prelude.{Option, None, Some}
use mathlib.Core.List.{List, [], ◌∷◌, ◌++◌}
use Prim.Native.Nat.{ℕ, suc}
use native.Mathlib.Omega.{arith}
use borrow.Author.Tests.{eq-eqb, ne_eqb, eqb-true}
use lib.Dec.{eqb, ltb}
use lib.ListN.{length}
use Rattle.format.specs.Result.{done, ◌>>=◌, need}
use Rattle.format.specs.Tables.{Pooled, Tables, Room, with_pool, find, replace, put_over}
use Rattle.blocks.specs.Pool.{enter, enter_over}

-- ---- a row in the place of the earlier one

same_by :
    (b : Bool) (p o : Pooled) (q : List Pooled) → eqb o.address p.address ≡ b →
    (cond b (Some o) (find p.address q) ≡ None → ⊥) →
    ((find p.address q ≡ None → ⊥) → find p.address (replace p q) ≡ Some p) →
    find p.address (cond b (p ∷ q) (o ∷ replace p q)) ≡ Some p
unfolding find
same_by true p o q e n h = simp (eq-eqb p.address p.address refl)
same_by false p o q e n h = simp e (h n)

pub find-replace-same :
    (p : Pooled) (q : List Pooled) → (find p.address q ≡ None → ⊥) → find p.address (replace p q) ≡ Some p
unfolding find replace
find-replace-same p [] n = absurd (n refl)
find-replace-same p (o ∷ q) n = same_by (eqb o.address p.address) p o q refl n (find-replace-same p q)

other_by :
    (b : Bool) (p o : Pooled) (a : ℕ) (q v : List Pooled) → (p.address ≡ a → ⊥) → eqb o.address p.address ≡ b →
    find a v ≡ find a q → find a (cond b (p ∷ q) (o ∷ v)) ≡ find a (o ∷ q)
unfolding find
other_by true p o a q v n e h =
    simp (ne_eqb p.address a n, ne_eqb o.address a (λ f. n (sym (eqb-true o.address p.address e) ∙ f)))
other_by false p o a q v n e h = simp h

pub find-replace-other : (p : Pooled) (a : ℕ) (q : List Pooled) → (p.address ≡ a → ⊥) → find a (replace p q) ≡ find a q
unfolding find replace
find-replace-other p a [] n = refl
find-replace-other p a (o ∷ q) n =
    other_by (eqb o.address p.address) p o a q (replace p q) n refl (find-replace-other p a q n)

pub length-replace : (p : Pooled) (q : List Pooled) → length (replace p q) ≡ length q
unfolding replace
length-replace p [] = refl
length-replace p (o ∷ q) = by (eqb o.address p.address) (length-replace p q)
  where
    by : (b : Bool) → length (replace p q) ≡ length q → length (cond b (p ∷ q) (o ∷ replace p q)) ≡ suc (length q)
    by true h = refl
    by false h = ap suc h

-- ---- a row behind the others

pub find-append-same : (p : Pooled) (q : List Pooled) → find p.address q ≡ None → find p.address (q ++ (p ∷ [])) ≡ Some p
unfolding find
find-append-same p [] e = simp (eq-eqb p.address p.address refl)
find-append-same p (o ∷ q) e = by (eqb o.address p.address) (find-append-same p q) e
  where
    by :
        (b : Bool) → (find p.address q ≡ None → find p.address (q ++ (p ∷ [])) ≡ Some p) →
        cond b (Some o) (find p.address q) ≡ None → cond b (Some o) (find p.address (q ++ (p ∷ []))) ≡ Some p
    by true h f = let z : ◌≡◌ {A = ℕ} 0 1 = cc in absurd (omega arith)
    by false h f = h f

pub find-append-other : (p : Pooled) (a : ℕ) (q : List Pooled) → (p.address ≡ a → ⊥) → find a (q ++ (p ∷ [])) ≡ find a q
unfolding find
find-append-other p a [] n = simp (ne_eqb p.address a n)
find-append-other p a (o ∷ q) n = simp (find-append-other p a q n)

-- ---- a row entered

-- what was entered is found, and every other address as before
find_over :
    (n : ℕ) (p : Pooled) (q e : List Pooled) (o : Option Pooled) → find p.address q ≡ o → enter_over n p q o ≡ done e →
    (find p.address e ≡ Some p) × ((a : ℕ) → (p.address ≡ a → ⊥) → find a e ≡ find a q)
find_over n p q e (Some o) f g =
    let stands : find p.address q ≡ None → ⊥ = λ m. let z : ◌≡◌ {A = ℕ} 0 1 = cc in omega arith in
    let is : replace p q ≡ e = cc in
    rw (← is) (find-replace-same p q stands, λ a. find-replace-other p a q)
find_over n p q e None f g = by (ltb (length q) n) g
  where
    by :
        (b : Bool) → (need 1 b >>= λ u. done (q ++ (p ∷ []))) ≡ done e →
        (find p.address e ≡ Some p) × ((a : ℕ) → (p.address ≡ a → ⊥) → find a e ≡ find a q)
    by true d = let is : q ++ (p ∷ []) ≡ e = cc in rw (← is) (find-append-same p q f, λ a. find-append-other p a q)
    by false d = let z : ◌≡◌ {A = ℕ} 0 1 = cc in absurd (omega arith)

module _ (n : ℕ) (p : Pooled) (q : List Pooled) {e : List Pooled} (done_e : enter n p q ≡ done e) where
  pub find-enter-same : find p.address e ≡ Some p
  find-enter-same = (find_over n p q e (find p.address q) refl done_e).0

  pub find-enter-other : (a : ℕ) → (p.address ≡ a → ⊥) → find a e ≡ find a q
  find-enter-other = (find_over n p q e (find p.address q) refl done_e).1

-- ---- the format's `put`

-- what was done to the pool goes on in the tables
pub put-enter :
    (room : Room) (p : Pooled) (t : Tables) →
    put_over room p t (find p.address t.pool) ≡ (enter room.pool p t.pool >>= λ q. done (with_pool q t))
unfolding put_over
put-enter room p t = by (find p.address t.pool)
  where
    need_by : (b : Bool) →
        (need 1 b >>= λ u. done (with_pool (t.pool ++ (p ∷ [])) t))
        ≡ (need 1 b >>= (λ u. done (t.pool ++ (p ∷ []))) >>= λ q. done (with_pool q t))
    need_by true = refl
    need_by false = refl

    by : (o : Option Pooled) → put_over room p t o ≡ (enter_over room.pool p t.pool o >>= λ q. done (with_pool q t))
    by (Some o) = refl
    by None = need_by (ltb (length t.pool) room.pool)
