-- Laws of the index by parent, as functions of a position: one position more, found or new. Assumes nothing.
use Prim.Native.Nat.{ℕ, suc, ◌+◌, ◌<◌}
use native.Mathlib.Omega.{arith}
use native.Mathlib.Nat.{le_refl, mod-lt}
use mathlib.Core.Path.{◌≡◌, refl, sym, ap, ◌∙◌}
use mathlib.Core.Bool.{Bool, true, false, cond}
use mathlib.Core.List.{List, ◌∷◌}
use lib.ListN.{length, get_or}
use lib.Dec.{eqb}
use borrow.Author.Tests.{eqb-true, eqb-false, eq-eqb}
use Rattle.derive_children.specs.Index.{first_word, positions_from, Chain, rep_of, head_of, slot_of, LinkedFrom, Sought, Index}
use Rattle.derive_children.proofs.Positions.{first-same, first-other}
use Rattle.derive_children.proofs.Seeking.{chain_weaken, chain_agree, rep_here, rep_skip, rep_bears, rep_below, head_agree}

-- ---- one position more

pub slot_below : (parents : List ℕ) (v : ℕ) → slot_of parents v < length parents + 1
slot_below parents v = let h : 0 < length parents + 1 = omega arith in mod-lt v h

module _ (parents : List ℕ) (first link head : ℕ → ℕ) (i : ℕ) (x : Index parents first link head i) where
  pub index_agree :
      (first' link' head' : ℕ → ℕ) → ((s : ℕ) → s < length parents + 1 → first' s ≡ first s) → ((j : ℕ) → j < length parents →
      link' j ≡ link j)
      → ((j : ℕ) → j < length parents → head' j ≡ head j) → Index parents first' link' head' i
  index_agree first' link' head' f l h =
      record {
        reps = x.reps;
        chain = λ s b. rw (f s b) (chain_agree (length parents) link link' i (first s) (x.reps s) (λ j a c. l j c) (x.chain s
            b));
        looks = λ v.
            head_agree parents head head' v (x.reps (slot_of parents v))
            (λ k e. h k (rep_below parents (length parents) link i (first (slot_of parents v)) v (x.reps (slot_of parents v)) k
            (x.chain (slot_of parents v) (slot_below parents v)) e))
            ∙ x.looks v;
      }

  pub linked : (s : ℕ) → s < length parents + 1 → LinkedFrom parents link (first s)
  linked s b = record { low = i; l = x.reps s; chain = x.chain s b }

  pub looked :
      (v s r : ℕ) → s ≡ slot_of parents v → Sought parents link v (first s) r → head_of head r ≡ first_word (positions_from parents v i)
  looked v s r e k =
      let b : s < length parents + 1 = rw e (slot_below parents v) in
      let q : r ≡ rep_of parents v (x.reps s) = k.is i (x.reps s) (x.chain s b) in
      rw (q, e) (x.looks v)

-- the representative j is there: its head becomes i
module _ (parents : List ℕ) (first link head head' : ℕ → ℕ) (i : ℕ) (inside : i < length parents) (x : Index parents first link
    head (suc i)) (v s j : ℕ) (ev : v ≡ get_or parents i 0)
    (es : s ≡ slot_of parents v) (k : Sought parents link v (first s) (suc j)) (here : head' j ≡ suc i) (there : (m : ℕ) → m <
    length parents → (m ≡ j → ⊥) → head' m ≡ head m) where
  is_rep : rep_of parents v (x.reps (slot_of parents v)) ≡ suc j
  is_rep =
      let b : s < length parents + 1 = rw es (slot_below parents v) in
      sym (rw es at (k.is (suc i) (x.reps s) (x.chain s b)))

  pub index-found : Index parents first link head' i
  index-found =
      record {
        reps = x.reps;
        chain = λ t b. chain_weaken (length parents) link (suc i) i (first t) (x.reps t) (omega arith) (x.chain t b);
        looks = λ u. go u (eqb v u) refl;
      }
    where
      go : (u : ℕ) (q : Bool) → eqb v u ≡ q → head_of head' (rep_of parents u (x.reps (slot_of parents u))) ≡ first_word (positions_from parents
          u i)
      go u true t =
          let e : u ≡ v = sym (eqb-true _ _ t) in
          rw (e, is_rep) (here ∙ sym (first-same parents v i inside (sym ev)))
      go u false t =
          let ne : v ≡ u → ⊥ = eqb-false _ _ t in
          let b : get_or parents j 0 ≡ v = rep_bears parents v (x.reps (slot_of parents v)) j is_rep in
          let n2 : get_or parents i 0 ≡ u → ⊥ = λ q. ne (cc) in
          head_agree parents head head' u (x.reps (slot_of parents u))
          (λ m e. there m (rep_below parents (length parents) link (suc i) (first (slot_of parents u)) u (x.reps (slot_of parents
          u)) m (x.chain (slot_of parents u) (slot_below parents u)) e)
          (λ q. let c : get_or parents m 0 ≡ u = rep_bears parents u (x.reps (slot_of parents u)) m e in ne (cc)))
          ∙ x.looks u ∙ first-other parents u i inside n2

-- there is none: i is the representative
module _ (parents : List ℕ) (first link head first' link' head' : ℕ → ℕ) (i : ℕ) (inside : i < length parents) (x : Index parents
    first link head (suc i)) (v s : ℕ) (ev : v ≡ get_or parents i 0)
    (es : s ≡ slot_of parents v)
    (f0 : first' s ≡ suc i) (f1 : (t : ℕ) → t < length parents + 1 → (t ≡ s → ⊥) → first' t ≡ first t)
    (l0 : link' i ≡ first s) (l1 : (j : ℕ) → j < length parents → (j ≡ i → ⊥) → link' j ≡ link j)
    (h0 : head' i ≡ suc i) (h1 : (j : ℕ) → j < length parents → (j ≡ i → ⊥) → head' j ≡ head j) where
  reps' : ℕ → List ℕ
  reps' t = cond (eqb t s) (i ∷ x.reps t) (x.reps t)

  behind : (t : ℕ) → t < length parents + 1 → Chain (length parents) link' (suc i) (first t) (x.reps t)
  behind t b = chain_agree (length parents) link link' (suc i) (first t) (x.reps t) (λ j a c. l1 j c (λ q. absurd (omega arith)))
      (x.chain t b)

  chain' : (t : ℕ) → t < length parents + 1 → (q : Bool) → eqb t s ≡ q → Chain (length parents) link' i (first' t) (cond q (i ∷ x.reps t) (x.reps t))
  chain' t b true e =
      let d : t ≡ s = eqb-true _ _ e in
      let a : first' t ≡ suc i = ap first' d ∙ f0 in
      let c : link' i ≡ first t = l0 ∙ ap first (sym d) in
      (a, le_refl i, inside, rw c (behind t b))
  chain' t b false e =
      let d : t ≡ s → ⊥ = eqb-false _ _ e in
      rw (f1 t b d) (chain_weaken (length parents) link' (suc i) i (first t) (x.reps t) (omega arith) (behind t b))

  -- of another parent than i's, the chains say what they said
  same_rep : (u t : ℕ) (q : Bool) → (get_or parents i 0 ≡ u → ⊥) → rep_of parents u (cond q (i ∷ x.reps t) (x.reps t)) ≡ rep_of
      parents u (x.reps t)
  same_rep u t true ne = rep_skip parents u i (x.reps t) ne
  same_rep u t false ne = refl

  looks' : (u : ℕ) (q : Bool) → eqb v u ≡ q → head_of head' (rep_of parents u (reps' (slot_of parents u))) ≡ first_word (positions_from parents u
      i)
  unfolding reps'
  looks' u true t =
      let e : u ≡ v = sym (eqb-true _ _ t) in
      let f : eqb (slot_of parents v) s ≡ true = eq-eqb _ _ (sym es) in
      rw (e, f, rep_here parents v i (x.reps (slot_of parents v)) (sym ev)) (h0 ∙ sym (first-same parents v i inside (sym ev)))
  looks' u false t =
      let ne : v ≡ u → ⊥ = eqb-false _ _ t in
      let n2 : get_or parents i 0 ≡ u → ⊥ = λ q. ne (cc) in
      rw (same_rep u (slot_of parents u) (eqb (slot_of parents u) s) n2)
      (head_agree parents head head' u (x.reps (slot_of parents u))
      (λ m e. h1 m (rep_below parents (length parents) link (suc i) (first (slot_of parents u)) u (x.reps (slot_of parents u)) m
      (x.chain (slot_of parents u) (slot_below parents u)) e)
      (λ q. let c : get_or parents m 0 ≡ u = rep_bears parents u (x.reps (slot_of parents u)) m e in n2 (cc)))
      ∙ x.looks u ∙ first-other parents u i inside n2)

  pub index-new : Index parents first' link' head' i
  unfolding reps'
  index-new =
      record {
        reps = reps';
        chain = λ t b. chain' t b (eqb t s) refl;
        looks = λ u. looks' u (eqb v u) refl;
      }
