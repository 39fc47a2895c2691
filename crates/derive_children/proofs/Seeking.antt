-- Laws of the chains of an index, and of the walk along one to a given parent. Assumes nothing.
use Prim.Native.Nat.{ℕ, zero, suc, ◌+◌, ◌-◌, ◌*◌, ◌≤◌, ◌<◌}
use native.Mathlib.Omega.{arith}
use mathlib.Core.Path.{◌≡◌, refl, sym, ap, ◌∙◌}
use mathlib.Core.Bool.{Bool, true, false, cond}
use mathlib.Core.List.{List, [], ◌∷◌}
use lib.ListN.{length, get_or}
use lib.Dec.{eqb}
use borrow.Author.Tests.{eqb-true, eq-eqb, ne_eqb}
use Rattle.derive_children.specs.Index.{link_at, Chain, rep_of, head_of, LinkedFrom, Sought}

-- ---- chains

pub chain_weaken : (n : ℕ) (link : ℕ → ℕ) (low low' w : ℕ) (l : List ℕ) → low' ≤ low → Chain n link low w l → Chain n link low' w
    l
chain_weaken n link low low' w [] h c = c
chain_weaken n link low low' w (j ∷ l) h c = (c.0, omega (arith, c.1), c.2, c.3)

-- links that agree from `low` on make the same chain
pub chain_agree :
    (n : ℕ) (link link' : ℕ → ℕ) (low w : ℕ) (l : List ℕ) → ((j : ℕ) → low ≤ j → j < n → link' j ≡ link j) → Chain n link low w l
    → Chain n link' low w l
chain_agree n link link' low w [] h c = c
chain_agree n link link' low w (j ∷ l) h c =
    let o : link' j ≡ link j = h j c.1 c.2 in
    let d : Chain n link' (suc j) (link j) l = chain_agree n link link' (suc j) (link j) l (λ k a b. h k (omega (arith, c.1)) b)
    c.3 in
    (c.0, c.1, c.2, rw o d)

-- a word starts one chain
pub chain_unique :
    (n : ℕ) (link : ℕ → ℕ) (low low' w : ℕ) (l l' : List ℕ) → Chain n link low w l → Chain n link low' w l' → l ≡ l'
chain_unique n link low low' w [] [] c d = refl
chain_unique n link low low' w [] (j ∷ l') c d = absurd (omega (arith, c, d.0))
chain_unique n link low low' w (j ∷ l) [] c d = absurd (omega (arith, c.0, d))
chain_unique n link low low' w (j ∷ l) (k ∷ l') c d =
    let e : k ≡ j = omega (arith, c.0, d.0) in
    let d' : Chain n link (suc j) (link j) l' = rw e at d.3 in
    let r : l ≡ l' = chain_unique n link (suc j) (suc j) (link j) l l' c.3 d' in
    cc

-- ---- the first of a chain with a given parent

module _ (parents : List ℕ) where
  pub rep_here : (v j : ℕ) (l : List ℕ) → get_or parents j 0 ≡ v → rep_of parents v (j ∷ l) ≡ suc j
  unfolding rep_of
  rep_here v j l e = rw (eq-eqb _ _ e)

  pub rep_skip : (v j : ℕ) (l : List ℕ) → (get_or parents j 0 ≡ v → ⊥) → rep_of parents v (j ∷ l) ≡ rep_of parents v l
  unfolding rep_of
  rep_skip v j l e = rw (ne_eqb _ _ e)

  pub rep_bears : (v : ℕ) (l : List ℕ) (k : ℕ) → rep_of parents v l ≡ suc k → get_or parents k 0 ≡ v
  unfolding rep_of
  rep_bears v [] k e = absurd (omega arith)
  rep_bears v (j ∷ l) k e = go (rep_bears v l k) (eqb (get_or parents j 0) v) refl e
    where
      go : (rep_of parents v l ≡ suc k → get_or parents k 0 ≡ v) → (q : Bool) → eqb (get_or parents j 0) v ≡ q → cond q (suc j) (rep_of
          parents v l) ≡ suc k → get_or parents k 0 ≡ v
      go ih true t f = let h : j ≡ k = omega arith in let b : get_or parents j 0 ≡ v = eqb-true _ _ t in cc
      go ih false t f = ih f

  -- the position found is below n, since the chain is
  pub rep_below : (n : ℕ) (link : ℕ → ℕ) (low w v : ℕ) (l : List ℕ) (k : ℕ) → Chain n link low w l → rep_of parents v l ≡ suc k → k
      < n
  unfolding rep_of
  rep_below n link low w v [] k c e = absurd (omega arith)
  rep_below n link low w v (j ∷ l) k c e = go (rep_below n link (suc j) (link j) v l k c.3) (eqb (get_or parents j 0) v) e
    where
      go : (rep_of parents v l ≡ suc k → k < n) → (q : Bool) → cond q (suc j) (rep_of parents v l) ≡ suc k → k < n
      go ih true f = omega (arith, c.2)
      go ih false f = ih f

  -- heads that agree at the positions of v say the same of v
  pub head_agree :
      (head head' : ℕ → ℕ) (v : ℕ) (l : List ℕ) → ((k : ℕ) → rep_of parents v l ≡ suc k → head' k ≡ head k)
      → head_of head' (rep_of parents v l) ≡ head_of head (rep_of parents v l)
  head_agree head head' v l h = go (rep_of parents v l) refl
    where
      go : (w : ℕ) → rep_of parents v l ≡ w → head_of head' w ≡ head_of head w
      go zero e = refl
      go (suc k) e = h k e

-- ---- the walk along a chain

-- the link at a word, where the code reads it
pub link-word : (parents t : List ℕ) (at : ℕ) → 0 < at → get_or t (3 * length parents + at) 0 ≡ link_at parents t (at - 1)
link-word parents t at h =
    let e : at ≡ suc (at - 1) = omega arith in
    ap (λ (k : ℕ). get_or t (3 * length parents + k) 0) e

-- what is left of a walk at the word w
unfoldable pub left : ℕ → ℕ → ℕ
left n zero = 0
left n (suc j) = suc (n - j)

pub record Seeking (parents : List ℕ) (link : ℕ → ℕ) (v from at : ℕ) : Type 0 where
  pub low : ℕ
  pub l : List ℕ
  pub chain : Chain (length parents) link low at l
  pub same : (low : ℕ) (k : List ℕ) → Chain (length parents) link low from k → rep_of parents v k ≡ rep_of parents v l

module _ (parents : List ℕ) (link : ℕ → ℕ) (v : ℕ) where
  pub seek-starts : (from : ℕ) → LinkedFrom parents link from → Seeking parents link v from from
  seek-starts from k =
      record {
        low = k.low;
        l = k.l;
        chain = k.chain;
        same = λ low l c. ap (rep_of parents v) (chain_unique (length parents) link low k.low from l k.l c k.chain);
      }

  module _ (from at : ℕ) (s : Seeking parents link v from at) where
    pub seek-below : at ≤ length parents
    seek-below = go s.l s.chain
      where
        go : (l : List ℕ) → Chain (length parents) link s.low at l → at ≤ length parents
        go [] c = omega (arith, c)
        go (j ∷ l) c = omega (arith, c.0, c.2)

    pub seek_less : 0 < at → left (length parents) (link (at - 1)) < left (length parents) at
    unfolding left
    seek_less h = go s.l s.chain
      where
        go : (l : List ℕ) → Chain (length parents) link s.low at l → left (length parents) (link (at - 1))
            < left (length parents) at
        go [] c = absurd (omega (arith, c))
        go (j ∷ []) c =
            let e : at - 1 ≡ j = omega (arith, c.0) in
            let f : link (at - 1) ≡ 0 = ap link e ∙ c.3 in
            rw (f, c.0) (omega arith)
        go (j ∷ k ∷ l) c =
            let e : at - 1 ≡ j = omega (arith, c.0) in
            let f : link (at - 1) ≡ suc k = ap link e ∙ c.3.0 in
            rw (f, c.0) (omega (arith, c.2, c.3.1, c.3.2))

    pub seek_turns : 0 < at → (get_or parents (at - 1) 0 ≡ v → ⊥) → Seeking parents link v from (link (at - 1))
    seek_turns h ne = go s.l s.chain s.same
      where
        go :
            (l : List ℕ) → Chain (length parents) link s.low at l
            → ((low : ℕ) (k : List ℕ) → Chain (length parents) link low from k → rep_of parents v k ≡ rep_of parents v l)
            → Seeking parents link v from (link (at - 1))
        go [] c same = absurd (omega (arith, c))
        go (j ∷ l) c same =
            let e : at - 1 ≡ j = omega (arith, c.0) in
            let ne' : get_or parents j 0 ≡ v → ⊥ = λ q. ne (rw e q) in
            record {
              low = suc j;
              l = l;
              chain = rw e c.3;
              same = λ low k d. same low k d ∙ rep_skip parents v j l ne';
            }

    pub seek_found : 0 < at → get_or parents (at - 1) 0 ≡ v → Sought parents link v from at
    seek_found h q = record { is = λ low k d. go low k d s.l s.chain (s.same low k d); below = seek-below }
      where
        go :
            (low : ℕ) (k : List ℕ) → Chain (length parents) link low from k
            → (l : List ℕ) → Chain (length parents) link s.low at l → rep_of parents v k ≡ rep_of parents v l → at ≡ rep_of
            parents v k
        go low k d [] c same = absurd (omega (arith, c))
        go low k d (j ∷ l) c same =
            let e : at - 1 ≡ j = omega (arith, c.0) in
            let q' : get_or parents j 0 ≡ v = rw e at q in
            c.0 ∙ sym (rep_here parents v j l q') ∙ sym same

    pub seek_misses : at ≤ 0 → Sought parents link v from 0
    unfolding rep_of
    seek_misses h = record { is = λ low k d. go low k d s.l s.chain (s.same low k d); below = omega arith }
      where
        go :
            (low : ℕ) (k : List ℕ) → Chain (length parents) link low from k
            → (l : List ℕ) → Chain (length parents) link s.low at l → rep_of parents v k ≡ rep_of parents v l → 0 ≡ rep_of parents
            v k
        go low k d [] c same = sym same
        go low k d (j ∷ l) c same = absurd (omega (arith, c.0))
