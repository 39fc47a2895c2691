-- Laws of the index of all positions, and of the table of first children made from it. Assumes nothing.
use Prim.Native.Nat.{ℕ, zero, suc, ◌+◌, ◌*◌, ◌≤◌, ◌<◌}
use native.Mathlib.Omega.{arith}
use native.Mathlib.Nat.{le_refl}
use mathlib.Core.Path.{◌≡◌, refl, sym, ap, ◌∙◌}
use mathlib.Core.Bool.{Bool, true, false}
use mathlib.Core.List.{List, []}
use lib.ListN.{length, get_or, set, replicate, length-set}
use lib.Seq.{get_or-set_same, get_or-set_other}
use lib.Dec.{eqb}
use borrow.Author.Tests.{eqb-true, eqb-false}
use Rattle.format.specs.Children.{positions, kids}
use Rattle.derive_children.specs.Index.{first_word, rep_of, head_of, slot_of, Sought, first_at, link_at, head_at, IndexTable}
use Rattle.derive_children.specs.Pile.{Kids}
use Rattle.derive_children.proofs.Positions.{after_none}
use Rattle.derive_children.proofs.ByParent.{index_agree, looked}

-- ---- the start, and the loop of `index`

zero-at : (n s : ℕ) → ◌≡◌ {A = ℕ} (get_or (replicate n 0) s 0) 0
zero-at zero s = refl
zero-at (suc n) zero = refl
zero-at (suc n) (suc s) = zero-at n s

pub indexed-none : (parents t : List ℕ) → 8 * (length parents + 1) ≤ length t → t ≡ replicate (length t) 0 → IndexTable parents t
    (length parents)
unfolding first_word rep_of
indexed-none parents t h z =
    record {
      room = h;
      index =
          record {
            reps = λ s. [];
            chain = λ s b. ap (λ (l : List ℕ). get_or l (2 * length parents + s) 0) z ∙ zero-at (length t) (2 * length parents + s);
            looks = λ v. sym (ap first_word (after_none parents v (length parents) (le_refl (length parents))));
          };
      nexts = λ j a b. absurd (omega arith);
    }

-- ---- what `first_child` gives

module _ (parents t : List ℕ) (x : IndexTable parents t 0) (v : ℕ) where
  first-is :
      (s r : ℕ) → s ≡ slot_of parents v → Sought parents (link_at parents t) v (get_or t (2 * length parents + s) 0) r
      → head_of (head_at parents t) r ≡ first_word (positions v 0 parents)
  first-is s r es k =
      looked parents (first_at parents t) (link_at parents t) (head_at parents t) 0 x.index v s r es k

-- a store among the first children leaves the index as it is
pub indexed-kid :
    (parents t : List ℕ) (b y : ℕ) → b < length parents → IndexTable parents t 0 → IndexTable parents (set t (length parents + b)
    y) 0
indexed-kid parents t b y h x =
    let t'' = set t (length parents + b) y in
    record {
      room = rw (length-set t (length parents + b) y) x.room;
      index =
          index_agree parents (first_at parents t) (link_at parents t) (head_at parents t) 0 x.index (first_at parents t'')
          (link_at parents t'') (head_at parents t'')
          (λ m l. get_or-set_other t (length parents + b) (2 * length parents + m) y 0 (λ q. absurd (omega arith)))
          (λ m l. get_or-set_other t (length parents + b) (3 * length parents + suc m) y 0 (λ q. absurd (omega arith)))
          (λ m l. get_or-set_other t (length parents + b) (4 * length parents + suc m) y 0 (λ q. absurd (omega arith)));
      nexts = λ m a l. get_or-set_other t (length parents + b) m y 0 (λ q. absurd (omega arith)) ∙ x.nexts m a l;
    }

-- ---- the table of first children

pub kids-more :
    (indices parents t : List ℕ) (n y : ℕ) → length parents + n < length t → y ≡ first_word (positions (get_or indices n 0) 0 parents)
    → Kids indices parents t n
    → Kids indices parents (set t (length parents + n) y) (n + 1)
unfolding kids
kids-more indices parents t n y h e k = record { is = λ b l. go b l (eqb b n) refl }
  where
    go : (b : ℕ) → b < n + 1 → (q : Bool) → eqb b n ≡ q → get_or (set t (length parents + n) y) (length parents + b) 0 ≡ first_word
        (positions (get_or indices b 0) 0 parents)
    go b l true w = let d : b ≡ n = eqb-true _ _ w in rw d (get_or-set_same t (length parents + n) y 0 h ∙ e)
    go b l false w =
        let d : b ≡ n → ⊥ = eqb-false _ _ w in
        let m : b < n = omega arith in
        get_or-set_other t (length parents + n) (length parents + b) y 0 (λ q. d (omega arith)) ∙ k.is b m
