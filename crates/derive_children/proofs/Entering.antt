-- Laws of the index in the one table: the stores that enter a position, behind its parent's representative or as a new one.
-- Assumes nothing.
use Prim.Native.Nat.{ℕ, suc, ◌+◌, ◌-◌, ◌*◌, ◌≤◌, ◌<◌}
use native.Mathlib.Omega.{arith}
use native.Mathlib.Numerals.{add-one}
use mathlib.Core.Path.{◌≡◌, refl, ◌∙◌}
use mathlib.Core.Bool.{Bool, true, false}
use mathlib.Core.List.{List}
use lib.ListN.{length, get_or, set, length-set}
use lib.Seq.{get_or-set_same, get_or-set_other}
use lib.Dec.{eqb}
use borrow.Author.Tests.{eqb-true, eqb-false}
use Rattle.derive_children.specs.Index.{first_word, positions_from, slot_of, Sought, first_at, link_at, head_at, IndexTable}
use Rattle.derive_children.proofs.ByParent.{slot_below, index_agree, looked, index-found, index-new}

-- ---- stores elsewhere

two_same : (t : List ℕ) (a x b y k : ℕ) → (k ≡ a → ⊥) → (k ≡ b → ⊥) → get_or (set (set t a x) b y) k 0 ≡ get_or t k 0
two_same t a x b y k p q = get_or-set_other (set t a x) b k y 0 q ∙ get_or-set_other t a k x 0 p

-- ---- the words of the table once position i is entered

-- behind the representative with the word r, whose head was y
abbrev behind : List ℕ → List ℕ → ℕ → ℕ → ℕ → List ℕ
behind parents t i r y = set (set t i y) (4 * length parents + r) (i + 1)

module _ (parents t : List ℕ) (i : ℕ) (inside : i < length parents) (room : 8 * (length parents + 1) ≤ length t)
    (r y : ℕ) (Some : 0 < r) (below : r ≤ length parents) where
  length-behind : length (behind parents t i r y) ≡ length t
  length-behind = length-set (set t i y) (4 * length parents + r) (i + 1) ∙ length-set t i y

  behind-other :
      (k : ℕ) → (k ≡ i → ⊥) → (k ≡ 4 * length parents + r → ⊥) → get_or (behind parents t i r y) k 0 ≡ get_or t k 0
  behind-other k p q = two_same t i y (4 * length parents + r) (i + 1) k p q

  behind-next : get_or (behind parents t i r y) i 0 ≡ y
  behind-next =
      get_or-set_other (set t i y) (4 * length parents + r) i (i + 1) 0 (λ q. absurd (omega arith))
      ∙ get_or-set_same t i y 0 (omega arith)

  behind_head : get_or (behind parents t i r y) (4 * length parents + r) 0 ≡ suc i
  behind_head =
      let h : 4 * length parents + r < length (set t i y) = omega (arith, length-set t i y) in
      get_or-set_same (set t i y) (4 * length parents + r) (i + 1) 0 h ∙ add-one i

-- as a new representative of slot s: its head, its link to the slot's first, and the slot
abbrev headed : List ℕ → List ℕ → ℕ → List ℕ
headed parents t i = set (set t i 0) (4 * length parents + i + 1) (i + 1)

abbrev linked_to : List ℕ → List ℕ → ℕ → ℕ → List ℕ
linked_to parents t i s = set (headed parents t i) (3 * length parents + i + 1) (get_or t (2 * length parents + s) 0)

abbrev as_first : List ℕ → List ℕ → ℕ → ℕ → List ℕ
as_first parents t i s = set (linked_to parents t i s) (2 * length parents + s) (i + 1)

module _ (parents t : List ℕ) (i : ℕ) (inside : i < length parents) (room : 8 * (length parents + 1) ≤ length t)
    (s : ℕ) (slot : s < length parents + 1) where
  length-linked : length (linked_to parents t i s) ≡ length t
  length-linked =
      length-set (headed parents t i) (3 * length parents + i + 1) (get_or t (2 * length parents + s) 0)
      ∙ length-set (set t i 0) (4 * length parents + i + 1) (i + 1) ∙ length-set t i 0

  length-first : length (as_first parents t i s) ≡ length t
  length-first = length-set (linked_to parents t i s) (2 * length parents + s) (i + 1) ∙ length-linked

  -- the last two stores, and all four, leave the other words
  first-last :
      (k : ℕ) → (k ≡ 3 * length parents + i + 1 → ⊥) → (k ≡ 2 * length parents + s → ⊥)
      → get_or (as_first parents t i s) k 0 ≡ get_or (headed parents t i) k 0
  first-last k p q =
      two_same (headed parents t i) (3 * length parents + i + 1) (get_or t (2 * length parents + s) 0) (2 * length parents + s)
      (i + 1) k p q

  first-other :
      (k : ℕ) → (k ≡ i → ⊥) → (k ≡ 4 * length parents + i + 1 → ⊥) → (k ≡ 3 * length parents + i + 1 → ⊥)
      → (k ≡ 2 * length parents + s → ⊥) → get_or (as_first parents t i s) k 0 ≡ get_or t k 0
  first-other k a b c d = first-last k c d ∙ two_same t i 0 (4 * length parents + i + 1) (i + 1) k a b

  first_next : get_or (as_first parents t i s) i 0 ≡ 0
  first_next =
      first-last i (λ q. absurd (omega arith)) (λ q. absurd (omega arith))
      ∙ get_or-set_other (set t i 0) (4 * length parents + i + 1) i (i + 1) 0 (λ q. absurd (omega arith))
      ∙ get_or-set_same t i 0 0 (omega arith)

  first_slot : get_or (as_first parents t i s) (2 * length parents + s) 0 ≡ suc i
  first_slot =
      let h : 2 * length parents + s < length (linked_to parents t i s) = omega (arith, length-linked) in
      get_or-set_same (linked_to parents t i s) (2 * length parents + s) (i + 1) 0 h ∙ add-one i

  first-link : get_or (as_first parents t i s) (3 * length parents + i + 1) 0 ≡ get_or t (2 * length parents + s) 0
  first-link =
      let y = get_or t (2 * length parents + s) 0 in
      let n : length (headed parents t i) ≡ length t =
      length-set (set t i 0) (4 * length parents + i + 1) (i + 1) ∙ length-set t i 0 in
      let h : 3 * length parents + i + 1 < length (headed parents t i) = omega (arith, n) in
      get_or-set_other (linked_to parents t i s) (2 * length parents + s) (3 * length parents + i + 1) (i + 1) 0
      (λ q. absurd (omega arith))
      ∙ get_or-set_same (headed parents t i) (3 * length parents + i + 1) y 0 h

  first_head : get_or (as_first parents t i s) (4 * length parents + i + 1) 0 ≡ suc i
  first_head =
      let h : 4 * length parents + i + 1 < length (set t i 0) = omega (arith, length-set t i 0) in
      first-last (4 * length parents + i + 1) (λ q. absurd (omega arith)) (λ q. absurd (omega arith))
      ∙ get_or-set_same (set t i 0) (4 * length parents + i + 1) (i + 1) 0 h ∙ add-one i

-- ---- the index with position i entered

module _ (parents t : List ℕ) (i : ℕ) (inside : i < length parents) (x : IndexTable parents t (suc i)) where
  -- each position's next sibling, if that of i is right and the others stay
  nexts-entered :
      (t'' : List ℕ) → get_or t'' i 0 ≡ first_word (positions_from parents (get_or parents i 0) (suc i))
      → ((m : ℕ) → (m ≡ i → ⊥) → m < length parents → get_or t'' m 0 ≡ get_or t m 0)
      → (m : ℕ) → i ≤ m → m < length parents → get_or t'' m 0 ≡ first_word (positions_from parents (get_or parents m 0) (suc m))
  nexts-entered t'' own others m a b = go (eqb m i) refl
    where
      go : (q : Bool) → eqb m i ≡ q → get_or t'' m 0 ≡ first_word (positions_from parents (get_or parents m 0) (suc m))
      go true w = let d : m ≡ i = eqb-true _ _ w in rw d own
      go false w =
          let d : m ≡ i → ⊥ = eqb-false _ _ w in
          others m d b ∙ x.nexts m (omega arith) b

  -- what the walk along the slot's chain found
  found :
      (s r : ℕ) → s ≡ slot_of parents (get_or parents i 0)
      → Sought parents (link_at parents t) (get_or parents i 0) (first_at parents t s) (suc r)
      → head_at parents t r ≡ first_word (positions_from parents (get_or parents i 0) (suc i))
  found s r es k =
      looked parents (first_at parents t) (link_at parents t) (head_at parents t) (suc i) x.index
      (get_or parents i 0) s (suc r) es k

  enter_behind :
      (s j : ℕ) → s ≡ slot_of parents (get_or parents i 0)
      → Sought parents (link_at parents t) (get_or parents i 0) (first_at parents t s) (suc j)
      → IndexTable parents (behind parents t i (suc j) (head_at parents t j)) i
  enter_behind s j es k =
      let Some : 0 < suc j = omega arith in
      let y = head_at parents t j in
      let t'' = behind parents t i (suc j) (head_at parents t j) in
      let other = behind-other parents t i inside x.room (suc j) (head_at parents t j) Some k.below in
      let entered =
      index-found parents (first_at parents t) (link_at parents t) (head_at parents t) (head_at parents t'') i inside x.index
      (get_or parents i 0) s j refl es k (behind_head parents t i inside x.room (suc j) y Some k.below)
      (λ m b ne. other (4 * length parents + suc m) (λ q. absurd (omega arith)) (λ q. ne (omega arith))) in
      record {
        room = rw (length-behind parents t i inside x.room (suc j) (head_at parents t j) Some k.below) x.room;
        index =
            index_agree parents (first_at parents t) (link_at parents t) (head_at parents t'') i entered
            (first_at parents t'') (link_at parents t'') (head_at parents t'')
            (λ m b. other (2 * length parents + m) (λ q. absurd (omega arith)) (λ q. absurd (omega arith)))
            (λ m b. other (3 * length parents + suc m) (λ q. absurd (omega arith)) (λ q. absurd (omega (arith, k.below))))
            (λ m b. refl);
        nexts =
            nexts-entered t'' (behind-next parents t i inside x.room (suc j) y Some k.below ∙ found s j es k)
            (λ m ne b. other m ne (λ q. absurd (omega arith)));
      }

  pub enter-found :
      (s r : ℕ) → s ≡ slot_of parents (get_or parents i 0)
      → Sought parents (link_at parents t) (get_or parents i 0) (get_or t (2 * length parents + s) 0) r → 0 < r
      → IndexTable parents (behind parents t i r (get_or t (4 * length parents + r) 0)) i
  enter-found s r es k h =
      let e : r ≡ suc (r - 1) = omega arith in
      rw e (enter_behind s (r - 1) es (rw e at k))

  pub enter-new :
      (s r : ℕ) → s ≡ slot_of parents (get_or parents i 0)
      → Sought parents (link_at parents t) (get_or parents i 0) (get_or t (2 * length parents + s) 0) r → r ≤ 0
      → IndexTable parents (as_first parents t i s) i
  enter-new s r es k h =
      let slot : s < length parents + 1 = rw es (slot_below parents (get_or parents i 0)) in
      let t'' = as_first parents t i s in
      let other = first-other parents t i inside x.room s slot in
      let e_a : 4 * length parents + suc i ≡ 4 * length parents + i + 1 = omega arith in
      let eB : 3 * length parents + suc i ≡ 3 * length parents + i + 1 = omega arith in
      let er : r ≡ 0 = omega arith in
      let None : 0 ≡ first_word (positions_from parents (get_or parents i 0) (suc i)) =
      looked parents (first_at parents t) (link_at parents t) (head_at parents t) (suc i) x.index
      (get_or parents i 0) s 0 es (rw er at k) in
      record {
        room = rw (length-first parents t i inside x.room s slot) x.room;
        index =
            index-new parents (first_at parents t) (link_at parents t) (head_at parents t)
            (first_at parents t'') (link_at parents t'') (head_at parents t'') i inside x.index (get_or parents i 0) s refl es
            (first_slot parents t i inside x.room s slot)
            (λ m b ne. other (2 * length parents + m) (λ q. absurd (omega arith)) (λ q. absurd (omega arith))
            (λ q. absurd (omega arith)) (λ q. ne (omega arith)))
            (rw eB (first-link parents t i inside x.room s slot))
            (λ m b ne. other (3 * length parents + suc m) (λ q. absurd (omega arith)) (λ q. absurd (omega arith))
            (λ q. ne (omega arith)) (λ q. absurd (omega arith)))
            (rw e_a (first_head parents t i inside x.room s slot))
            (λ m b ne. other (4 * length parents + suc m) (λ q. absurd (omega arith)) (λ q. ne (omega arith))
            (λ q. absurd (omega arith)) (λ q. absurd (omega arith)));
        nexts =
            nexts-entered t'' (first_next parents t i inside x.room s slot ∙ None)
            (λ m ne b. other m ne (λ q. absurd (omega arith)) (λ q. absurd (omega arith)) (λ q. absurd (omega arith)));
      }
