-- Laws of the pile of words: a push, and the pending list at first. Assumes nothing.
use Prim.Native.Nat.{ℕ, zero, suc, ◌+◌, ◌-◌, ◌*◌, ◌≤◌, ◌<◌}
use native.Mathlib.Omega.{arith}
use native.Mathlib.Nat.{le_refl}
use native.Mathlib.Numerals.{add-one}
use mathlib.Core.Path.{◌≡◌, refl, ap, ◌∙◌}
use mathlib.Core.Bool.{Bool, true, false, cond}
use mathlib.Core.List.{List, ◌++◌, flat_map}
use lib.ListN.{length, get_or, drop, set, length-set, length-drop, drop_of_length-le}
use lib.Seq.{drop-cons, get_or-set_same, get_or-set_other, drop-set-add}
use lib.Dec.{eqb}
use borrow.Author.Tests.{eqb-true, eqb-false}
use Rattle.format.specs.Bone.{negative}
use Rattle.format.specs.Chains.{keep_if}
use Rattle.format.specs.Children.{roots, kids, first_pending}
use Rattle.derive_children.specs.Index.{first_word}
use Rattle.derive_children.specs.Indexing.{Rooted}
use Rattle.derive_children.specs.Pile.{rest, piled, Stacked, Pushed, PushedAt, root_word, pile_of, pending_of, Ready, PileTable}
use Rattle.derive_children.proofs.Positions.{first_rest, first_bound}

-- ---- stores

piled-set : (parents s : List ℕ) (top w t : ℕ) → t ≤ top → piled parents (set s top w) t ≡ piled parents s t
unfolding piled
piled-set parents s top w zero h = refl
piled-set parents s top w (suc t) h =
    rw (get_or-set_other s top t w 0 (λ q. absurd (omega arith)), piled-set parents s top w t (omega arith))

pub push-none : (s : List ℕ) (top w : ℕ) → w ≡ 0 → Pushed s top w top s
unfolding rest
push-none s top w e = record { most = omega arith; stacked = λ p k h. k; is = λ p. rw e }

pub push_one : (s : List ℕ) (top w : ℕ) → (w ≡ 0 → ⊥) → top < length s → Pushed s top w (top + 1) (set s top w)
unfolding piled
push_one s top w ne h =
    record {
      most = le_refl (top + 1);
      stacked = λ p k l. record { room = rw length-set (omega arith); solid = λ t m. go p k l t m (eqb t top) refl };
      is = λ p. rw (add-one top) (rw (get_or-set_same s top w 0 h, piled-set p s top w top (le_refl top)));
    }
  where
    go : (p : List ℕ) → Stacked p s top → w ≤ length p → (t : ℕ) → t < top + 1 → (q : Bool) → eqb t top ≡ q → (0 < get_or (set s top
        w) t 0) × (get_or (set s top w) t 0 ≤ length p)
    go p k l t m true e =
        let d : t ≡ top = eqb-true _ _ e in
        let f : get_or (set s top w) t 0 ≡ w = rw d (get_or-set_same s top w 0 h) in
        let g : 0 < w = omega arith in
        rw f (g, l)
    go p k l t m false e =
        let d : t ≡ top → ⊥ = eqb-false _ _ e in
        let f : get_or (set s top w) t 0 ≡ get_or s t 0 = get_or-set_other s top t w 0 d in
        let g : t < top = omega arith in
        rw f (k.solid t g)

-- a push at a base of the one table

drop_long : (t : List ℕ) (base top : ℕ) → base + top < length t → top < length (drop base t)
drop_long t base top h = omega (arith, length-drop base t)

pub push-none-at : (t : List ℕ) (base top w : ℕ) → w ≡ 0 → PushedAt t base top w top t
push-none-at t base top w e = record { pushed = push-none (drop base t) top w e; below = λ j l. refl }

pub push_one_at : (t : List ℕ) (base top w : ℕ) → (w ≡ 0 → ⊥) → base + top < length t → PushedAt t base top w (top + 1) (set t
    (base + top) w)
push_one_at t base top w ne h =
    let p : Pushed (drop base t) top w (top + 1) (set (drop base t) top w) = push_one (drop base t) top w ne (drop_long t base top
    h) in
    record {
      pushed = rw (drop-set-add base t top w) p;
      below = λ j l. get_or-set_other t (base + top) j w 0 (λ q. absurd (omega
          arith));
    }

-- what taking needs lies below the pile
pub ready-below :
    (indices parents t t'' : List ℕ) → Ready indices parents t → length t'' ≡ length t → ((j : ℕ) → j < 2 * length parents → get_or t''
    j 0 ≡ get_or t j 0)
    → Ready indices parents t''
ready-below indices parents t t'' r l h =
    record {
      room = rw l r.room;
      firsts = λ b c. h (length parents + b) (omega arith) ∙ r.firsts b c;
      nexts = λ j c. h j (omega arith) ∙ r.nexts j c;
    }

-- ---- the pending list at first

pub record Rooting (indices parents t₀ t : List ℕ) (top r : ℕ) : Type 0 where
  pub bound : r ≤ length parents
  pub most : top + r ≤ length parents
  pub same : length t ≡ length t₀
  pub pile : PileTable indices parents t top
  pub is : pending_of parents t top ≡ flat_map (kids indices parents) (roots r (drop r parents))

pub stacked-none : (parents stack : List ℕ) → Stacked parents stack 0
stacked-none parents stack = record { room = omega arith; solid = λ t h. absurd (omega arith) }

pub rooting_starts : (indices parents t : List ℕ) → Ready indices parents t → Rooting indices parents t t 0 (length parents)
unfolding piled roots flat_map
rooting_starts indices parents t rd =
    record {
      bound = le_refl (length parents);
      most = omega arith;
      same = refl;
      pile = record { ready = rd; stacked = stacked-none parents (pile_of parents t) };
      is = rw (drop_of_length-le parents {i = length parents} (le_refl (length parents)));
    }

root_step : (parents : List ℕ) (f : ℕ → List ℕ) (q : Bool) (i k : ℕ) (l : List ℕ) → rest parents k ≡ f i → rest parents (cond q k
    0) ++ flat_map f l ≡ flat_map f (keep_if q i l)
unfolding flat_map rest
root_step parents f true i k l e = rw e
root_step parents f false i k l e = refl

pub kid-rest : (indices parents : List ℕ) (b y : ℕ) → y ≡ first_word (kids indices parents b) → rest parents y ≡ kids indices parents
    b
unfolding kids
kid-rest indices parents b y e = rw e (first_rest parents (get_or indices b 0) 0)

pub kid_bound : (indices parents : List ℕ) (b y : ℕ) → y ≡ first_word (kids indices parents b) → y ≤ length parents
unfolding kids
kid_bound indices parents b y e = rw e (first_bound parents (get_or indices b 0) 0 (omega arith))

pick_bound : (q : Bool) (k n : ℕ) → k ≤ n → cond q k 0 ≤ n
pick_bound true k n h = h
pick_bound false k n h = omega arith

roots_cons : (parents : List ℕ) (i : ℕ) → i < length parents → roots i (drop i parents) ≡ keep_if (negative (get_or parents i 0)) i
    (roots (suc i) (drop (suc i) parents))
unfolding roots
roots_cons parents i h = rw (drop-cons parents i 0 h)

module _ (indices parents t₀ t : List ℕ) (top r : ℕ) (s : Rooting indices parents t₀ t top r) where
  rooting_at :
      (i w top' : ℕ) (t'' : List ℕ) → r ≡ suc i → w ≡ root_word (get_or parents i 0) (get_or t (length parents + i) 0) → length t'' ≡
      length t
      → PushedAt t (2 * length parents) top w top' t'' → Rooting indices parents t₀ t'' top' i
  rooting_at i w top' t'' e f g p =
      let l : i < length parents = omega (arith, s.bound) in
      let y = get_or t (length parents + i) 0 in
      let h : get_or t (length parents + i) 0 ≡ first_word (kids indices parents i) = s.pile.ready.firsts i l in
      let n : w ≤ length parents = rw f (pick_bound (negative (get_or parents i 0)) (get_or t (length parents + i) 0) (length parents)
      (kid_bound indices parents i (get_or t (length parents + i) 0) h)) in
      let was : pending_of parents t top ≡ flat_map (kids indices parents) (roots (suc i) (drop (suc i) parents)) = rw e at s.is
      in
      record {
        bound = omega arith;
        most = omega (arith, s.most, p.pushed.most);
        same = g ∙ s.same;
        pile =
            record { ready = ready-below indices parents t t'' s.pile.ready g p.below; stacked = p.pushed.stacked parents s.pile.stacked n };
        is =
            p.pushed.is parents ∙ ap (λ (x : List ℕ). rest parents w ++ x) was
            ∙ rw (f, roots_cons parents i l)
            (root_step parents (kids indices parents) (negative (get_or parents i 0)) i (get_or t (length parents + i) 0)
            (roots (suc i) (drop (suc i) parents))
            (kid-rest indices parents i (get_or t (length parents + i) 0) h));
      }

  pub rooting_turns :
      (w top' : ℕ) (t'' : List ℕ) → 0 < r → w ≡ root_word (get_or parents (r - 1) 0) (get_or t (length parents + (r - 1)) 0) → length t''
      ≡ length t
      → PushedAt t (2 * length parents) top w top' t'' → Rooting indices parents t₀ t'' top' (r - 1)
  rooting_turns w top' t'' h f g p = rooting_at (r - 1) w top' t'' (omega arith) f g p

  pub rooting_ends : r ≤ 0 → Rooted indices parents top t
  unfolding first_pending
  rooting_ends h =
      let e : r ≡ 0 = omega arith in
      record { pile = s.pile; most = omega (arith, s.most); pending = rw e at s.is }
