-- Laws of the bones taken from the pile: one, and the four of a layer. Assumes nothing.
use Prim.Native.Nat.{ℕ, suc, ◌+◌, ◌-◌, ◌*◌, ◌≤◌, ◌<◌}
use native.Mathlib.Omega.{arith}
use native.Mathlib.Numerals.{add-one, add-two, add-four, add_six}
use mathlib.Core.Path.{◌≡◌, refl, sym, ap, ◌∙◌}
use mathlib.Core.List.{List, [], ◌∷◌, ◌++◌, flat_map, append-nil}
use lib.ListN.{length, get_or, take, drop, set, length-drop}
use lib.Seq.{sets, get_or-drop}
use Rattle.format.specs.Children.{padded, kids, pair_at}
use Rattle.derive_children.specs.Index.{first_word, positions_from}
use Rattle.derive_children.specs.Pile.{rest, piled, Stacked, PushedAt, pile_of, pending_of, front_word, front_bone, Ready, PileTable}
use Rattle.derive_children.specs.Pile.{head_or, tail_of, head_kids, Took, TookFour}
use Rattle.derive_children.specs.declared.pile.One.{One}
use Rattle.derive_children.proofs.Positions.{first_rest, first_bound}
use Rattle.derive_children.proofs.Pushing.{ready-below, stacked-none, kid-rest, kid_bound}

-- ---- taking one

stacked_less : (parents stack : List ℕ) (top t : ℕ) → t ≤ top → Stacked parents stack top → Stacked parents stack t
stacked_less parents stack top t h s = record { room = omega (arith, s.room); solid = λ j l. s.solid j (omega arith) }

-- the first of the pile, and what is behind it
piled-front :
    (parents stack : List ℕ) (top t b : ℕ) → top ≡ suc t → get_or stack t 0 ≡ suc b
    → piled parents stack top ≡ b ∷ (positions_from parents (get_or parents b 0) (suc b) ++ piled parents stack t)
unfolding piled rest
piled-front parents stack top t b e f = rw (e, f)

pub pair-written :
    (indices parents out : List ℕ) (at b : ℕ) → set (set out at (get_or indices b 0)) (at + 1) (get_or parents b 0) ≡ sets out at
    (pair_at indices parents b)
unfolding pair_at
pair-written indices parents out at b = rw (add-one at)

-- the word in front of the pile, where the code reads it
pub front_word_lem : (parents t : List ℕ) (top : ℕ) → (top ≡ 0 → ⊥) → get_or (pile_of parents t) (top - 1) 0 ≡ front_word parents t top
front_word_lem parents t top ne =
    let e : 2 * length parents + (top - 1) ≡ 2 * length parents + top - 1 = omega arith in
    get_or-drop (2 * length parents) t (top - 1) 0 ∙ ap (λ (k : ℕ). get_or t k 0) e

pub front-inside :
    (parents t : List ℕ) (top : ℕ) → Stacked parents (pile_of parents t) top → (top ≡ 0 → ⊥)
    → (front_bone parents t top < length parents) × (0 < front_word parents t top)
front-inside parents t top s ne =
    let low : top - 1 < top = omega arith in
    let p = s.solid (top - 1) low in
    let e = front_word_lem parents t top ne in
    (omega (arith, p.0, p.1, e), omega (arith, p.0, e))

pub pile_room : (parents t : List ℕ) (top : ℕ) → Stacked parents (pile_of parents t) top → (top ≡ 0 → ⊥) → 2 * length parents + top
    ≤ length t
pile_room parents t top s ne = omega (arith, s.room, length-drop (2 * length parents) t)

-- what the code needs of the front of a pile that is not empty
pub record Front (parents t : List ℕ) (top : ℕ) : Type 0 where
  pub some : 0 < top
  pub inside : front_bone parents t top < length parents
  pub solid : 0 < front_word parents t top
  pub pile : 2 * length parents + top ≤ length t
  pub room : 8 * (length parents + 1) ≤ length t

pub front_known :
    {indices parents t : List ℕ} {top : ℕ} → PileTable indices parents t top → (top ≡ 0 → ⊥) → Front parents t top
front_known {parents = parents} {t = t} {top = top} p ne =
    let h = front-inside parents t top p.stacked ne in
    record { some = omega arith; inside = h.0; solid = h.1; pile = pile_room parents t top p.stacked ne; room = p.ready.room }

module _ (indices parents t : List ℕ) (top last : ℕ) (out : List ℕ) (at : ℕ) (pile : PileTable indices
    parents t top) where
  pub took_none :
      (out' : List ℕ) → last < length parents → top ≡ 0 → out' ≡ sets out at (pair_at indices parents last)
      → Took indices parents t top last out at (record { bone = last; kid = 0; top = 0 }) t out'
  unfolding piled tail_of head_or head_kids rest
  took_none out' l e w =
      record {
        pile = record { ready = pile.ready; stacked = stacked-none parents (pile_of parents t) };
        most = omega arith;
        left = rw e;
        inside = l;
        bone = rw e;
        word = omega arith;
        kid = rw e;
        written = rw e w;
      }

  module _ (some : top ≡ 0 → ⊥) (t'' out' : List ℕ) (same : length t'' ≡ length t) where
    took_at :
        (b left' : ℕ) → b < length parents → get_or (pile_of parents t) (top - 1) 0 ≡ suc b → PushedAt t (2 * length parents) (top -
        1) (get_or t b 0) left' t''
        → out' ≡ sets out at (pair_at indices parents b)
        → Took indices parents t top last out at (record { bone = b; kid = get_or t'' (length parents + b) 0; top = left' }) t'' out'
    unfolding tail_of head_or head_kids
    took_at b left' l e p w =
        let et : top ≡ suc (top - 1) = omega arith in
        let f : pending_of parents t top ≡ b ∷ (positions_from parents (get_or parents b 0) (suc b) ++ pending_of parents t (top - 1)) =
        piled-front parents (pile_of parents t) top (top - 1) b et e in
        let nx : get_or t b 0 ≡ first_word (positions_from parents (get_or parents b 0) (suc b)) = pile.ready.nexts b l in
        let rx : rest parents (get_or t b 0) ≡ positions_from parents (get_or parents b 0) (suc b) = rw nx (first_rest parents (get_or parents b
        0) (suc b)) in
        let nb : get_or t b 0 ≤ length parents = rw nx (first_bound parents (get_or parents b 0) (suc b) l) in
        let rd' : Ready indices parents t'' = ready-below indices parents t t'' pile.ready same p.below in
        record {
          pile =
              record {
                ready = rd';
                stacked = p.pushed.stacked parents (stacked_less parents (pile_of parents t) top (top - 1) (omega arith) pile.stacked) nb;
              };
          most = omega (arith, p.pushed.most);
          left = p.pushed.is parents ∙ rw (rx, f);
          inside = l;
          bone = rw f;
          word = kid_bound indices parents b (get_or t'' (length parents + b) 0) (rd'.firsts b l);
          kid = rw f (kid-rest indices parents b (get_or t'' (length parents + b) 0) (rd'.firsts b l));
          written = rw f w;
        }

    pub took_one :
        (left' : ℕ) → PushedAt t (2 * length parents) (top - 1) (get_or t (front_bone parents t top) 0) left' t''
        → out' ≡ sets out at (pair_at indices parents (front_bone parents t top))
        → Took indices parents t top last out at
        (record { bone = front_bone parents t top; kid = get_or t'' (length parents + (front_bone parents t top)) 0; top = left' }) t''
        out'
    took_one left' p w =
        let h = front-inside parents t top pile.stacked some in
        let e : get_or (pile_of parents t) (top - 1) 0 ≡ suc (front_bone parents t top) = front_word_lem parents t top some ∙ omega
        (arith, h.1) in
        took_at (front_bone parents t top) left' h.0 e p w

-- ---- taking four

four_kids : (f : ℕ → List ℕ) (q : List ℕ) → head_kids f q ++ (head_kids f (tail_of q) ++ (head_kids f (tail_of (tail_of q)) ++ head_kids
    f (tail_of (tail_of (tail_of q))))) ≡ flat_map f (take 4 q)
unfolding flat_map head_kids tail_of
four_kids f [] = refl
four_kids f (x ∷ []) = refl
four_kids f (x ∷ y ∷ []) = refl
four_kids f (x ∷ y ∷ z ∷ []) = refl
four_kids f (x ∷ y ∷ z ∷ u ∷ l) = ap (λ (k : List ℕ). f x ++ (f y ++ (f z ++ k))) (sym (append-nil (f u)))

four_left : (q : List ℕ) → tail_of (tail_of (tail_of (tail_of q))) ≡ drop 4 q
unfolding tail_of
four_left [] = refl
four_left (x ∷ []) = refl
four_left (x ∷ y ∷ []) = refl
four_left (x ∷ y ∷ z ∷ []) = refl
four_left (x ∷ y ∷ z ∷ u ∷ l) = refl

-- the bones of a layer, the last of them again where the list ends
unfoldable bone2 : ℕ → List ℕ → ℕ
bone2 d q = head_or (head_or d q) (tail_of q)

unfoldable bone3 : ℕ → List ℕ → ℕ
bone3 d q = head_or (bone2 d q) (tail_of (tail_of q))

unfoldable bone4 : ℕ → List ℕ → ℕ
bone4 d q = head_or (bone3 d q) (tail_of (tail_of (tail_of q)))

pairs : (ℕ → List ℕ) → ℕ → List ℕ → List ℕ
pairs pair d q = pair (head_or d q) ++ (pair (bone2 d q) ++ (pair (bone3 d q) ++ (pair (bone4 d q) ++ [])))

four_pairs : (pair : ℕ → List ℕ) (d : ℕ) (q : List ℕ) → (q ≡ [] → ⊥) → pairs pair d q ≡ padded pair 4 q
unfolding pairs bone2 bone3 bone4 head_or tail_of padded flat_map
four_pairs pair d [] ne = absurd (ne refl)
four_pairs pair d (x ∷ []) ne = refl
four_pairs pair d (x ∷ y ∷ []) ne = refl
four_pairs pair d (x ∷ y ∷ z ∷ []) ne = refl
four_pairs pair d (x ∷ y ∷ z ∷ u ∷ []) ne = refl
four_pairs pair d (x ∷ y ∷ z ∷ u ∷ v ∷ l) ne = refl

module _ (indices parents : List ℕ) where
  sets_four :
      (out : List ℕ) (at a b c d : ℕ)
      → sets (sets (sets (sets out at (pair_at indices parents a)) (at + 2) (pair_at indices parents b)) (at + 4) (pair_at indices
      parents c)) (at + 6) (pair_at indices parents d)
      ≡ sets out at (pair_at indices parents a ++ (pair_at indices parents b ++ (pair_at indices parents c ++ (pair_at indices parents
      d ++ []))))
  unfolding pair_at
  sets_four out at a b c d = rw (add-two at, add-four at, add_six at)

  pub length-padded : (q : List ℕ) → (q ≡ [] → ⊥) → length (padded (pair_at indices parents) 4 q) ≡ 8
  unfolding pairs pair_at
  length-padded q ne = ap length (sym (four_pairs (pair_at indices parents) 0 q ne))

  pub piled-some : (stack : List ℕ) (top : ℕ) → Stacked parents stack top → 0 < top → piled parents stack top ≡ [] → ⊥
  piled-some stack top s h e =
      let low : top - 1 < top = omega arith in
      let p = s.solid (top - 1) low in
      let et : top ≡ suc (top - 1) = omega arith in
      let ew : get_or stack (top - 1) 0 ≡ suc (get_or stack (top - 1) 0 - 1) = omega (arith, p.0) in
      let f = piled-front parents stack top (top - 1) (get_or stack (top - 1) 0 - 1) et ew in
      let z : ◌≡◌ {A = ℕ} 0 1 = cc in
      omega arith

  module _ (t : List ℕ) (top : ℕ) (out : List ℕ) (at : ℕ) (pile : PileTable indices parents t top) (h : 0 < top)
      (A B C D : One) (s1 s2 s3 s4 o1 o2 o3 o4 : List ℕ)
      (ta : Took indices parents t top 0 out at A s1 o1)
      (tb : Took indices parents s1 A.top A.bone o1 (at + 2) B s2 o2)
      (tc : Took indices parents s2 B.top B.bone o2 (at + 4) C s3 o3)
      (td : Took indices parents s3 C.top C.bone o3 (at + 6) D s4 o4) where
    q1 : pending_of parents s1 A.top ≡ tail_of (pending_of parents t top)
    q1 = ta.left

    q2 : pending_of parents s2 B.top ≡ tail_of (tail_of (pending_of parents t top))
    q2 = tb.left ∙ ap tail_of q1

    q3 : pending_of parents s3 C.top ≡ tail_of (tail_of (tail_of (pending_of parents t top)))
    q3 = tc.left ∙ ap tail_of q2

    b2 : head_or A.bone (pending_of parents s1 A.top) ≡ bone2 0 (pending_of parents t top)
    unfolding bone2
    b2 = rw (q1, ta.bone)

    b3 : head_or B.bone (pending_of parents s2 B.top) ≡ bone3 0 (pending_of parents t top)
    unfolding bone3
    b3 = rw (q2, tb.bone, b2)

    b4 : head_or C.bone (pending_of parents s3 C.top) ≡ bone4 0 (pending_of parents t top)
    unfolding bone4
    b4 = rw (q3, tc.bone, b3)

    wrote : o4 ≡ sets out at (padded (pair_at indices parents) 4 (pending_of parents t top))
    unfolding pairs
    wrote =
        td.written ∙ rw (b4, tc.written, b3, tb.written, b2, ta.written)
        (sets_four out at (head_or 0 (pending_of parents t top)) (bone2 0 (pending_of parents t top)) (bone3 0 (pending_of parents t
        top)) (bone4 0 (pending_of parents t top))
        ∙ ap (sets out at) (four_pairs (pair_at indices parents) 0 (pending_of parents t top) (piled-some (pile_of parents t) top pile.stacked
        h)))

    fronts : rest parents A.kid ++ (rest parents B.kid ++ (rest parents C.kid ++ rest parents D.kid))
        ≡ flat_map (kids indices parents) (take 4 (pending_of parents t top))
    fronts = rw (ta.kid, tb.kid, q1, tc.kid, q2, td.kid, q3) (four_kids (kids indices parents) (pending_of parents t top))

    pub took_four : TookFour indices parents t top out at (record {
      a = A.kid;
      b = B.kid;
      c = C.kid;
      d = D.kid;
      top = D.top;
    }) s4 o4
    took_four =
        record {
          pile = td.pile;
          most = omega (arith, ta.most, tb.most, tc.most, td.most);
          left = td.left ∙ ap tail_of q3 ∙ four_left (pending_of parents t top);
          words = (ta.word, tb.word, tc.word, td.word);
          fronts = fronts;
          written = wrote;
        }
