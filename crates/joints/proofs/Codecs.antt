-- The laws of the two codecs of a limit (docs/FORMAT.md, "Joints and names"). In order: the others put among the named fields and taken out;
-- a record read and written is as it was; a limit written and read is the limit; a limit put into a row and taken out is the limit. Assumes
-- nothing.
use mathlib.Core.Path.{◌≡◌, refl, sym, ap, ◌∙◌}
use mathlib.Core.List.{List, [], ◌∷◌, ◌++◌, append_assoc}
use Prim.Native.Nat.{ℕ, ◌+◌, ◌*◌, ◌/◌, ◌%◌, ◌^◌, ◌≤◌, ◌<◌}
use native.Mathlib.Omega.{arith}
use lib.ListN.{length, get_or, take, drop, length-append, take-append-drop}
use lib.Seq.{drop-cons, drop-drop, take_at, drop_at, get_or-append_seam}
use Rattle.format.specs.Bone.{Words3}
use Rattle.format.specs.Rows.{lower, upper}
use Rattle.format.specs.Joints.{RotationLimit, rotation_slots, rotation_limit, rotation_words, rotation_row, three_words, three_at}
use Rattle.format.specs.Joints.{TranslationLimit, translation_slots, translation_limit, translation_words, translation_row}
use Rattle.format.specs.Joints.{placed, others}
use Rattle.joints.specs.OneWidth.{GoodRotation, GoodTranslation}
use Rattle.joints.proofs.BothKinds.{three_at_lem, length_part}

-- ---- the others among the named fields

-- three words are told by their list
three_inj : {a b : Words3} → three_words a ≡ three_words b → a ≡ b
three_inj {a} {b} e =
    let x : a.x ≡ b.x = cc e in
    let y : a.y ≡ b.y = cc e in
    let z : a.z ≡ b.z = cc e in
    λ i. record { x = x i; y = y i; z = z i }

-- i others behind the word of the id, j behind least, and what stands behind greatest
module _ (i j v : ℕ) (a b : Words3) (p q r s : List ℕ) (np : length p ≡ 2) (nq : length q ≡ i) (nr : length r ≡ j) where
  abbrev all : List ℕ
  all = p ++ (v ∷ q) ++ three_words a ++ r ++ three_words b ++ s

  abbrev four : List ℕ
  four = p ++ q ++ r ++ s

  -- from the right
  grouped : (x c l y g z : List ℕ) → x ++ c ++ l ++ y ++ g ++ z ≡ x ++ (c ++ (l ++ (y ++ (g ++ z))))
  grouped x c l y g z = simp append_assoc

  behind : List ℕ
  behind = three_words a ++ (r ++ (three_words b ++ s))

  drop2 : drop 2 all ≡ v ∷ (q ++ behind)
  unfolding behind
  drop2 =
      ap (drop 2) (grouped p (v ∷ q) (three_words a) r (three_words b) s)
      ∙ drop_at p ((v ∷ q) ++ (three_words a ++ (r ++ (three_words b ++ s)))) 2 np

  drop3 : drop 3 all ≡ q ++ behind
  drop3 = sym (drop-drop 1 2 all) ∙ ap (drop 1) drop2

  drop-least : drop (3 + i) all ≡ behind
  drop-least = sym (drop-drop i 3 all) ∙ ap (drop i) drop3 ∙ drop_at q behind i nq

  drop6 : drop (6 + i) all ≡ r ++ (three_words b ++ s)
  unfolding behind
  drop6 = let e : 3 + i + 3 ≡ 6 + i = omega arith in rw e at (sym (drop-drop 3 (3 + i) all) ∙ ap (drop 3) drop-least)

  drop-greatest : drop (6 + i + j) all ≡ three_words b ++ s
  drop-greatest = sym (drop-drop j (6 + i) all) ∙ ap (drop j) drop6 ∙ drop_at r (three_words b ++ s) j nr

  drop9 : drop (9 + i + j) all ≡ s
  drop9 = let e : 6 + i + j + 3 ≡ 9 + i + j = omega arith in rw e at (sym (drop-drop 3 (6 + i + j) all) ∙ ap (drop 3) drop-greatest)

  length-all : length all ≡ 9 + i + j + length s
  length-all = simp (length-append, np, nq, nr) (omega arith)

  others_of : others i j all ≡ four
  unfolding behind
  others_of =
      let t : take 2 all ≡ p =
      ap (take 2) (grouped p (v ∷ q) (three_words a) r (three_words b) s)
      ∙ take_at p ((v ∷ q) ++ (three_words a ++ (r ++ (three_words b ++ s)))) 2 np in
      rw (t, drop3, drop6, drop9, take_at q behind i nq, take_at r (three_words b ++ s) j nr) refl

  id_of : get_or all 2 0 ≡ v
  id_of =
      ap (λ (w : List ℕ). get_or w 2 0) (grouped p (v ∷ q) (three_words a) r (three_words b) s)
      ∙ rw np at (get_or-append_seam p v (q ++ (three_words a ++ (r ++ (three_words b ++ s)))) 0)

  least_of : three_at all (3 + i) ≡ a
  unfolding behind
  least_of = three_inj (sym (three_at_lem all (3 + i) (omega (arith, length-all))) ∙ ap (take 3) drop-least)

  greatest_of : three_at all (6 + i + j) ≡ b
  greatest_of = three_inj (sym (three_at_lem all (6 + i + j) (omega (arith, length-all))) ∙ ap (take 3) drop-greatest)

  placed_of : placed i j v a b four ≡ all
  placed_of =
      let g : (x y z w : List ℕ) → x ++ y ++ z ++ w ≡ x ++ (y ++ (z ++ w)) = λ x y z w. simp append_assoc in
      let d₂ : drop 2 four ≡ q ++ (r ++ s) = ap (drop 2) (g p q r s) ∙ drop_at p (q ++ (r ++ s)) 2 np in
      let t : take 2 four ≡ p = ap (take 2) (g p q r s) ∙ take_at p (q ++ (r ++ s)) 2 np in
      let d₃ : drop (2 + i) four ≡ r ++ s = sym (drop-drop i 2 four) ∙ ap (drop i) d₂ ∙ drop_at q (r ++ s) i nq in
      let d₄ : drop (2 + i + j) four ≡ s = sym (drop-drop j (2 + i) four) ∙ ap (drop j) d₃ ∙ drop_at r s j nr in
      rw (t, d₂, d₃, d₄, take_at q (r ++ s) i nq, take_at r s j nr) refl

-- the parts of a list together
split : (n m : ℕ) (w : List ℕ) → take m (drop n w) ++ drop (n + m) w ≡ drop n w
split n m w = rw (← drop-drop m n w) (take-append-drop m (drop n w))

four_parts : (i j : ℕ) (o : List ℕ) → take 2 o ++ take i (drop 2 o) ++ take j (drop (2 + i) o) ++ drop (2 + i + j) o ≡ o
four_parts i j o =
    simp append_assoc
    (rw (split (2 + i) j o, split 2 i o) (take-append-drop 2 o))

all_parts :
    (i j k : ℕ) (w : List ℕ) →
    length w ≡ 9 + i + j + k →
    take 2 w ++ (get_or w 2 0 ∷ take i (drop 3 w)) ++ three_words (three_at w (3 + i)) ++ take j (drop (6 + i) w) ++
    three_words (three_at w (6 + i + j)) ++ drop (9 + i + j) w ≡ w
all_parts i j k w e =
    let g : (x c l y g z : List ℕ) → x ++ c ++ l ++ y ++ g ++ z ≡ x ++ (c ++ (l ++ (y ++ (g ++ z)))) =
    λ x c l y g z. simp append_assoc in
    let a = three_at_lem w (3 + i) (omega arith) in
    let b = three_at_lem w (6 + i + j) (omega arith) in
    let c₁ : 6 + i + j + 3 ≡ 9 + i + j = omega arith in
    let c₂ : 3 + i + 3 ≡ 6 + i = omega arith in
    let s₁ : take 3 (drop (6 + i + j) w) ++ drop (9 + i + j) w ≡ drop (6 + i + j) w = rw c₁ at (split (6 + i + j) 3 w) in
    let s₂ : take 3 (drop (3 + i) w) ++ drop (6 + i) w ≡ drop (3 + i) w = rw c₂ at (split (3 + i) 3 w) in
    let least : List ℕ = three_words (three_at w (3 + i)) in
    let greatest : List ℕ = three_words (three_at w (6 + i + j)) in
    let e₁ : greatest ++ drop (9 + i + j) w ≡ drop (6 + i + j) w = ap (λ (x : List ℕ). x ++ drop (9 + i + j) w) (sym b) ∙ s₁ in
    let e₂ : take j (drop (6 + i) w) ++ (greatest ++ drop (9 + i + j) w) ≡ drop (6 + i) w =
    ap (λ (x : List ℕ). take j (drop (6 + i) w) ++ x) e₁ ∙ split (6 + i) j w in
    let e₃ : least ++ (take j (drop (6 + i) w) ++ (greatest ++ drop (9 + i + j) w)) ≡ drop (3 + i) w =
    ap (λ (x : List ℕ). least ++ x) e₂ ∙ ap (λ (x : List ℕ). x ++ drop (6 + i) w) (sym a) ∙ s₂ in
    let e₄ = ap (λ (x : List ℕ). take i (drop 3 w) ++ x) e₃ ∙ split 3 i w in
    g (take 2 w) (get_or w 2 0 ∷ take i (drop 3 w)) least (take j (drop (6 + i) w)) greatest (drop (9 + i + j) w)
    ∙ ap (λ (x : List ℕ). take 2 w ++ (get_or w 2 0 ∷ x)) e₄
    ∙ ap (λ (x : List ℕ). take 2 w ++ x) (sym (drop-cons w 2 0 (omega arith)))
    ∙ take-append-drop 2 w

-- ---- records

-- the slots of a record, put together again
placed-others :
    (i j k : ℕ) (w : List ℕ) →
    length w ≡ 9 + i + j + k →
    placed i j (get_or w 2 0) (three_at w (3 + i)) (three_at w (6 + i + j)) (others i j w) ≡ w
placed-others i j k w e =
    placed_of i j (get_or w 2 0) (three_at w (3 + i)) (three_at w (6 + i + j)) (take 2 w) (take i (drop 3 w)) (take j (drop (6 + i) w))
    (drop (9 + i + j) w) (length_part 2 0 w (omega arith)) (length_part i 3 w (omega arith)) (length_part j (6 + i) w (omega arith))
    ∙ all_parts i j k w e

pub rotation-store-load : (w : List ℕ) → length w ≡ 48 → get_or w 2 0 < 2 ^ 32 → rotation_slots (rotation_limit w) ≡ w
rotation-store-load w e h =
    let v : ℕ = get_or w 2 0 in
    let m : v % 65536 % 65536 + 65536 * (v / 65536 % 65536) ≡ v = omega arith in
    rw m (placed-others 20 0 19 w e)

pub translation-store-load : (w : List ℕ) → length w ≡ 16 → translation_slots (translation_limit w) ≡ w
translation-store-load w e = placed-others 5 1 1 w e

-- what a record with these others tells
module _ (i j k v : ℕ) (a b : Words3) (o : List ℕ) (n : length o ≡ 2 + i + j + k) where
  abbrev slots : List ℕ
  slots = placed i j v a b o

  n₁ : length (take 2 o) ≡ 2
  n₁ = length_part 2 0 o (omega arith)

  n₂ : length (take i (drop 2 o)) ≡ i
  n₂ = length_part i 2 o (omega arith)

  n₃ : length (take j (drop (2 + i) o)) ≡ j
  n₃ = length_part j (2 + i) o (omega arith)

  placed-id : get_or slots 2 0 ≡ v
  placed-id = id_of i j v a b (take 2 o) (take i (drop 2 o)) (take j (drop (2 + i) o)) (drop (2 + i + j) o) n₁ n₂ n₃

  placed-least : three_at slots (3 + i) ≡ a
  placed-least = least_of i j v a b (take 2 o) (take i (drop 2 o)) (take j (drop (2 + i) o)) (drop (2 + i + j) o) n₁ n₂ n₃

  placed-greatest : three_at slots (6 + i + j) ≡ b
  placed-greatest = greatest_of i j v a b (take 2 o) (take i (drop 2 o)) (take j (drop (2 + i) o)) (drop (2 + i + j) o) n₁ n₂ n₃

  placed-other : others i j slots ≡ o
  placed-other =
      others_of i j v a b (take 2 o) (take i (drop 2 o)) (take j (drop (2 + i) o)) (drop (2 + i + j) o) n₁ n₂ n₃
      ∙ four_parts i j o

pub rotation-load-store : (l : RotationLimit) → l.id ≤ 65535 → GoodRotation l → rotation_limit (rotation_slots l) ≡ l
rotation-load-store l h g =
    let v : ℕ = l.id % 65536 + 65536 * l.second in
    let e = placed-id 20 0 19 v l.least l.greatest l.other g.others in
    let m : l.id % 65536 ≡ l.id = omega arith in
    let f : get_or (rotation_slots l) 2 0 ≡ l.id + 65536 * l.second = e ∙ rw m refl in
    let a : get_or (rotation_slots l) 2 0 % 65536 ≡ l.id = omega (arith, f) in
    let u : get_or (rotation_slots l) 2 0 / 65536 ≡ l.second = omega (arith, f) in
    let b : lower (upper (get_or (rotation_slots l) 2 0)) ≡ l.second = rw u (omega (arith, g.second)) in
    let p = placed-least 20 0 19 v l.least l.greatest l.other g.others in
    let q = placed-greatest 20 0 19 v l.least l.greatest l.other g.others in
    let o = placed-other 20 0 19 v l.least l.greatest l.other g.others in
    λ i. record { id = a i; second = b i; least = p i; greatest = q i; other = o i }

pub translation-load-store : (l : TranslationLimit) → GoodTranslation l → translation_limit (translation_slots l) ≡ l
translation-load-store l g =
    let e = placed-id 5 1 1 l.id l.least l.greatest l.other g.others in
    let p = placed-least 5 1 1 l.id l.least l.greatest l.other g.others in
    let q = placed-greatest 5 1 1 l.id l.least l.greatest l.other g.others in
    let o = placed-other 5 1 1 l.id l.least l.greatest l.other g.others in
    λ i. record { id = e i; least = p i; greatest = q i; other = o i }

-- ---- rows

-- whatever lies behind the row
pub rotation_row_back_lem : (l : RotationLimit) (rest : List ℕ) → GoodRotation l → rotation_row (rotation_words l ++ rest) ≡ l
rotation_row_back_lem l rest g =
    let n = g.others in
    let t : take 41 (l.other ++ (l.second ∷ []) ++ rest) ≡ l.other =
    rw (append_assoc l.other (l.second ∷ []) rest) (take_at l.other (l.second ∷ rest) 41 n) in
    let s : get_or (l.other ++ (l.second ∷ []) ++ rest) 41 0 ≡ l.second =
    rw (append_assoc l.other (l.second ∷ []) rest) (rw n at (get_or-append_seam l.other l.second rest 0)) in
    let m : l.second % 65536 ≡ l.second = omega (arith, g.second) in
    rw (t, s, m) refl

pub translation_row_back_lem : (l : TranslationLimit) (rest : List ℕ) → GoodTranslation l → translation_row (translation_words l ++ rest) ≡ l
translation_row_back_lem l rest g = rw (take_at l.other rest 9 g.others) refl
