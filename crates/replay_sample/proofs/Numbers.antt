-- Laws of the parts of a case, of the numbers that a part holds, for any width, and of numbers with one behind them. Assumes nothing.
use Prim.Native.Nat.{ℕ, zero, suc, ◌+◌, ◌-◌, ◌*◌, ◌/◌, ◌≤◌, ◌<◌}
use native.Mathlib.Omega.{arith}
use native.Mathlib.Nat.{le-div_iff_mul-le, mul_comm}
use mathlib.Core.Path.{◌≡◌, refl, sym, ap, ◌∙◌}
use mathlib.Core.List.{List, [], ◌∷◌, ◌++◌}
use lib.ListN.{length, get_or, take, drop, set, replicate, length-append, length-replicate, get_or-eq_default}
use lib.Seq.{length-take-le}
use Rattle.std.proofs.lemmas.List.{take_more, take_more_set}
use Rattle.format.specs.Rows.{laid}
use borrow.Author.Tests.{le-leb, lt-leb}
use Rattle.format.specs.Field.{field_at, or_zero, which_list}
use Rattle.format.proofs.Fields.{words_at_lem, length-words}
use Rattle.replay_sample.specs.Parts.{part_of, numbers}
use Rattle.replay_sample.specs.Lent.{length_of, Front}

-- ---- parts: begin is where the first part begins, from and to are what stands at places k and k + 1

module _ (k : ℕ) (s : List ℕ) {begin : ℕ} (b : begin ≡ field_at 4 s 0) where
  pub part_absent : begin ≤ 4 * k + 4 → [] ≡ part_of k s
  unfolding which_list
  part_absent h = rw (← b, le-leb begin (4 * k + 4) h)

  module _ {from to : ℕ} (f : from ≡ field_at 4 s (4 * k)) (t : to ≡ field_at 4 s (4 * k + 4)) (c : 4 * k + 4 < begin) where
    pub part_swapped : to < from → [] ≡ part_of k s
    unfolding which_list
    part_swapped h = rw (← b, ← f, ← t, lt-leb begin (4 * k + 4) c, lt-leb from to h)

    pub part-past : from ≤ to → length s < to → [] ≡ part_of k s
    unfolding which_list
    part-past h l = rw (← b, ← f, ← t, lt-leb begin (4 * k + 4) c, le-leb from to h, lt-leb to (length s) l)

    pub part-inside : from ≤ to → to ≤ length s → take (to - from) (drop from s) ≡ part_of k s
    unfolding which_list
    part-inside h l = rw (← b, ← f, ← t, lt-leb begin (4 * k + 4) c, le-leb from to h, le-leb to (length s) l)

-- ---- the front of a table

module _ {A : Type 0} where
  pub front_of : (n : ℕ) (t : List A) {r : ℕ} → n ≤ length t → r ≡ n → Front n t r
  front_of n t {r} h e =
      let l : r ≤ length t = omega arith in
      record { is = e; inside = l; front = sym (length-take-le r t l) }

-- how much of table t, which has `most` and must have n, is lent: p is the part with the lengths
module _ (case : List ℕ) (t most : ℕ) {p : List ℕ} (q : p ≡ part_of 2 case) {n : ℕ} (m : n ≡ get_or (numbers 4 p) t 0) where
  pub length_is : n ≡ length_of case t
  length_is = m ∙ ap (λ (l : List ℕ). get_or (numbers 4 l) t 0) q

-- ---- numbers

pub length-numbers : (k : ℕ) (e : List ℕ) → length (numbers k e) ≡ length e / k
length-numbers k e = length-words k (length e / k) e

pub number-inside :
    (k : ℕ) (e : List ℕ) (i : ℕ) {r : ℕ} → 0 < k → i < length e / k → r ≡ field_at k e (k * i) → r ≡ get_or (numbers k e) i 0
unfolding or_zero
number-inside k e i p l h =
    let m : suc i * k ≤ length e = (le-div_iff_mul-le p).0 (omega arith) in
    let n : k * i + k ≤ length e = omega (arith, mul_comm k i) in
    h ∙ rw (le-leb (k * i + k) (length e) n) (sym (words_at_lem k (length e / k) e i l))

pub number_behind : (k : ℕ) (e : List ℕ) (i : ℕ) → length e / k ≤ i → 0 ≡ get_or (numbers k e) i 0
number_behind k e i l = let h : length (numbers k e) ≤ i = omega (arith, length-numbers k e) in sym (get_or-eq_default (numbers k e) 0 h)

-- ---- numbers, and one of them behind all others

get_or-all : (m i d : ℕ) → get_or (replicate m d) i d ≡ d
get_or-all zero i d = refl
get_or-all (suc m) zero d = refl
get_or-all (suc m) (suc i) d = get_or-all m i d

pub get_or-padded : (w : List ℕ) (m i d : ℕ) → get_or (w ++ replicate m d) i d ≡ get_or w i d
get_or-padded [] m i d = get_or-all m i d
get_or-padded (x ∷ w) m zero d = refl
get_or-padded (x ∷ w) m (suc i) d = get_or-padded w m i d

pub length-padded : (w : List ℕ) (n d : ℕ) → length w ≤ n → length (w ++ replicate (n - length w) d) ≡ n
length-padded w n d h = length-append w (replicate (n - length w) d) ∙ simp length-replicate (omega arith)

pub longer-padded : (w : List ℕ) (n d : ℕ) → n < length w → (n ≡ length (w ++ replicate (n - length w) d)) → ⊥
longer-padded w n d h e = let l : n < length (w ++ replicate (n - length w) d) = simp length-append (omega arith) in omega arith

-- a table of n numbers, of which the first i are those of w, and one more
pub loaded_more :
    (w t : List ℕ) (n i v : ℕ) → length t ≡ n → take i t ≡ take i (laid w n) → i < n → v ≡ get_or w i 0
    → take (i + 1) (set t i v) ≡ take (i + 1) (laid w n)
loaded_more w t n i v size same l e =
    let room : n ≤ length (laid w n) = simp (length-append, length-replicate) (omega arith) in
    let here : v ≡ get_or (laid w n) i 0 = e ∙ sym (get_or-padded w (n - length w) i 0) in
    take_more_set t i v (omega arith)
    ∙ rw (same, here) (sym (take_more (laid w n) i 0 (omega arith)))
