-- What a field of the bytes that a cursor takes is of its section. Assumes nothing.
use Prim.Native.Nat.{ℕ, ◌+◌, ◌≤◌, ◌<◌}
use native.Mathlib.Nat.{add-zero}
use native.Mathlib.Omega.{arith}
use borrow.Author.Tests.{le-leb, lt-leb, leb-true}
use mathlib.Core.Path.{◌≡◌, refl, sym, ap, ◌∙◌}
use mathlib.Core.Bool.{Bool, true, false}
use mathlib.Core.List.{List, [], ◌∷◌}
use lib.ListN.{length, take, drop, take-append-drop, length-drop}
use lib.Seq.{drop-drop, length-take-le}
use Rattle.std.specs.List.{slice_get}
use Rattle.std.specs.Option.{unwrap_or}
use Rattle.std.proofs.lemmas.Grind.{common_steps}
use Rattle.format.specs.Field.{value_of, field, stands, or_zero, field_at, which_list}
use Rattle.format.proofs.Fields.{field-within}
use Rattle.format.specs.declared.Words3.{Words3}
use Rattle.format.specs.declared.Words4.{Words4}
use Rattle.blocks.specs.Cursor.{standing_bytes, words3_at, words4_at}

-- a field of some bytes of a half lies in the half
pub field-part :
    (k n : ℕ) (half : List ℕ) (o at : ℕ) → at + k ≤ n → o + n ≤ length half →
    field k (take n (drop o half)) at ≡ field k half (o + at)
field-part k n half o at h l =
    let long : length (take n (drop o half)) ≡ n = length-take-le n (drop o half) (simp length-drop (omega arith)) in
    sym (field-within k (take n (drop o half)) (drop n (drop o half)) at (omega (arith, long))) ∙
    ap (λ (s : List ℕ). field k s at) (take-append-drop n (drop o half)) ∙
    ap (λ (s : List ℕ). value_of (take k s)) (drop-drop at o half)

-- a field of the bytes taken, or 0 where not all of them stand
pub field_taken :
    (j k : ℕ) (s : List ℕ) (at i : ℕ) → 0 < j → i + j ≤ k →
    field_at j (standing_bytes k s at) i ≡ or_zero (stands k s at) (field j s (at + i))
unfolding or_zero which_list
field_taken j k s at i p h = by (stands k s at) refl
  where
    by : (t : Bool) → stands k s at ≡ t → field_at j (which_list t (take k (drop at s)) []) i ≡ or_zero t (field j s (at + i))
    by true e =
        let l : at + k ≤ length s = leb-true (at + k) (length s) e in
        let n : length (take k (drop at s)) ≡ k = length-take-le k (drop at s) (simp length-drop (omega arith)) in
        rw (le-leb (i + j) (length (take k (drop at s))) (omega (arith, n))) (field-part j k s at i h l)
    by false e = rw (lt-leb (i + j) 0 (omega arith)) refl

-- the bytes taken as one field
pub field_whole : (k : ℕ) (s : List ℕ) (at : ℕ) → 0 < k → field_at k (standing_bytes k s at) 0 ≡ field_at k s at
field_whole k s at p = field_taken k k s at 0 p (omega arith) ∙ simp add-zero

-- the first byte, or 0 where there is none
pub first_byte : (s : List ℕ) → unwrap_or (slice_get s 0) 0 ≡ field_at 1 s 0
unfolding or_zero value_of
first_byte [] = grind (arith, common_steps)
first_byte (b ∷ s) = grind (arith, common_steps)

-- the bytes taken as three words, and as four
pub words3_taken :
    (s : List ℕ) (at : ℕ) {b : List ℕ} → b ≡ standing_bytes 12 s at →
    ◌≡◌ {A = Words3} (record { x = field_at 4 b 0; y = field_at 4 b 4; z = field_at 4 b 8 }) (words3_at s at)
unfolding words3_at
words3_taken s at e =
    let w : (i : ℕ) → i + 4 ≤ 12 → field_at 4 (standing_bytes 12 s at) i ≡ or_zero (stands 12 s at) (field 4 s (at + i)) =
    λ i h. field_taken 4 12 s at i (omega arith) h in
    rw (e, w 0 (omega arith), w 4 (omega arith), w 8 (omega arith)) (simp add-zero)

pub words4_taken :
    (s : List ℕ) (at : ℕ) {b : List ℕ} → b ≡ standing_bytes 16 s at →
    ◌≡◌ {A = Words4} (record { x = field_at 4 b 0; y = field_at 4 b 4; z = field_at 4 b 8; w = field_at 4 b 12 }) (words4_at s at)
unfolding words4_at
words4_taken s at e =
    let w : (i : ℕ) → i + 4 ≤ 16 → field_at 4 (standing_bytes 16 s at) i ≡ or_zero (stands 16 s at) (field 4 s (at + i)) =
    λ i h. field_taken 4 16 s at i (omega arith) h in
    rw (e, w 0 (omega arith), w 4 (omega arith), w 8 (omega arith), w 12 (omega arith)) (simp add-zero)
