-- The two kinds of limits (docs/FORMAT.md, "Joints and names"): the sizes of rows and records, and that a row holds the limit of its record. In
-- order: parts of a list; sizes; rows read again. Assumes nothing.
use mathlib.Core.Path.{◌≡◌}
use mathlib.Core.List.{List, [], ◌∷◌, ◌++◌}
use Prim.Native.Nat.{ℕ, suc, ◌+◌, ◌%◌, ◌≤◌}
use native.Mathlib.Numerals.{add-one, add-two}
use native.Mathlib.Omega.{arith}
use lib.ListN.{length, get_or, take, drop, length-append, length-drop}
use lib.Seq.{drop-cons, take_at, take_all, length-take-le, get_or-append_seam}
use Rattle.format.specs.Bone.{Words3}
use Rattle.format.specs.Rows.{lower, upper}
use Rattle.format.specs.Joints.{three_words, three_at, placed, others, rotation_slots, rotation_limit, rotation_words, rotation_row}
use Rattle.format.specs.Joints.{translation_slots, translation_limit, translation_words, translation_row}

-- ---- parts of a list

pub three_at_lem : (w : List ℕ) (j : ℕ) → j + 3 ≤ length w → take 3 (drop j w) ≡ three_words (three_at w j)
three_at_lem w j h =
    let a = drop-cons w j 0 (omega arith) in
    let b = drop-cons w (suc j) 0 (omega arith) in
    let c = drop-cons w (suc (suc j)) 0 (omega arith) in
    simp (add-one, add-two, a, b, c)

pub length_part : (n a : ℕ) (w : List ℕ) → a + n ≤ length w → length (take n (drop a w)) ≡ n
length_part n a w h = length-take-le n (drop a w) (simp length-drop (omega arith))

-- ---- sizes

pub length-others : (i j k : ℕ) (w : List ℕ) → length w ≡ 9 + i + j + k → length (others i j w) ≡ 2 + i + j + k
length-others i j k w e =
    let a = length_part 2 0 w (omega arith) in
    let b = length_part i 3 w (omega arith) in
    let c = length_part j (6 + i) w (omega arith) in
    simp (length-append, a, b, c, length-drop) (omega arith)

pub length-placed :
    (i j k v : ℕ) (a b : Words3) (o : List ℕ) → length o ≡ 2 + i + j + k → length (placed i j v a b o) ≡ 9 + i + j + k
length-placed i j k v a b o e =
    let x = length_part 2 0 o (omega arith) in
    let y = length_part i 2 o (omega arith) in
    let z = length_part j (2 + i) o (omega arith) in
    simp (length-append, x, y, z, length-drop) (omega arith)

pub length_rotation : (w : List ℕ) → length w ≡ 48 → length (rotation_words (rotation_limit w)) ≡ 49
length_rotation w e =
    let n = length-others 20 0 19 w e in
    let m = length-append (others 20 0 w) (lower (upper (get_or w 2 0)) ∷ []) in
    omega (arith, n, m)

pub length_translation : (w : List ℕ) → length w ≡ 16 → length (translation_words (translation_limit w)) ≡ 16
length_translation w e = omega (arith, length-others 5 1 1 w e)

pub rotation_size : (w : List ℕ) → 49 ≤ length w → length (rotation_slots (rotation_row w)) ≡ 48
rotation_size w h = length-placed 20 0 19 _ _ _ (take 41 (drop 7 w)) (length_part 41 7 w (omega arith))

pub translation_size : (w : List ℕ) → 16 ≤ length w → length (translation_slots (translation_row w)) ≡ 16
translation_size w h = length-placed 5 1 1 _ _ _ (take 9 (drop 7 w)) (length_part 9 7 w (omega arith))

-- ---- rows read again

-- the others of a record in their row
others-back : (i j k : ℕ) (w rest : List ℕ) → length w ≡ 9 + i + j + k → take (2 + i + j + k) (others i j w ++ rest) ≡ others i j w
others-back i j k w rest e = take_at (others i j w) rest (2 + i + j + k) (length-others i j k w e)

pub rotation_back_lem : (w : List ℕ) → length w ≡ 48 → rotation_row (rotation_words (rotation_limit w)) ≡ rotation_limit w
rotation_back_lem w e =
    let v : ℕ = lower (upper (get_or w 2 0)) in
    let s : get_or (others 20 0 w ++ (v ∷ [])) 41 0 ≡ v =
    rw (length-others 20 0 19 w e) at (get_or-append_seam (others 20 0 w) v [] 0) in
    let m : v % 65536 ≡ v = omega arith in
    simp (others-back 20 0 19 w (v ∷ []) e, s, m)

pub translation_back_lem : (w : List ℕ) → length w ≡ 16 → translation_row (translation_words (translation_limit w)) ≡ translation_limit w
translation_back_lem w e = rw (take_all 9 (others 5 1 w) (omega (arith, length-others 5 1 1 w e)))
