-- Rows and records of a list of limits (docs/FORMAT.md, "Joints and names"): as the code's chunks, and as the rows of the definitions. Assumes
-- nothing.
use mathlib.Core.Path.{◌≡◌, refl, ap, ◌∙◌}
use mathlib.Core.List.{List, [], ◌∷◌, ◌++◌, map, flat_map}
use Prim.Native.Nat.{ℕ, zero, suc, ◌+◌, ◌*◌, ◌≤◌}
use native.Mathlib.Nat.{mul-suc}
use native.Mathlib.Omega.{arith}
use lib.ListN.{length, take, drop, length-map}
use lib.Seq.{take_at, drop_at}
use Rattle.std.specs.Simd.{first_chunks}
use Rattle.format.specs.Field.{words}
use Rattle.format.specs.Joints.{rotation_row, translation_row, limit_rows}
use Rattle.fields.proofs.WordLists.{length-words, words-add, words_take}
use Rattle.joints.specs.Written.{rotations_of, translations_of}

-- ---- chunks

-- the first n of m chunks are rows
pub chunks-rows : (w n m : ℕ) (t : List ℕ) → n ≤ m → take n (first_chunks w m t) ≡ limit_rows w n t
unfolding limit_rows
chunks-rows w zero m t h = refl
chunks-rows w (suc n) zero t h = absurd (omega arith)
chunks-rows w (suc n) (suc m) t h = ap (λ (l : List (List ℕ)). take w t ∷ l) (chunks-rows w n m (drop w t) (omega arith))

-- what is made of the words of each chunk, is made of rows of words
pub chunks-words :
    (f : List ℕ → List ℕ) (k n : ℕ) (s : List ℕ) →
    flat_map (λ b. f (words 4 k b)) (first_chunks (4 * k) n s) ≡ flat_map f (limit_rows k n (words 4 (k * n) s))
unfolding flat_map limit_rows
chunks-words f k zero s = refl
chunks-words f k (suc n) s =
    let e : k * suc n ≡ k + k * n = simp mul-suc (omega arith) in
    let all : List ℕ = words 4 (k * n) (drop (4 * k) s) in
    let w : words 4 (k * suc n) s ≡ words 4 k s ++ all = rw e (words-add 4 k (k * n) s) in
    let t : take k (words 4 k s ++ all) ≡ words 4 k s = take_at (words 4 k s) all k (length-words 4 k s) in
    let d : drop k (words 4 k s ++ all) ≡ all = drop_at (words 4 k s) all k (length-words 4 k s) in
    rw (w, t, d, words_take 4 k s, chunks-words f k n (drop (4 * k) s)) refl

-- ---- rows

pub length-limit_rows : (k n : ℕ) (w : List ℕ) → length (limit_rows k n w) ≡ n
unfolding limit_rows
length-limit_rows k zero w = refl
length-limit_rows k (suc n) w = ap suc (length-limit_rows k n (drop k w))

pub length-rotations_of : (n : ℕ) (t : List ℕ) → length (rotations_of n t) ≡ n
length-rotations_of n t = length-map (limit_rows 49 n t) rotation_row ∙ length-limit_rows 49 n t

pub length-translations_of : (n : ℕ) (t : List ℕ) → length (translations_of n t) ≡ n
length-translations_of n t = length-map (limit_rows 16 n t) translation_row ∙ length-limit_rows 16 n t

-- what limits make one by one, they make in a list
pub flat_map-map :
    {L : Type 0} (f : L → List ℕ) (g : List ℕ → L) (h : List ℕ → List ℕ) →
    ((w : List ℕ) → f (g w) ≡ h w) →
    (l : List (List ℕ)) →
    flat_map f (map g l) ≡ flat_map h l
unfolding flat_map
flat_map-map f g h e [] = refl
flat_map-map f g h e (w ∷ l) = simp (e w, flat_map-map f g h e l)
