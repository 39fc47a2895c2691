-- One limit: the slots of its record put into a row, and a row's words into slots (docs/FORMAT.md, "Records", "Rows of the lent tables"); the
-- fresh limit. Assumes nothing.
use mathlib.Core.Path.{◌≡◌, refl, sym, ap, ◌∙◌}
use mathlib.Core.List.{List, [], ◌∷◌, ◌++◌, append-nil}
use Prim.Native.Nat.{ℕ, zero, suc, ◌+◌, ◌*◌, ◌/◌, ◌%◌, ◌^◌, ◌≤◌, ◌<◌}
use native.Mathlib.Nat.{zero-add}
use native.Mathlib.Omega.{arith}
use lib.ListN.{length, get_or, take, drop, replicate, length-replicate, drop_of_length-le}
use lib.Seq.{drop-cons, sets, sets-eq, take_all}
use Rattle.format.specs.Field.{value_of, bytes, words, word_bytes}
use Rattle.format.specs.Joints.{rotation_slots, rotation_limit, rotation_words, rotation_row, fresh_slots}
use Rattle.format.specs.Joints.{translation_slots, translation_limit, translation_words, translation_row}
use Rattle.fields.proofs.WordLists.{length-words, length-word_bytes}
use Rattle.fields.proofs.RunLaws.{loaded-stands, stored-stands}
use Rattle.fields.specs.Runs.{loaded, stored}

-- ---- all of an array

-- what is stored over all of a list is the list
pub all-stored : (x t : List ℕ) → length x ≡ length t → sets t 0 x ≡ x
all-stored x t e =
    let z : 0 + length x ≡ length x = zero-add (length x) in
    sets-eq x t 0 (omega arith) ∙ rw (z, drop_of_length-le t {i = length x} (omega arith)) (append-nil x)

pub loaded_all : (n : ℕ) (s : List ℕ) {t : List ℕ} → length s ≡ 4 * n → t ≡ loaded (λ l. l) 4 n s 0 (replicate n 0) 0 → t ≡ words 4 n s
loaded_all n s e f =
    let z : List ℕ = replicate n 0 in
    let l : length z ≡ n = length-replicate n 0 in
    f ∙ loaded-stands 4 n s 0 z 0 (omega arith) (omega arith) ∙ all-stored (words 4 n s) z (length-words 4 n s ∙ sym l)

pub stored_all : (n : ℕ) (w : List ℕ) {t : List ℕ} → n ≡ 4 * length w → t ≡ stored (λ l. l) 4 w (replicate n 0) 0 → t ≡ word_bytes 4 w
stored_all n w e f =
    let z : List ℕ = replicate n 0 in
    let l : length z ≡ n = length-replicate n 0 in
    f ∙ stored-stands 4 w z 0 (omega arith) ∙ all-stored (word_bytes 4 w) z (length-word_bytes 4 w ∙ sym e ∙ sym l)

-- ---- slots and rows, word by word

-- n words of a list from word k on
abbrev pub words_at : ℕ → ℕ → List ℕ → List ℕ
words_at zero k t = []
words_at (suc n) k t = get_or t k 0 ∷ words_at n (suc k) t

words_part : (n k : ℕ) (t : List ℕ) → k + n ≤ length t → take n (drop k t) ≡ words_at n k t
words_part zero k t h = refl
words_part (suc n) k t h = rw (drop-cons t k 0 (omega arith)) (ap (λ (x : List ℕ). get_or t k 0 ∷ x) (words_part n (suc k) t (omega arith)))

words_all : (n : ℕ) (t : List ℕ) → length t ≡ n → t ≡ words_at n 0 t
words_all n t e = sym (take_all n t (omega arith)) ∙ words_part n 0 t (omega arith)

pub rotation_read_lem :
    (w : List ℕ) → length w ≡ 48 → get_or w 2 0 < 2 ^ 32 →
    get_or w 2 0 % 65536 ∷ words_at 6 23 w ++ words_at 2 0 w ++ words_at 20 3 w ++ words_at 19 29 w ++ get_or w 2 0 / 65536 ∷ []
    ≡ rotation_words (rotation_limit w)
rotation_read_lem w e h =
    let u : get_or w 2 0 / 65536 ≡ get_or w 2 0 / 65536 % 65536 = omega arith in
    ap
    (λ (v : ℕ).
    get_or w 2 0 % 65536 ∷ words_at 6 23 w ++ words_at 2 0 w ++ words_at 20 3 w ++ words_at 19 29 w ++ v ∷ [])
    u
    ∙ sym (ap (λ (x : List ℕ). rotation_words (rotation_limit x)) (words_all 48 w e))

pub translation_read_lem :
    (w : List ℕ) → length w ≡ 16 →
    get_or w 2 0 ∷ words_at 3 8 w ++ words_at 3 12 w ++ words_at 2 0 w ++ words_at 5 3 w ++ words_at 1 11 w ++ words_at 1 15 w
    ≡ translation_words (translation_limit w)
translation_read_lem w e = sym (ap (λ (x : List ℕ). translation_words (translation_limit x)) (words_all 16 w e))

pub rotation_put_lem :
    (t : List ℕ) → length t ≡ 49 →
    words_at 2 7 t ++ (get_or t 0 0 % 65536 + 65536 * (get_or t 48 0 % 65536)) ∷ words_at 20 9 t ++ words_at 6 1 t ++ words_at 19 29 t
    ≡ rotation_slots (rotation_row t)
rotation_put_lem t e = sym (ap (λ (x : List ℕ). rotation_slots (rotation_row x)) (words_all 49 t e))

pub translation_put_lem :
    (t : List ℕ) → length t ≡ 16 →
    words_at 2 7 t ++ get_or t 0 0 ∷ words_at 5 9 t ++ words_at 3 1 t ++ words_at 1 14 t ++ words_at 3 4 t ++ words_at 1 15 t
    ≡ translation_slots (translation_row t)
translation_put_lem t e = sym (ap (λ (x : List ℕ). translation_slots (translation_row x)) (words_all 16 t e))

-- ---- the default record

pub fresh-words : words 4 48 (word_bytes 4 fresh_slots) ≡ fresh_slots
unfolding words word_bytes bytes value_of
fresh-words = refl
