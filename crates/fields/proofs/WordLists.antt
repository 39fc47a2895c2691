-- Runs of words and of their bytes (docs/FORMAT.md: "All stored numbers are little-endian"), over the width of k bytes. In order:
-- the words
-- that bytes hold; the bytes of words; a store of words by its bytes; from one to the other and back. Assumes nothing.
use mathlib.Core.Path.{◌≡◌, refl, sym, ap, ◌∙◌}
use mathlib.Core.List.{List, [], ◌∷◌, ◌++◌, append_assoc}
use Prim.Native.Nat.{ℕ, zero, suc, ◌+◌, ◌-◌, ◌*◌, ◌^◌, ◌≤◌, ◌<◌}
use native.Mathlib.Nat.{zero-add, mul-zero, mul-suc, mod-eq_of_lt}
use native.Mathlib.Omega.{arith}
use lib.ListN.{length, get_or, take, drop, set}
use lib.Seq.{drop-drop, take_at, drop_at, take-nil, drop-nil}
use lib.Seq.{take-take, sets}
use Rattle.format.specs.Field.{field, words, bytes, word_bytes}
use Rattle.format.proofs.Fields.{length-bytes, value_of-bytes}
pub use Rattle.format.proofs.Fields.{length-words, length-word_bytes}

-- ---- the words that bytes hold

pub drop-take : (i n : ℕ) (s : List ℕ) → drop i (take (i + n) s) ≡ take n (drop i s)
drop-take zero n s = simp zero-add
drop-take (suc i) n [] = simp (take-nil, drop-nil)
drop-take (suc i) n (x ∷ s) = let e : suc i + n ≡ suc (i + n) = omega arith in rw e (drop-take i n s)

-- m words and then n
pub words-add : (k m n : ℕ) (s : List ℕ) → words k (m + n) s ≡ words k m s ++ words k n (drop (k * m) s)
unfolding words
words-add k zero n s = simp (zero-add, mul-zero)
words-add k (suc m) n s =
    let e : suc m + n ≡ suc (m + n) = omega arith in
    let f : k + k * m ≡ k * suc m = simp mul-suc (omega arith) in
    simp (e, words-add k m n (drop k s), drop-drop, f)

pub get_or-words : (k m : ℕ) (s : List ℕ) (j : ℕ) → j < m → get_or (words k m s) j 0 ≡ field k s (k * j)
unfolding words
get_or-words k zero s j h = absurd (omega arith)
get_or-words k (suc m) s zero h = simp mul-zero
get_or-words k (suc m) s (suc j) h =
    let f : k + k * j ≡ k * suc j = simp mul-suc (omega arith) in
    get_or-words k m (drop k s) j (omega arith) ∙ simp (drop-drop, f)

-- n words behind i, of all
words_middle : (k i n r : ℕ) (s : List ℕ) → take n (drop i (words k (i + (n + r)) s)) ≡ words k n (drop (k * i) s)
words_middle k i n r s =
    let own : List ℕ = words k n (drop (k * i) s) in
    let rest : List ℕ = words k r (drop (k * n) (drop (k * i) s)) in
    simp (words-add k i (n + r) s, words-add k n r (drop (k * i) s), drop_at (words k i s) (own ++ rest) i (length-words k i s))
    (take_at own rest n (length-words k n (drop (k * i) s)))

pub words-part : (k m n i : ℕ) (s : List ℕ) → i + n ≤ m → take n (drop i (words k m s)) ≡ words k n (drop (k * i) s)
words-part k m n i s h =
    let e : i + (n + (m - (i + n))) ≡ m = omega arith in
    rw e at (words_middle k i n (m - (i + n)) s)

-- of the m words from `from` on, n behind the i-th
pub words_at_lem :
    (k m n i : ℕ) (s : List ℕ) (from : ℕ) →
    i + n ≤ m →
    words k n (drop (from + k * i) s) ≡ take n (drop i (words k m (drop from s)))
words_at_lem k m n i s from h = rw (← drop-drop (k * i) from s) (sym (words-part k m n i (drop from s) h))

-- words of the front of a list
pub words_take : (k m : ℕ) (s : List ℕ) → words k m (take (k * m) s) ≡ words k m s
unfolding words
words_take k zero s = refl
words_take k (suc m) s =
    let f : k * suc m ≡ k + k * m = simp mul-suc (omega arith) in
    let d : drop k (take (k + k * m) s) ≡ take (k * m) (drop k s) = drop-take k (k * m) s in
    let t : take k (take (k + k * m) s) ≡ take k s = take-take k (k + k * m) s (omega arith) in
    simp (f, d, t, words_take k m (drop k s))

-- ---- the bytes of words

pub word_bytes-append : (k : ℕ) (a b : List ℕ) → word_bytes k (a ++ b) ≡ word_bytes k a ++ word_bytes k b
unfolding word_bytes
word_bytes-append k [] b = refl
word_bytes-append k (w ∷ a) b = simp (word_bytes-append k a b, append_assoc)

-- ---- a store of words by its bytes

pub set-behind : (a b : List ℕ) (i v : ℕ) → set (a ++ b) (length a + i) v ≡ a ++ set b i v
set-behind [] b i v = simp zero-add
set-behind (x ∷ a) b i v =
    let e : suc (length a) + i ≡ suc (length a + i) = omega arith in
    rw e (ap (λ (l : List ℕ). x ∷ l) (set-behind a b i v))

-- stores behind a list are stores in what follows it
pub sets_behind : (vs a b : List ℕ) (i : ℕ) → sets (a ++ b) (length a + i) vs ≡ a ++ sets b i vs
sets_behind [] a b i = refl
sets_behind (v ∷ vs) a b i =
    let e : suc (length a + i) ≡ length a + suc i = omega arith in
    rw (set-behind a b i v, e) (sets_behind vs a (set b i v) (suc i))

-- ---- from words to bytes and back

-- every word fits k bytes
abbrev pub Fit : ℕ → List ℕ → Type 0
Fit k [] = Unit {0}
Fit k (w ∷ ws) = (w < 256 ^ k) × Fit k ws

pub words-word_bytes : (k : ℕ) (ws rest : List ℕ) → Fit k ws → words k (length ws) (word_bytes k ws ++ rest) ≡ ws
unfolding words word_bytes
words-word_bytes k [] rest f = refl
words-word_bytes k (w ∷ ws) rest f =
    let l : length (bytes k w) ≡ k = length-bytes k w in
    let all : List ℕ = word_bytes k ws ++ rest in
    let t : take k (bytes k w ++ all) ≡ bytes k w = take_at (bytes k w) all k l in
    let d : drop k (bytes k w ++ all) ≡ all = drop_at (bytes k w) all k l in
    simp (append_assoc, t, d, value_of-bytes k w, mod-eq_of_lt f.0, words-word_bytes k ws rest f.1)
