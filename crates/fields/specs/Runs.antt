-- Runs of numbers in lent slices (docs/FORMAT.md: "All stored numbers are little-endian"): n words of k bytes each, their values in a table
-- of A, and what storing a run leaves. A run that does not lie wholly in both slices changes nothing. Definitions only.
use Rattle.std.specs.Prelude.{ℕ, ◌*◌, Bool, ◌&&◌, List, length, take, drop}
use Rattle.std.proofs.lemmas.List.Edits.{sets}
use Rattle.format.specs.Field.{stands, which_list, words, word_bytes}

-- ---- from bytes into a table

-- whether n words of k bytes stand in s from `from` on, and the table has room for them from `to` on
abbrev pub loads : {A : Type 0} → ℕ → ℕ → List ℕ → ℕ → List A → ℕ → Bool
loads k n s from t to = stands (k * n) s from && stands n t to

abbrev pub loaded : {A : Type 0} → (List ℕ → List A) → ℕ → ℕ → List ℕ → ℕ → List A → ℕ → List A
loaded values k n s from t to = which_list (loads k n s from t to) (sets t to (values (words k n (drop from s)))) t

-- ---- from words into bytes

-- whether there is room for the words w of k bytes from `at` on
abbrev pub stores : {A : Type 0} → ℕ → List A → List ℕ → ℕ → Bool
stores k w d at = stands (k * length w) d at

abbrev pub stored : {A : Type 0} → (List A → List ℕ) → ℕ → List A → List ℕ → ℕ → List ℕ
stored numbers k w d at = which_list (stores k w d at) (sets d at (word_bytes k (numbers w))) d

-- ---- from one table into another

-- whether n words stand in s from `from` on, and the table t has room for them from `to` on
abbrev pub copies : {A : Type 0} → ℕ → List A → ℕ → List A → ℕ → Bool
copies n s from t to = stands n s from && stands n t to

abbrev pub copied : {A : Type 0} → ℕ → List A → ℕ → List A → ℕ → List A
copied n s from t to = which_list (copies n s from t to) (sets t to (take n (drop from s))) t
