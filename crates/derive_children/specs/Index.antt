-- An index of the bones by parent: which position comes first of those with a given parent. A position is held as a word, one
-- more than it; 0 is none. The tables are functions of a position: where they lie in the lent table, the views below say.
-- Definitions only.
use Rattle.std.specs.Prelude.{ℕ, zero, suc, ◌+◌, ◌*◌, ◌%◌, ◌≤◌, ◌<◌, ◌≡◌, cond, List, [], ◌∷◌, length, get_or, drop, eqb}
use Rattle.format.specs.Children.{positions}

-- the word of a list's first position
unfoldable pub first_word : List ℕ → ℕ
first_word [] = 0
first_word (x ∷ xs) = suc x

-- the positions from i on whose parent is v
abbrev pub positions_from : List ℕ → ℕ → ℕ → List ℕ
positions_from parents v i = positions v i (drop i parents)

-- Followed from the word w, the links pass the positions l, which rise from `low` and are below n.
abbrev pub Chain : ℕ → (ℕ → ℕ) → ℕ → ℕ → List ℕ → Type 0
Chain n link low w [] = w ≡ 0
Chain n link low w (j ∷ l) = (w ≡ suc j) × (low ≤ j) × (j < n) × Chain n link (suc j) (link j) l

-- the word of the first of l whose parent is v
unfoldable pub rep_of : List ℕ → ℕ → List ℕ → ℕ
rep_of parents v [] = 0
rep_of parents v (j ∷ l) = cond (eqb (get_or parents j 0) v) (suc j) (rep_of parents v l)

-- what a table holds at a word's position, 0 for none
abbrev pub head_of : (ℕ → ℕ) → ℕ → ℕ
head_of head zero = 0
head_of head (suc j) = head j

abbrev pub slot_of : List ℕ → ℕ → ℕ
slot_of parents v = v % (length parents + 1)

-- a chain starts at the word w
pub record LinkedFrom (parents : List ℕ) (link : ℕ → ℕ) (w : ℕ) : Type 0 where
  pub low : ℕ
  pub l : List ℕ
  pub chain : Chain (length parents) link low w l

-- r is the word of the first along the links from w whose parent is v
pub record Sought (parents : List ℕ) (link : ℕ → ℕ) (v w r : ℕ) : Type 0 where
  pub is : (low : ℕ) (l : List ℕ) → Chain (length parents) link low w l → r ≡ rep_of parents v l
  pub below : r ≤ length parents

-- The index of the positions from i on. Each slot has a chain of positions, one for each parent in the slot (its representative);
-- `head` has, at the representative, the word of the first position with that parent.
pub record Index (parents : List ℕ) (first link head : ℕ → ℕ) (i : ℕ) : Type 0 where
  pub reps : ℕ → List ℕ
  pub chain : (s : ℕ) → s < length parents + 1 → Chain (length parents) link i (first s) (reps s)
  pub looks : (v : ℕ) → head_of head (rep_of parents v (reps (slot_of parents v))) ≡ first_word (positions_from parents v i)

-- Where the index lies, behind the next siblings and the first children: slots, links, heads.
abbrev pub first_at : List ℕ → List ℕ → ℕ → ℕ
first_at parents t = λ s. get_or t (2 * length parents + s) 0

abbrev pub link_at : List ℕ → List ℕ → ℕ → ℕ
link_at parents t = λ j. get_or t (3 * length parents + suc j) 0

abbrev pub head_at : List ℕ → List ℕ → ℕ → ℕ
head_at parents t = λ j. get_or t (4 * length parents + suc j) 0

-- the table has room, an index of the positions from i on, and at each of them the word of the next one with the same parent
pub record IndexTable (parents t : List ℕ) (i : ℕ) : Type 0 where
  pub room : 8 * (length parents + 1) ≤ length t
  pub index : Index parents (first_at parents t) (link_at parents t) (head_at parents t) i
  pub nexts : (j : ℕ) → i ≤ j → j < length parents → get_or t j 0 ≡ first_word (positions_from parents (get_or parents j 0) (suc j))
