-- The pending list, held as a pile of words: a word stands for its position and all later ones with the same parent.
-- Definitions only.
use Rattle.std.specs.Prelude.{ℕ, zero, suc, ◌+◌, ◌-◌, ◌*◌, ◌≤◌, ◌<◌, ◌≡◌, cond, length, get_or, take, drop}
use mathlib.Core.List.{List, [], ◌∷◌, ◌++◌, flat_map}
use Rattle.std.proofs.lemmas.List.Edits.{sets}
use Rattle.format.specs.Bone.{negative}
use Rattle.format.specs.Children.{kids, pair_at, padded, layers}
use Rattle.format.specs.Rows.{laid}
use Rattle.derive_children.specs.Index.{first_word, positions_from}
use Rattle.derive_children.specs.declared.pile.One.{One}
use Rattle.derive_children.specs.declared.pile.Four.{Four}

-- what a word stands for
unfoldable pub rest : List ℕ → ℕ → List ℕ
rest parents zero = []
rest parents (suc j) = j ∷ positions_from parents (get_or parents j 0) (suc j)

-- the pending list of a pile of `top` words, the last of them in front
unfoldable pub piled : List ℕ → List ℕ → ℕ → List ℕ
piled parents stack zero = []
piled parents stack (suc t) = rest parents (get_or stack t 0) ++ piled parents stack t

-- no word of the pile is 0 or too large
pub record Stacked (parents stack : List ℕ) (top : ℕ) : Type 0 where
  pub room : top ≤ length stack
  pub solid : (t : ℕ) → t < top → (0 < get_or stack t 0) × (get_or stack t 0 ≤ length parents)

-- the word w put on the pile, or nothing where it is 0
pub record Pushed (stack : List ℕ) (top w r : ℕ) (stack' : List ℕ) : Type 0 where
  pub most : r ≤ top + 1
  pub stacked : (parents : List ℕ) → Stacked parents stack top → w ≤ length parents → Stacked parents stack' r
  pub is : (parents : List ℕ) → piled parents stack' r ≡ rest parents w ++ piled parents stack top

abbrev pub root_word : ℕ → ℕ → ℕ
root_word p w = cond (negative p) w 0

-- the pile's part of the table
abbrev pub pile_of : List ℕ → List ℕ → List ℕ
pile_of parents t = drop (2 * length parents) t

-- the pending list that the table holds, in a pile of `top` words
abbrev pub pending_of : List ℕ → List ℕ → ℕ → List ℕ
pending_of parents t top = piled parents (pile_of parents t) top

-- the word in front of the pile, and its bone
abbrev pub front_word : List ℕ → List ℕ → ℕ → ℕ
front_word parents t top = get_or t (2 * length parents + top - 1) 0

abbrev pub front_bone : List ℕ → List ℕ → ℕ → ℕ
front_bone parents t top = front_word parents t top - 1

-- a push at a base: what lies below stays
pub record PushedAt (t : List ℕ) (base top w r : ℕ) (t'' : List ℕ) : Type 0 where
  pub pushed : Pushed (drop base t) top w r (drop base t'')
  pub below : (j : ℕ) → j < base → get_or t'' j 0 ≡ get_or t j 0

-- the first children of the bones below m
pub record Kids (indices parents t : List ℕ) (m : ℕ) : Type 0 where
  pub is : (b : ℕ) → b < m → get_or t (length parents + b) 0 ≡ first_word (kids indices parents b)

-- the tables that taking needs
pub record Ready (indices parents t : List ℕ) : Type 0 where
  pub room : 8 * (length parents + 1) ≤ length t
  pub firsts : (b : ℕ) → b < length parents → get_or t (length parents + b) 0 ≡ first_word (kids indices parents b)
  pub nexts : (j : ℕ) → j < length parents → get_or t j 0 ≡ first_word (positions_from parents (get_or parents j 0) (suc j))

-- the table has a pile of `top` words, and what taking from it needs
pub record PileTable (indices parents t : List ℕ) (top : ℕ) : Type 0 where
  pub ready : Ready indices parents t
  pub stacked : Stacked parents (pile_of parents t) top

-- the first of a list, or the last one again where there is none
unfoldable pub head_or : ℕ → List ℕ → ℕ
head_or b [] = b
head_or b (x ∷ xs) = x

unfoldable pub tail_of : List ℕ → List ℕ
tail_of [] = []
tail_of (x ∷ xs) = xs

-- the children of the first
unfoldable pub head_kids : (ℕ → List ℕ) → List ℕ → List ℕ
head_kids f [] = []
head_kids f (x ∷ xs) = f x

-- one bone taken from the pile and its pair written at `at`
pub record Took (indices parents t : List ℕ) (top last : ℕ) (out : List ℕ) (at : ℕ) (r : One) (t'' out' : List ℕ) : Type 0 where
  pub pile : PileTable indices parents t'' r.top
  pub most : r.top ≤ top
  pub left : pending_of parents t'' r.top ≡ tail_of (pending_of parents t top)
  pub inside : r.bone < length parents
  pub bone : r.bone ≡ head_or last (pending_of parents t top)
  pub word : r.kid ≤ length parents
  pub kid : rest parents r.kid ≡ head_kids (kids indices parents) (pending_of parents t top)
  pub written : out' ≡ sets out at (pair_at indices parents (head_or last (pending_of parents t top)))

-- four taken
pub record TookFour (indices parents t : List ℕ) (top : ℕ) (out : List ℕ) (at : ℕ) (r : Four) (t'' out' : List ℕ) : Type 0 where
  pub pile : PileTable indices parents t'' r.top
  pub most : r.top ≤ top
  pub left : pending_of parents t'' r.top ≡ drop 4 (pending_of parents t top)
  pub words : (r.a ≤ length parents) × (r.b ≤ length parents) × (r.c ≤ length parents) × (r.d ≤ length parents)
  pub fronts : rest parents r.a ++ (rest parents r.b ++ (rest parents r.c ++ rest parents r.d))
      ≡ flat_map (kids indices parents) (take 4 (pending_of parents t top))
  pub written : out' ≡ sets out at (padded (pair_at indices parents) 4 (pending_of parents t top))

-- one layer left, and its children stand in front of the rest
pub record Layered (indices parents t : List ℕ) (top : ℕ) (out : List ℕ) (at r : ℕ) (t'' out' : List ℕ) : Type 0 where
  pub pile : PileTable indices parents t'' r
  pub most : r ≤ top + 4
  pub left : pending_of parents t'' r
      ≡ flat_map (kids indices parents) (take 4 (pending_of parents t top)) ++ drop 4 (pending_of parents t top)
  pub written : out' ≡ sets out at (padded (pair_at indices parents) 4 (pending_of parents t top))

-- the child entries of the layers that a pending list gives, at most k of them
unfoldable pub entries : List ℕ → List ℕ → ℕ → List ℕ → List ℕ
entries indices parents k pending = flat_map (padded (pair_at indices parents) 4) (layers (kids indices parents) k pending)

-- the entries stand in the table, and their number is the answer
pub record Listing (rows : List ℕ) (r : ℕ) (out out' : List ℕ) : Type 0 where
  pub count : r ≡ length rows
  pub room : length rows ≤ length out
  pub table : out' ≡ laid rows (length out)
