-- The tree of the pool: links beside the kind's code in a word, and the path of an address along them. Sides are 0, the left, and 1.
-- Definitions only.
use Rattle.std.specs.Prelude.{ℕ, zero, suc, ◌+◌, ◌*◌, ◌/◌, ◌%◌, ◌≡◌, cond, leb, ltb, eqb}

-- ---- a code word: the kind's code, 16 × the left link, 2^34 × the right one

abbrev pub kind_in : ℕ → ℕ
kind_in w = w % 16

unfoldable pub link_in : ℕ → ℕ → ℕ
link_in w s = cond (eqb s 0) (w / 16 % 1073741824) (w / 17179869184)

-- the word with another kind, and with another link
abbrev pub with_kind : ℕ → ℕ → ℕ
with_kind w c = w / 16 * 16 + c

unfoldable pub with_link : ℕ → ℕ → ℕ → ℕ
with_link w s l = cond (eqb s 0) (w / 17179869184 * 17179869184 + l * 16 + w % 16) (l * 17179869184 + w % 17179869184)

-- how many of n rows can be linked: a link has 30 bits
unfoldable pub linkable : ℕ → ℕ
linkable n = cond (ltb n 1073741823) n 1073741823

-- ---- the path of an address

-- its bits in the tree's order, the lowest first: the lowest four of the lower 32 come last of these
unfoldable pub turned_of : ℕ → ℕ
turned_of a = a / 4294967296 * 4294967296 + a % 16 * 268435456 + a / 16 % 268435456

unfoldable pub halved : ℕ → ℕ → ℕ
halved x zero = x
halved x (suc d) = halved x d / 2

-- the side to which the path of an address goes on from its row d
abbrev pub side_at : ℕ → ℕ → ℕ
side_at a d = halved (turned_of a) d % 2

-- a link that counts leads below row r
unfoldable pub below : ℕ → ℕ → ℕ
below r l = cond (leb l r) l 0

-- by the link to a row, the link from there
unfoldable pub onward : (ℕ → ℕ → ℕ) → ℕ → ℕ → ℕ
onward link zero s = 0
onward link (suc r) s = below r (link r s)

-- The link to row d of the path, 0 behind its end: by each row's links (row, then side), of which the first m can be in the tree. The left
-- link of row 0 leads to the first row of every path.
unfoldable pub path_at : (ℕ → ℕ → ℕ) → ℕ → ℕ → ℕ → ℕ
path_at link m a zero = below m (link 0 0)
path_at link m a (suc d) = onward link (path_at link m a d) (side_at a d)

-- The path of a has d rows, the last of them `at`, whose link on side s is none; or it has no row, and the tree's own link, the left one
-- of row 0, is none.
abbrev pub EndsBehind : (ℕ → ℕ → ℕ) → ℕ → ℕ → ℕ → ℕ → ℕ → Type 0
EndsBehind link m a zero at s = (at ≡ 0) × (s ≡ 0) × (path_at link m a 0 ≡ 0)
EndsBehind link m a (suc d) at s = (path_at link m a d ≡ suc at) × (s ≡ side_at a d) × (path_at link m a (suc d) ≡ 0)
