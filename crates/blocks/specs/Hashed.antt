-- The pool in a lent table: a row near its address's home, or in a tree that goes by the address's bits. What `Represents` says is for
-- the laws of this crate; callers carry it along. Definitions only.
use Rattle.std.specs.Prelude.{ℕ, zero, suc, ◌+◌, ◌*◌, ◌/◌, ◌%◌, ◌-◌, ◌≤◌, ◌<◌, ◌≡◌, Bool, true, false, cond, List, ltb, eqb, length, get_or, set}
use Rattle.std.specs.Prelude.{Option, None, Some}
use Rattle.format.specs.Tables.{rows, Pooled, pooled, find}
use Rattle.blocks.specs.Kinds.{kind_from, kind_code}
use Rattle.blocks.specs.Tree.{kind_in, link_in, with_kind, with_link, linkable, side_at, path_at, EndsBehind}
use Rattle.blocks.specs.declared.tree.Side.{Side}
use Rattle.blocks.specs.declared.tree.Side.TheVariants.{Left, Right}
use Rattle.blocks.specs.declared.tree.Ended.{Ended}
use Rattle.blocks.specs.declared.tree.Ended.TheVariants.{At, Behind}
use Rattle.blocks.specs.declared.pool.Spot.{Spot}
use Rattle.blocks.specs.declared.pool.Spot.TheVariants.{Row, Tree, Full}

-- ---- the rows of a table

abbrev pub pool_rows : List ℕ → ℕ
pool_rows t = length t / 4

-- a row's code word
abbrev pub code_at : List ℕ → ℕ → ℕ
code_at t i = get_or t (4 * i + 1) 0

-- by a row's code and its address: 0 for a free row, else the address and one
abbrev pub key_of : ℕ → ℕ → ℕ
key_of zero a = 0
key_of (suc k) a = suc a

unfoldable pub key : List ℕ → ℕ → ℕ
key t i = key_of (kind_in (code_at t i)) (get_or t (4 * i) 0)

-- what stands in a row
unfoldable pub val : List ℕ → ℕ → Pooled
val t i = pooled (get_or t (4 * i) 0) (kind_from (kind_in (code_at t i))) (rows (get_or t (4 * i + 2) 0) (get_or t (4 * i + 3) 0))

-- its links, by their sides
unfoldable pub links : List ℕ → ℕ → ℕ → ℕ
links t i s = link_in (code_at t i) s

-- how many of the first n rows are not free
unfoldable pub used : (ℕ → ℕ) → ℕ → ℕ
used key zero = 0
used key (suc n) = cond (eqb (key n) 0) (used key n) (suc (used key n))

-- ---- the search

-- a number spread over 32 bits by the golden ratio, and what that is of n
abbrev pub spread : ℕ → ℕ → ℕ
spread x n = x % 4294967296 * 2654435769 % 4294967296 * n / 4294967296

-- The row at which the search for an address starts, of n: below 8,192 rows it is spread by itself; else it is that of its stretch of 2,048
-- bytes, and 7 rows more for each 16 bytes.
unfoldable pub home_of : ℕ → ℕ → ℕ
home_of a n = cond (ltb n 8192) (spread a n) ((spread (a / 2048) (n % 4294967296) + a % 2048 * 7 / 16) % n)

-- row i is another address's: the search for a goes on
abbrev pub Other : (ℕ → ℕ) → ℕ → ℕ → Type 0
Other key a i = (0 < key i) × (key i ≡ suc a → ⊥)

-- row i is near the home of a, among n rows
abbrev pub IsNear : ℕ → ℕ → ℕ → Type 0
IsNear n a i = (home_of a n ≤ i) × (i < home_of a n + 16)

-- The search for a comes to row j of n, by the rows' keys and links.
pub data Reaches (n : ℕ) (key : ℕ → ℕ) (link : ℕ → ℕ → ℕ) (a j : ℕ) : Type 0 where
  -- near its home
  near : IsNear n a j → ((i : ℕ) → home_of a n ≤ i → i < j → Other key a i) → Reaches n key link a j
  -- in the tree, where no row near its home was free
  along :
      (d : ℕ) → ((i : ℕ) → IsNear n a i → i < n → Other key a i) → path_at link (linkable n) a d ≡ suc j →
      ((e i : ℕ) → e < d → path_at link (linkable n) a e ≡ suc i → Other key a i) → Reaches n key link a j
  -- behind the rows that can be linked, where none of these was free
  beyond :
      ((i : ℕ) → IsNear n a i → i < n → Other key a i) →
      ((e i : ℕ) → path_at link (linkable n) a e ≡ suc i → Other key a i) → ((i : ℕ) → i < linkable n → 0 < key i) →
      ((i : ℕ) → linkable n ≤ i → i < j → Other key a i) → linkable n ≤ j → Reaches n key link a j

-- ---- the invariant, over the rows' keys, links and values as functions of their number

pub record HashHolds (n : ℕ) (key : ℕ → ℕ) (link : ℕ → ℕ → ℕ) (val : ℕ → Pooled) (q : List Pooled) : Type 0 where
  pub reach : (a j : ℕ) → j < n → key j ≡ suc a → Reaches n key link a j
  pub here : (a j : ℕ) → j < n → key j ≡ suc a → find a q ≡ Some (val j)
  pub nowhere : (a : ℕ) → ((j : ℕ) → j < n → key j ≡ suc a → ⊥) → find a q ≡ None
  pub size : length q ≡ used key n
  -- so many rows from the last on are taken, and every path is among them
  pub taken : (i : ℕ) → linkable n ≤ i + link 0 1 → i < linkable n → 0 < key i
  pub led : (a d i : ℕ) → path_at link (linkable n) a d ≡ suc i → linkable n ≤ i + link 0 1
  -- a row of a path holds an address that goes the same way up to it
  pub alike : (a d i b e : ℕ) → path_at link (linkable n) a d ≡ suc i → key i ≡ suc b → e < d → side_at b e ≡ side_at a e
  -- a free row has no links
  pub bare : (i s : ℕ) → s < 2 → 0 < i → i < linkable n → key i ≡ 0 → link i s ≡ 0

-- the table t has n rows and holds the pool q
pub record Represents (t : List ℕ) (n : ℕ) (q : List Pooled) : Type 0 where
  pub size : pool_rows t ≡ n
  pub holds : HashHolds n (key t) (links t) (val t) q

-- ---- what the search promises

-- whether the search for a ends at row i
pub record EndsAt (t : List ℕ) (a i : ℕ) (r : Bool) : Type 0 where
  pub here : r ≡ true → 0 < key t i → key t i ≡ suc a
  pub past : r ≡ false → Other (key t) a i

-- row i is the first of `from` .. `to` that is free or has the address a
pub record FirstAt (t : List ℕ) (a from to i : ℕ) : Type 0 where
  pub low : from ≤ i
  pub high : i < to
  pub passed : (k : ℕ) → from ≤ k → k < i → Other (key t) a k
  pub ends : 0 < key t i → key t i ≡ suc a

abbrev pub Scanned : List ℕ → ℕ → ℕ → ℕ → Option ℕ → Type 0
Scanned t a from to (Some i) = FirstAt t a from to i
Scanned t a from to None = (k : ℕ) → from ≤ k → k < to → Other (key t) a k

-- every row near the home of a is another address's
abbrev pub NearPassed : List ℕ → ℕ → Type 0
NearPassed t a = (i : ℕ) → IsNear (pool_rows t) a i → i < pool_rows t → Other (key t) a i

-- the link to row d of the path of a
abbrev pub path_in : List ℕ → ℕ → ℕ → ℕ
path_in t a d = path_at (links t) (linkable (pool_rows t)) a d

-- the first d rows of the path of a hold other addresses
abbrev pub PathPassed : List ℕ → ℕ → ℕ → Type 0
PathPassed t a d = (e i : ℕ) → e < d → path_in t a e ≡ suc i → get_or t (4 * i) 0 ≡ a → ⊥

pub record PathFound (t : List ℕ) (a i : ℕ) : Type 0 where
  pub depth : ℕ
  pub is : path_in t a depth ≡ suc i
  pub before : PathPassed t a depth
  pub address : get_or t (4 * i) 0 ≡ a

pub record PathLeft (t : List ℕ) (a at s : ℕ) : Type 0 where
  pub depth : ℕ
  pub row : at < pool_rows t
  pub ends : EndsBehind (links t) (linkable (pool_rows t)) a depth at s
  pub before : PathPassed t a depth

-- the left is 0, the right 1
abbrev pub side_number : Side → ℕ
side_number Left = 0
side_number Right = 1

-- what a path's end tells, by its cases
abbrev pub EndOf : List ℕ → ℕ → Ended → Type 0
EndOf t a (At i) = PathFound t a i
EndOf t a (Behind at s) = PathLeft t a at (side_number s)

pub record PathEnds (t : List ℕ) (a : ℕ) (r : Ended) : Type 0 where
  pub end : EndOf t a r

-- r is the highest free row of those that can be linked, of those not known to be taken
pub record FreeAt (t : List ℕ) (r : ℕ) : Type 0 where
  pub low : r < linkable (pool_rows t)
  pub free : key t r ≡ 0
  pub above : (i : ℕ) → r < i → i + links t 0 1 < linkable (pool_rows t) → 0 < key t i

-- none of them is free
abbrev pub NoneFree : List ℕ → Type 0
NoneFree t = (i : ℕ) → i + links t 0 1 < linkable (pool_rows t) → 0 < key t i

abbrev pub FreeFound : List ℕ → Option ℕ → Type 0
FreeFound t (Some r) = FreeAt t r
FreeFound t None = NoneFree t

-- no row of the path of a holds it
abbrev pub PathMissed : List ℕ → ℕ → Type 0
PathMissed t a = (d i : ℕ) → path_in t a d ≡ suc i → get_or t (4 * i) 0 ≡ a → ⊥

-- every row near the home of a is another's, and no row of its path holds it
pub record Missed (t : List ℕ) (a : ℕ) : Type 0 where
  pub near : NearPassed t a
  pub path : PathMissed t a

-- and r tells the first row behind those that can be linked, none of which is free, that is free or holds a
pub record FarPast (t : List ℕ) (a : ℕ) (r : Option ℕ) : Type 0 where
  pub missed : Missed t a
  pub full : NoneFree t
  pub scanned : Scanned t a (linkable (pool_rows t)) (pool_rows t) r

-- The search for a ends at row r.
pub data PlacedIn (t : List ℕ) (a r : ℕ) : Type 0 where
  -- near its home: its own row, or a free one
  near :
      r < pool_rows t → IsNear (pool_rows t) a r → ((i : ℕ) → home_of a (pool_rows t) ≤ i → i < r → Other (key t) a i) →
      (0 < key t r → key t r ≡ suc a) → PlacedIn t a r
  -- its own row in the tree
  along : NearPassed t a → PathFound t a r → PlacedIn t a r
  -- behind the rows that can be linked: its own row, or a free one
  beyond : FarPast t a (Some r) → PlacedIn t a r

-- at no row of its own, and the tree has the free row f for it
pub record Untaken (t : List ℕ) (a f : ℕ) : Type 0 where
  pub free : FreeAt t f
  pub missed : Missed t a

-- where the search for a ends
abbrev pub PlacedAt : List ℕ → ℕ → Spot → Type 0
PlacedAt t a (Row i) = PlacedIn t a i
PlacedAt t a (Tree f) = Untaken t a f
PlacedAt t a Full = FarPast t a None

-- ---- what storing promises

-- the table with row i anew: its links stay
abbrev pub with_row : List ℕ → ℕ → Pooled → List ℕ
with_row t i p =
    set (set (set (set t (4 * i) p.address) (4 * i + 1) (with_kind (code_at t i) (kind_code p.kind))) (4 * i + 2) p.stored.first)
    (4 * i + 3) p.stored.count

-- the table with another link of row i
abbrev pub relinked : List ℕ → ℕ → ℕ → ℕ → List ℕ
relinked t i s l = set t (4 * i + 1) (with_link (code_at t i) s l)

-- the table with a link to row f on a side of row `at`, and with row f and those above it counted as taken
abbrev pub with_links : List ℕ → ℕ → ℕ → ℕ → List ℕ
with_links t f at s = relinked (relinked t at s (f + 1)) 0 1 (linkable (pool_rows t) - f)

-- row f is linked where the path of a ends, unless the path has a row with a
pub record Linked (f a : ℕ) (t₀ t : List ℕ) : Type 0 where
  pub at : ℕ
  pub side : ℕ
  pub ends : PathMissed t₀ a → PathLeft t₀ a at side × (t ≡ with_links t₀ f at side)
