-- What reading a list promises, over any tables of the format that the lent tables stand for (docs/FORMAT.md, "Finding bytes").
-- Definitions only.
use Rattle.std.specs.Prelude.{ℕ, ◌≡◌, List, length}
use Rattle.std.specs.Prelude.{Option, Result}
use Rattle.format.specs.Result.{Res, refused, done}
use Rattle.format.specs.declared.Refusal.{Refusal}
use Rattle.format.specs.Rows.{laid}
use Rattle.format.specs.Section.{Section}
use Rattle.format.specs.Tables.{ListTable, Rows, Tables, Room, words_in, list_room}
use Rattle.format.specs.Read.{Step, read_list}
use Rattle.blocks.specs.Hashed.{Represents}
use Rattle.read_lists.specs.Lists.{twin, rows_in, meant_listed, ListsStand}
use Rattle.read_lists.specs.declared.List as ours

-- The tables u with their room, as far as they are lent for a list: the list's own table t, of which so many words are used, the
-- other table o of its kind, and the pool's table p.
pub record LentList (l : ListTable) (room : Room) (u : Tables) (used : ℕ) (t o p : List ℕ) : Type 0 where
  pub pool : Represents p room.pool u.pool
  pub size : used ≡ length (words_in l u.lists)
  pub own : t ≡ laid (words_in l u.lists) (length t)
  pub rows : list_room l room ≡ rows_in l t
  pub other : o ≡ laid (words_in (twin l) u.lists) (length o)
  pub lists : ListsStand u

-- what a reading gives of a list: where it stands if it does, and how many words of its table are then used
abbrev pub list_given : ListTable → Step (Option Rows) → Res (Option Rows × ℕ)
list_given l (refused c) = refused c
list_given l (done (s, u)) = done (s, length (words_in l u.lists))

-- the list's own table t, which was t₀, and the pool's table p of n rows, after a reading that left the tables u
pub record HoldsList (l : ListTable) (n : ℕ) (u : Tables) (t₀ t p : List ℕ) : Type 0 where
  pub own : t ≡ laid (words_in l u.lists) (length t₀)
  pub pool : Represents p n u.pool

-- nothing is said of a refusal
abbrev pub ListTableLeft : ListTable → ℕ → Step (Option Rows) → List ℕ → List ℕ → List ℕ → Type 0
ListTableLeft l n (refused c) t₀ t p = Unit {0}
ListTableLeft l n (done (s, u)) t₀ t p = HoldsList l n u t₀ t p

-- the answer r and the tables, where the reading gives g
pub record ListComes (l : ListTable) (n : ℕ) (g : Step (Option Rows)) (used : ℕ) (r : Result (Option ours.List) Refusal) (t₀ t p : List ℕ) :
    Type 0 where
  pub answer : meant_listed used r ≡ list_given l g
  pub tables : ListTableLeft l n g t₀ t p

-- a list of n rows at an address, read into the table t₀ with the pool's table p₀; o is the other table of the kind
pub record ReadsList
    (s : Section) (l : ListTable) (va n used : ℕ) (o : List ℕ) (r : Result (Option ours.List) Refusal) (t₀ t p₀ p : List ℕ) : Type 0 where
  pub reads :
      {room : Room} {u : Tables} → LentList l room u used t₀ o p₀ →
      ListComes l room.pool (read_list s room l va n u) used r t₀ t p
