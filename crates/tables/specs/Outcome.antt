-- What deriving calls answer and leave in their tables (docs/FORMAT.md, "Who can cause a refusal"). Definitions only.
use Rattle.std.specs.Prelude.{ℕ, Bool, List, length, leb}
use Rattle.format.specs.Result.{Res, refused, done, ◌>>=◌, need}
use Rattle.format.specs.Rows.{laid, cleared}

-- n bones derived: 2 where there are too many, then 1 where the tables have no room, then the value
unfoldable pub derived : {A : Type 0} → ℕ → Bool → A → Res A
derived n hold a = do
  u ← need 2 (leb n 65535)
  v ← need 1 hold
  done a

-- whether n bones have few enough bones and room, as a result
abbrev pub room_for : ℕ → Bool → Res (Unit {0})
room_for n hold = derived n hold tt

-- what a table of n words holds: its rows and zeros behind them; after a refusal zeros alone
abbrev pub leaves : {A : Type 0} → Res A → List ℕ → ℕ → List ℕ
leaves (refused c) rows n = cleared n
leaves (done a) rows n = laid rows n

-- how many bytes are written
abbrev pub size_of : Res (List ℕ) → Res ℕ
size_of (refused c) = refused c
size_of (done b) = done (length b)
