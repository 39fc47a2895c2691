-- The answer of the check as the format has it, and the steps to it: how long the parts read are, what is answered behind an answer,
-- what becomes of the reading's tables. Definitions only.
use Rattle.std.specs.Prelude.{ℕ, Bool}
use Rattle.std.specs.Prelude.{Option, None, Some, Result, Ok, Err}
use Rattle.format.specs.Result.{Res, refused, done, ◌>>=◌, need}
use Rattle.format.specs.declared.Refusal.{Refusal}
use Rattle.read.specs.Lent.{Lent, cleared_all}
use Rattle.read.specs.Parts.{part_rows}
use Rattle.read.specs.declared.Skeleton.{Skeleton}
use Rattle.check_steps.specs.declared.Counts.{Counts}

-- ---- how long each part is; absent and empty are alike

abbrev pub no_counts : Counts
no_counts = record { bones = 0; buckets = 0; inverse = 0; local = 0; parents = 0; children = 0 }

abbrev pub counts_of : Result (Option Skeleton) Refusal → Counts
counts_of (Ok None) = no_counts
counts_of (Err x) = no_counts
counts_of (Ok (Some s)) =
    record {
      bones = part_rows s.bones;
      buckets = part_rows s.buckets;
      inverse = part_rows s.inverse;
      local = part_rows s.local;
      parents = part_rows s.parents;
      children = part_rows s.children;
    }

-- ---- answers

-- what is answered of a reading so far: n bones read, if there is room to derive from them
abbrev pub begun : {A : Type 0} → Res (Option A) → ℕ → Bool → Res (Option ℕ)
begun (refused c) n room = refused c
begun (done None) n room = done None
begun (done (Some s)) n room = do
  u ← need 1 room
  done (Some n)

-- a stage's test goes on from the answer so far: it is made only where there is a number of bones yet
abbrev pub behind : Res (Option ℕ) → (ℕ → Res (Unit {0})) → Res (Option ℕ)
behind (refused c) test = refused c
behind (done None) test = done None
behind (done (Some n)) test = do
  u ← test n
  done (Some n)

-- ---- tables

-- the reading's tables stay after an acceptance, and are cleared else
abbrev pub kept_by : Result (Option ℕ) Refusal → Lent → Lent
kept_by (Ok None) t = cleared_all t
kept_by (Ok (Some n)) t = t
kept_by (Err x) t = cleared_all t
