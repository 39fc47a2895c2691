-- Reading and the room lent for it: tables that hold the rows which a section reads to give just those rows, smaller ones refusal 1;
-- the pool has one row for each distinct address (docs/FORMAT.md, "Finding bytes"). Assumes nothing.
use mathlib.Core.Path.{◌≡◌}
use mathlib.Core.Logic.{inl, inr}
use Prim.Native.Nat.{ℕ}
use native.Mathlib.Omega.{arith}
use Rattle.std.specs.Prelude.{Option, Some}
use Rattle.format.specs.Result.{refused, done}
use Rattle.format.specs.Section.{Section}
use Rattle.format.specs.Tables.{SkeletonRow, Tables, no_rows, Room}
use Rattle.format.specs.Read.{read_skeleton}
use Rattle.promises.specs.Meaning.{ReadsTo, Holds}
use Rattle.promises.proofs.RoomSteps.{Gives}
use Rattle.promises.proofs.RoomStores.{Distinct, addresses, Held}
use Rattle.promises.proofs.RoomReading.{skeleton_steady}

module _ (sec : Section) (root : ℕ) (s : SkeletonRow) (t : Tables) (h : ReadsTo sec root s t) where
  -- every room either holds the rows and gives them, or does not and gives refusal 1
  in_every_room : (room : Room) → Gives (Held t room) (read_skeleton sec room root no_rows) (Some s, t)
  in_every_room room =
      let a = (skeleton_steady sec h.room root no_rows).asks (Some s, t) h.gives in
      a.gives room (record { holds = omega arith; distinct = tt })

  -- A room in which reading goes through holds these rows and gives them: a section reads to one skeleton and one set of rows.
  pub reads_held :
      (room : Room) (x : Option SkeletonRow × Tables) → read_skeleton sec room root no_rows ≡ done x → Held t room × ((Some s, t) ≡ x)
  reads_held room x e = go (in_every_room room)
    where
      go : Gives (Held t room) (read_skeleton sec room root no_rows) (Some s, t) → Held t room × ((Some s, t) ≡ x)
      go (inl (k, e')) = (k, cc)
      go (inr (n, e')) = let z : ◌≡◌ {A = ℕ} 0 1 = cc in absurd (omega arith)

  -- "one pool row per distinct address pooled": no two rows of the pool are at one address
  pub pool_distinct : Distinct (addresses t.pool)
  pool_distinct = (reads_held h.room (Some s, t) h.gives).0.distinct

  -- the field `room` of Theorems
  pub room_decides :
      (room : Room) →
      (Holds room t → read_skeleton sec room root no_rows ≡ done (Some s, t)) ×
      ((Holds room t → ⊥) → read_skeleton sec room root no_rows ≡ refused 1)
  room_decides room = go (in_every_room room)
    where
      go :
          Gives (Held t room) (read_skeleton sec room root no_rows) (Some s, t) →
          (Holds room t → read_skeleton sec room root no_rows ≡ done (Some s, t)) ×
          ((Holds room t → ⊥) → read_skeleton sec room root no_rows ≡ refused 1)
      go (inl (k, e)) = (λ fits. e, λ short. absurd (short k.holds))
      go (inr (n, e)) = (λ fits. absurd (n (record { holds = fits; distinct = pool_distinct })), λ short. e)
