-- What storing words as new rows promises: all or none (docs/FORMAT.md, "Who can cause a refusal"). Definitions only.
use Rattle.std.specs.Prelude.{ℕ, ◌+◌, ◌*◌, ◌≤◌, ◌<◌, ◌≡◌, Bool, true, false, List, leb, length, take, drop}
use Rattle.std.specs.Prelude.{Result, Ok, Err}
use Rattle.std.proofs.lemmas.List.Edits.{sets}
use Rattle.format.specs.Result.{Res, refused, done}
use Rattle.format.specs.Field.{words}
use Rattle.format.specs.Refusal.{outcome}
use Rattle.format.specs.Section.{Section, array}
use Rattle.format.specs.declared.Refusal.{Refusal}
use Rattle.format.specs.declared.Refusal.TheVariants.{TableTooShort}
use Rattle.read_lists.specs.declared.List as ours

-- the answer for m words behind `used` others, by whether they fit
abbrev pub taken_if : Bool → ℕ → ℕ → Result ours.List Refusal
taken_if true used m = Ok (record { stored = record { first = used; count = m }; used = used + m })
taken_if false used m = Err TableTooShort

-- the table then: all of them, or none
abbrev pub Stored : Bool → List ℕ → ℕ → List ℕ → List ℕ → Type 0
Stored true w used t₀ t = t ≡ sets t₀ used w
Stored false w used t₀ t = t ≡ t₀

-- the words w were to be stored behind `used` others, in a room of so many words
pub record Takes (w : List ℕ) (room used : ℕ) (r : Result ours.List Refusal) (t₀ t : List ℕ) : Type 0 where
  pub answer : r ≡ taken_if (leb (used + length w) room) used (length w)
  pub table : Stored (leb (used + length w) room) w used t₀ t

-- words of the table s were to be copied; where they are not there, none is, and the answer is 1
pub record Copies (s : List ℕ) (first count room used : ℕ) (r : Result ours.List Refusal) (t₀ t : List ℕ) : Type 0 where
  pub copied : first + count ≤ length s → Takes (take count (drop first s)) room used r t₀ t
  pub missing : length s < first + count → (r ≡ Err TableTooShort) × (t ≡ t₀)

-- m words of k bytes were to be stored, by the array found
abbrev pub TakesNew : Res (List ℕ) → ℕ → ℕ → ℕ → ℕ → Result ours.List Refusal → List ℕ → List ℕ → Type 0
TakesNew (refused c) k m room used r t₀ t = outcome r ≡ refused c
TakesNew (done b) k m room used r t₀ t = Takes (words k m b) room used r t₀ t

pub record ReadsNewList (s : Section) (va k m room used : ℕ) (r : Result ours.List Refusal) (t₀ t : List ℕ) : Type 0 where
  pub takes : TakesNew (array s va (k * m)) k m room used r t₀ t
