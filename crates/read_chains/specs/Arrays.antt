-- What reading buckets promises, over every tables that the lent ones hold (docs/FORMAT.md, "Reading and writing a skeleton"). Of a
-- refusal the number alone is said. Definitions only.
use Rattle.std.specs.Prelude.{ℕ, ◌/◌, ◌≡◌, List, ◌∷◌, length}
use Rattle.std.specs.Prelude.{Option, None, Some, Result, Ok, Err}
use Rattle.format.specs.Result.{Res, refused, done}
use Rattle.format.specs.Refusal.{number}
use Rattle.format.specs.Field.{words}
use Rattle.format.specs.Section.{Section}
use Rattle.format.specs.Tables.{Rows, Tables, Room}
use Rattle.format.specs.Read.{Step, read_buckets, buckets_from, read_bucket_array}
use Rattle.read_chains.specs.Lent.{HoldsChains, Comes}
use Rattle.format.specs.declared.Refusal.{Refusal}
use Rattle.blocks.specs.Pool.{meant_rows}
use Rattle.read_chains.specs.declared.Used.{Used}
use Rattle.read_chains.specs.declared.Buckets.{Buckets}

-- ---- buckets

abbrev pub Bucketed : Room → Res Tables → (Tables → Res Tables) → List ℕ → List ℕ → List ℕ → Result Used Refusal → Type 0
Bucketed room g k b e p (Ok used) = Comes (λ u. HoldsChains room u used.buckets used.entries b e p) g k
Bucketed room g k b e p (Err x) = g ≡ refused (number x)

pub record ReadsBucket (sec : Section) (va row used : ℕ) (r : Result Used Refusal) (b₀ b e₀ e p₀ p : List ℕ) : Type 0 where
  pub reads :
      {room : Room} {t : Tables} → HoldsChains room t row used b₀ e₀ p₀ → (ps : List ℕ) →
      Bucketed room (read_buckets sec room (va ∷ ps) t) (read_buckets sec room ps) b e p r

pub record ReadsPointers
    (sec : Section) (bytes : List ℕ) (used used_entries : ℕ) (r : Result Used Refusal) (b₀ b e₀ e p₀ p : List ℕ) : Type 0
  where
    pub reads :
        {room : Room} {t : Tables} → HoldsChains room t used used_entries b₀ e₀ p₀ →
        Bucketed room (read_buckets sec room (words 8 (length bytes / 8) bytes) t) done b e p r

-- ---- the array

-- the array that the answer names, or none, and how many rows are used then
abbrev pub Arrayed : Room → Step (Option Rows) → ℕ → ℕ → List ℕ → List ℕ → List ℕ → Result (Option Buckets) Refusal → Type 0
Arrayed room g used used_entries b e p (Ok None) =
    Comes (λ u. HoldsChains room u used used_entries b e p) g (λ u. done (None, u))
Arrayed room g used used_entries b e p (Ok (Some x)) =
    Comes (λ u. HoldsChains room u x.used.buckets x.used.entries b e p) g (λ u. done (Some (meant_rows x.stored), u))
Arrayed room g used used_entries b e p (Err x) = g ≡ refused (number x)

-- an array is always named of one that is yet to be read
abbrev pub named : Result Buckets Refusal → Result (Option Buckets) Refusal
named (Ok x) = Ok (Some x)
named (Err x) = Err x

-- an array that is yet to be read
pub record ReadsNewArray (sec : Section) (va count used used_entries : ℕ) (r : Result Buckets Refusal) (b₀ b e₀ e p₀ p : List ℕ) : Type 0 where
  pub reads :
      {room : Room} {t : Tables} → HoldsChains room t used used_entries b₀ e₀ p₀ →
      Arrayed room (buckets_from sec room va count t None) used used_entries b e p (named r)

-- The whole: the lent tables b₀, e₀ and p₀ hold the buckets, the entries and the pool of t, and then b, e and p hold those of the
-- tables that `read_bucket_array` gives.
pub record ReadsBuckets (sec : Section) (va count used used_entries : ℕ) (r : Result (Option Buckets) Refusal) (b₀ b e₀ e p₀ p : List ℕ) : Type 0 where
  pub reads :
      {room : Room} {t : Tables} → HoldsChains room t used used_entries b₀ e₀ p₀ →
      Arrayed room (read_bucket_array sec room va count t) used used_entries b e p r
