-- What the pool's functions promise, over the pool that the table holds: whatever pool that is, no code has it (docs/FORMAT.md,
-- "Finding bytes"). Nothing here knows of hashing. Definitions only.
use Rattle.std.specs.Prelude.{ℕ, ◌≡◌, List, [], ◌∷◌, ◌++◌, ltb, length}
use Rattle.std.specs.Prelude.{Option, None, Some, Result, Ok, Err}
use Rattle.std.specs.Option.{option_map}
use Rattle.format.specs.Result.{Res, done, ◌>>=◌, need}
use Rattle.format.specs.Refusal.{outcome_by}
use Rattle.format.specs.declared.Refusal.{Refusal}
use Rattle.format.specs.Tables.{Kind, Rows, rows, Pooled, pooled, find, replace, as_kind}
use Rattle.blocks.specs.Kinds.{meant_kind}
use Rattle.blocks.specs.Hashed.{Represents, PlacedAt}
use Rattle.blocks.specs.declared.pool.Pooled as ours
use Rattle.blocks.specs.declared.pool.Spot.{Spot}
use Rattle.blocks.specs.declared.pool.Stored.{Stored}

-- a row of the pool by its four words
abbrev pub pool_row : ℕ → Kind → ℕ → ℕ → Pooled
pool_row a k f c = pooled a k (rows f c)

-- ---- the answers as the definitions have them

abbrev pub meant_rows : Stored → Rows
meant_rows s = rows s.first s.count

-- the row found at the address a
abbrev pub meant_found : ℕ → Option ours.Pooled → Option Pooled
meant_found a r = option_map (λ (p : ours.Pooled). pooled a (meant_kind p.kind) (meant_rows p.stored)) r

-- where what was read is stored
abbrev pub meant_cached : Result (Option Stored) Refusal → Res (Option Rows)
meant_cached r = outcome_by (option_map meant_rows) r

-- the pool q with the row stored
abbrev pub meant_stored : Result (Unit {0}) Refusal → List Pooled → Res (List Pooled)
meant_stored r q = outcome_by (λ u. q) r

-- ---- entering a row: `put` of the format, of the pool alone, in a table of n rows

abbrev pub enter_over : ℕ → Pooled → List Pooled → Option Pooled → Res (List Pooled)
enter_over n p q (Some o) = done (replace p q)
enter_over n p q None = do
  u ← need 1 (ltb (length q) n)
  done (q ++ (p ∷ []))

abbrev pub enter : ℕ → Pooled → List Pooled → Res (List Pooled)
enter n p q = enter_over n p q (find p.address q)

-- ---- the promises

-- the answer r to what was read at the address a
pub record Finds (t : List ℕ) (a : ℕ) (r : Option ours.Pooled) : Type 0 where
  pub found : {n : ℕ} {q : List Pooled} → Represents t n q → meant_found a r ≡ find a q

-- the answer r to what was read there as the kind k
pub record FindsAs (t : List ℕ) (k : Kind) (a : ℕ) (r : Result (Option Stored) Refusal) : Type 0 where
  pub found : {n : ℕ} {q : List Pooled} → Represents t n q → meant_cached r ≡ as_kind k (find a q)

-- what a store that answers r leaves: a full table is as it was
abbrev pub Left : Result (Unit {0}) Refusal → ℕ → List Pooled → List ℕ → List ℕ → Type 0
Left (Ok u) n q t₀ t = Represents t n q
Left (Err x) n q t₀ t = t ≡ t₀

-- the table t₀ of n rows held the pool q and was to take the row p
pub record Entered (n : ℕ) (p : Pooled) (q : List Pooled) (r : Result (Unit {0}) Refusal) (t₀ t : List ℕ) : Type 0 where
  -- the pool after the store
  pub after : List Pooled
  pub answer : meant_stored r after ≡ enter n p q
  pub table : Left r n after t₀ t

pub record Stores (p : Pooled) (r : Result (Unit {0}) Refusal) (t₀ t : List ℕ) : Type 0 where
  pub entered : {n : ℕ} {q : List Pooled} → Represents t₀ n q → Entered n p q r t₀ t

-- ---- the same where the search for an address ended

pub record FindsAt (t : List ℕ) (i : Spot) (r : Option ours.Pooled) : Type 0 where
  pub at : (a : ℕ) → PlacedAt t a i → Finds t a r

pub record FindsAsAt (t : List ℕ) (k : Kind) (i : Spot) (r : Result (Option Stored) Refusal) : Type 0 where
  pub at : (a : ℕ) → PlacedAt t a i → FindsAs t k a r

pub record StoresAt (i : Spot) (p : Pooled) (r : Result (Unit {0}) Refusal) (t₀ t : List ℕ) : Type 0 where
  pub at : PlacedAt t₀ p.address i → Stores p r t₀ t
