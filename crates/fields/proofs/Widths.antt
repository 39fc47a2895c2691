-- The laws of `Laws` at the three widths of the format, 16, 32 and 64 bits.
-- Assumes nothing.
use mathlib.Core.Path.{◌≡◌}
use mathlib.Core.Logic.{◌⊎◌}
use mathlib.Core.List.{List}
use Prim.Native.Nat.{ℕ, ◌+◌, ◌^◌, ◌%◌, ◌≤◌, ◌<◌}
use lib.ListN.{length, get_or}
use Rattle.format.specs.Field.{field_at, put_at}
use Rattle.fields.proofs.Laws.{load_store, store-load, load_range, store_inj, store_other}

-- ---- a number put reads back

pub load-store_16 : (s : List ℕ) (at v : ℕ) → at + 2 ≤ length s → field_at 2 (put_at 2 s at v) at ≡ v % 2 ^ 16
load-store_16 = load_store 2

pub load-store_32 : (s : List ℕ) (at v : ℕ) → at + 4 ≤ length s → field_at 4 (put_at 4 s at v) at ≡ v % 2 ^ 32
load-store_32 = load_store 4

pub load-store_64 : (s : List ℕ) (at v : ℕ) → at + 8 ≤ length s → field_at 8 (put_at 8 s at v) at ≡ v % 2 ^ 64
load-store_64 = load_store 8

-- ---- what is read and put back changes nothing

module _ (s : List ℕ) (at : ℕ) (small : (i : ℕ) → get_or s i 0 < 256) where
  pub store-load_16 : put_at 2 s at (field_at 2 s at) ≡ s
  store-load_16 = store-load 2 s at small

  pub store-load_32 : put_at 4 s at (field_at 4 s at) ≡ s
  store-load_32 = store-load 4 s at small

  pub store-load_64 : put_at 8 s at (field_at 8 s at) ≡ s
  store-load_64 = store-load 8 s at small

  -- ---- what is read fits

  pub load_range_16 : field_at 2 s at < 2 ^ 16
  load_range_16 = load_range 2 s at small

  pub load_range_32 : field_at 4 s at < 2 ^ 32
  load_range_32 = load_range 4 s at small

  pub load_range_64 : field_at 8 s at < 2 ^ 64
  load_range_64 = load_range 8 s at small

-- ---- two numbers that fit and leave the same slice are one

module _ (s : List ℕ) (at v w : ℕ) where
  pub store_inj_16 : at + 2 ≤ length s → v < 2 ^ 16 → w < 2 ^ 16 → put_at 2 s at v ≡ put_at 2 s at w → v ≡ w
  store_inj_16 = store_inj 2 s at v w

  pub store_inj_32 : at + 4 ≤ length s → v < 2 ^ 32 → w < 2 ^ 32 → put_at 4 s at v ≡ put_at 4 s at w → v ≡ w
  store_inj_32 = store_inj 4 s at v w

  pub store_inj_64 : at + 8 ≤ length s → v < 2 ^ 64 → w < 2 ^ 64 → put_at 8 s at v ≡ put_at 8 s at w → v ≡ w
  store_inj_64 = store_inj 8 s at v w

-- ---- a field of j bytes that does not overlap the one put reads as before

module _ (s : List ℕ) (at v j b : ℕ) where
  pub store-other_16 : (at + 2 ≤ b) ⊎ (b + j ≤ at) → field_at j (put_at 2 s at v) b ≡ field_at j s b
  store-other_16 = store_other 2 s at v j b

  pub store-other_32 : (at + 4 ≤ b) ⊎ (b + j ≤ at) → field_at j (put_at 4 s at v) b ≡ field_at j s b
  store-other_32 = store_other 4 s at v j b

  pub store-other_64 : (at + 8 ≤ b) ⊎ (b + j ≤ at) → field_at j (put_at 8 s at v) b ≡ field_at j s b
  store-other_64 = store_other 8 s at v j b
