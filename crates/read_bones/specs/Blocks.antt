-- What reading the bones block promises: the format's `read_bones` and `read_bones_at`, in a single reading (no bone was read before).
-- Nothing is said of the tables after a refusal. Definitions only.
use Rattle.std.specs.Prelude.{◌≡◌, ℕ, ◌+◌, ◌-◌, List, ◌++◌, length, ◌≢◌}
use Rattle.std.specs.Prelude.{Option, None, Some, Result, Ok, Err}
use Rattle.format.specs.Result.{Res, refused, done}
use Rattle.format.specs.Refusal.{number}
use Rattle.format.specs.declared.Refusal.{Refusal}
use Rattle.format.specs.Section.{Section, Place}
use Rattle.format.specs.Bone.{Bone}
use Rattle.format.specs.Chains.{up_from}
use Rattle.format.specs.Tables.{kind_number, block, Rows, Pooled, Tables, Room, find}
use Rattle.format.specs.Read.{Step, read_bones, block_from, read_bones_at}
use Rattle.read_bones.specs.Lent.{LentBones, leaving, InOrder}
use Rattle.read_bones.specs.Bones.{Before}
use Rattle.blocks.specs.Pool.{meant_rows}
use Rattle.read_bones.specs.declared.Block.{Block}

-- ---- bones one behind the other

abbrev pub stretch_step : Result ℕ Refusal → Tables → Res Tables
stretch_step (Ok used) t = done t
stretch_step (Err x) t = refused (number x)

-- n rows were added
pub record Grown
    (room : Room) (t : Tables) (n used : ℕ) (bones : List (Bone Place)) (pool : List Pooled) (b p : List ℕ) : Type 0
  where
    pub lent : LentBones room bones pool b p
    pub count : used ≡ length bones
    pub more : length bones ≡ length t.bones + n

abbrev pub StretchTable : Result ℕ Refusal → Room → Tables → ℕ → List (Bone Place) → List Pooled → List ℕ → List ℕ → Type 0
StretchTable (Ok used) room t n bones pool b p = Grown room t n used bones pool b p
StretchTable (Err x) room t n bones pool b p = Unit

pub record StretchLeft (g : Res Tables) (room : Room) (t : Tables) (n : ℕ) (r : Result ℕ Refusal) (b p : List ℕ) : Type 0 where
  -- the bones and the pool after it
  pub bones : List (Bone Place)
  pub pool : List Pooled
  pub answer : g ≡ stretch_step r (leaving t bones (t.members ++ up_from (length t.bones) n) pool)
  pub table : StretchTable r room t n bones pool b p

pub record ReadsBones (sec : Section) (va n used : ℕ) (r : Result ℕ Refusal) (b₀ b p₀ p : List ℕ) : Type 0 where
  pub reads : (room : Room) (t : Tables) → Before room t va used b₀ p₀ → StretchLeft (read_bones sec room n va t) room t n r b p

-- ---- the block

abbrev pub block_step : Result (Option Block) Refusal → Tables → Step (Option Rows)
block_step (Ok None) t = done (None, t)
block_step (Ok (Some k)) t = done (Some (meant_rows k.stored), t)
block_step (Err x) t = refused (number x)

-- the first of a block's members and their number, where it was not read before: its bones take the next n rows
pub record NewBlockRows (t : Tables) (n first size used : ℕ) : Type 0 where
  pub own : first ≡ length t.bones
  pub all : size ≡ n
  pub more : used ≡ length t.bones + n

pub record BlockStands
    (room : Room) (t : Tables) (va n first size used : ℕ) (bones : List (Bone Place)) (pool : List Pooled) (b p : List ℕ) :
    Type 0
  where
    pub lent : LentBones room bones pool b p
    pub count : used ≡ length bones
    pub new :
        ((x : Pooled) → find va t.pool ≡ Some x → kind_number x.kind ≢ kind_number block) → NewBlockRows t n first size used

abbrev pub BlockTable : Result (Option Block) Refusal → Room → Tables → ℕ → ℕ → List (Bone Place) → List Pooled → List ℕ → List ℕ → Type 0
BlockTable (Ok None) room t va n bones pool b p = LentBones room bones pool b p
BlockTable (Ok (Some k)) room t va n bones pool b p =
    BlockStands room t va n k.stored.first k.stored.count k.used bones pool b p
BlockTable (Err x) room t va n bones pool b p = Unit

-- the step g at the block's address, and what it leaves: members in order, and all else as it was
pub record BlockLeft (g : Step (Option Rows)) (room : Room) (t : Tables) (va n : ℕ) (r : Result (Option Block) Refusal) (b p : List ℕ) : Type 0 where
  -- the bones and the pool after it
  pub bones : List (Bone Place)
  pub pool : List Pooled
  pub answer : g ≡ block_step r (leaving t bones (up_from 0 (length bones)) pool)
  pub table : BlockTable r room t va n bones pool b p

-- a block is always named of one that is yet to be read
abbrev pub named : Result Block Refusal → Result (Option Block) Refusal
named (Ok x) = Ok (Some x)
named (Err x) = Err x

pub record NewBlock (sec : Section) (pointer n used : ℕ) (r : Result Block Refusal) (b₀ b p₀ p : List ℕ) : Type 0 where
  pub reads : (room : Room) (t : Tables) → Before room t pointer used b₀ p₀ → InOrder t →
      BlockLeft (block_from sec room (pointer - 16) n t None) room t (pointer - 16) n (named r) b p

pub record ReadsBlock (sec : Section) (pointer n used : ℕ) (r : Result (Option Block) Refusal) (b₀ b p₀ p : List ℕ) : Type 0 where
  pub reads : (room : Room) (t : Tables) → Before room t pointer used b₀ p₀ → InOrder t →
      BlockLeft (read_bones_at sec room pointer n t) room t (pointer - 16) n r b p
