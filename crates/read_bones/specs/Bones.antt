-- What reading one bone promises: the format's `read_name` and `read_bone`, over whatever bones and pool the lent tables hold.
-- Nothing is said of the tables after a refusal. Definitions only.
use Rattle.std.specs.Prelude.{◌≡◌, ℕ, suc, ◌+◌, ◌<◌, ◌≤◌, List, length}
use Rattle.std.specs.Prelude.{Option, None, Result, Ok, Err}
use Rattle.format.specs.Result.{refused, done}
use Rattle.format.specs.Refusal.{number}
use Rattle.format.specs.declared.Refusal.{Refusal}
use Rattle.format.specs.Field.{field_at}
use Rattle.format.specs.Section as section
use Rattle.format.specs.Section.{Section, part}
use Rattle.format.specs.Bone as format
use Rattle.format.specs.Bone.{Words3, Words4, words3, words4}
use Rattle.format.specs.Tables.{Pooled, Tables, Room, with_pool}
use Rattle.format.specs.Rows.{place_of}
use Rattle.format.specs.Read.{Step, name_from, read_name, bone_from, read_bone}
use Rattle.format.specs.declared.Place.{Place}
use Rattle.blocks.specs.Hashed.{Represents}
use Rattle.read_bones.specs.Lent.{LentBones, leaving, Unread}
use Rattle.read_bones.specs.declared.bone.Row.{Row}

-- ---- fields

abbrev pub words_at3 : List ℕ → ℕ → Words3
words_at3 b at = words3 (field_at 4 b at) (field_at 4 b (at + 4)) (field_at 4 b (at + 8))

abbrev pub words_at4 : List ℕ → Words4
words_at4 b = words4 (field_at 4 b 0) (field_at 4 b 4) (field_at 4 b 8) (field_at 4 b 12)

-- the format's `bone_row` of bytes of any number, with our place of the name
unfoldable pub bone_fields : List ℕ → Place → format.Bone section.Place
bone_fields b n =
    record {
      rotation = words_at4 b;
      translation = words_at3 b 16;
      scale = words_at3 b 32;
      next_sibling = field_at 2 b 48;
      parent = field_at 2 b 50;
      name = place_of n.address n.size;
      flags = field_at 2 b 64;
      index = field_at 2 b 66;
      tag = field_at 2 b 68;
      kept = words4 0 0 0 0;
    }

-- ---- names

-- the step that an answer stands for, with the tables after it
abbrev pub name_step : Result Place Refusal → Tables → Step (Option section.Place)
name_step (Ok p) t = done (place_of p.address p.size, t)
name_step (Err x) t = refused (number x)

pub record PoolLeft (n at : ℕ) (pool : List Pooled) (p : List ℕ) : Type 0 where
  pub held : Represents p n pool
  pub unread : Unread at pool

abbrev pub NameTable : Result Place Refusal → ℕ → ℕ → List Pooled → List ℕ → Type 0
NameTable (Ok x) n at pool p = PoolLeft n at pool p
NameTable (Err x) n at pool p = Unit

-- what the step g leaves of the tables t
pub record NameLeft (g : Step (Option section.Place)) (n : ℕ) (t : Tables) (at : ℕ) (r : Result Place Refusal) (p : List ℕ) : Type 0 where
  -- the pool after it
  pub after : List Pooled
  pub answer : g ≡ name_step r (with_pool after t)
  pub table : NameTable r n at after p

pub record NewName (sec : Section) (va : ℕ) (r : Result Place Refusal) (p₀ p : List ℕ) : Type 0 where
  pub reads : (room : Room) (t : Tables) (at : ℕ) → Represents p₀ room.pool t.pool → Unread at t.pool → 0 < va →
      NameLeft (name_from sec room va t None) room.pool t at r p

pub record ReadsName (sec : Section) (va : ℕ) (r : Result Place Refusal) (p₀ p : List ℕ) : Type 0 where
  pub reads : (room : Room) (t : Tables) (at : ℕ) → Represents p₀ room.pool t.pool → Unread at t.pool →
      NameLeft (read_name sec room va t) room.pool t at r p

-- ---- bones

abbrev pub row_step : Result Row Refusal → Tables → Step ℕ
row_step (Ok r) t = done (r.row, t)
row_step (Err x) t = refused (number x)

-- a bone that was not read before: it has a row of its own, and an address in one of the halves
pub record NewRow (va row : ℕ) (before after : List (format.Bone section.Place)) : Type 0 where
  pub own : row ≡ length before
  pub more : length after ≡ suc (length before)
  pub low : va < 0x7000_0000

pub record RowLeft
    (room : Room) (t : Tables) (at va row used : ℕ) (bones : List (format.Bone section.Place)) (pool : List Pooled)
    (b p : List ℕ) : Type 0
  where
    pub lent : LentBones room bones pool b p
    pub count : used ≡ length bones
    pub new : at ≤ va → NewRow va row t.bones bones
    pub unread : (to : ℕ) → at ≤ to → va < to → Unread to pool

abbrev pub RowTable :
    Result Row Refusal → Room → Tables → ℕ → ℕ → List (format.Bone section.Place) → List Pooled → List ℕ → List ℕ → Type 0
RowTable (Ok r) room t at va bones pool b p = RowLeft room t at va r.row r.used bones pool b p
RowTable (Err x) room t at va bones pool b p = Unit

pub record BoneLeft (g : Step ℕ) (room : Room) (t : Tables) (at va : ℕ) (r : Result Row Refusal) (b p : List ℕ) : Type 0 where
  -- the bones and the pool after it
  pub bones : List (format.Bone section.Place)
  pub pool : List Pooled
  pub answer : g ≡ row_step r (leaving t bones t.members pool)
  pub table : RowTable r room t at va bones pool b p

-- what is known of the tables before
pub record Before (room : Room) (t : Tables) (at used : ℕ) (b p : List ℕ) : Type 0 where
  pub lent : LentBones room t.bones t.pool b p
  pub count : used ≡ length t.bones
  pub unread : Unread at t.pool

pub record BoneFrom (sec : Section) (bytes : List ℕ) (va used : ℕ) (r : Result Row Refusal) (b₀ b p₀ p : List ℕ) : Type 0 where
  pub reads : (room : Room) (t : Tables) (at : ℕ) → Before room t at used b₀ p₀ → part sec va 70 ≡ done bytes →
      BoneLeft (bone_from sec room va t None) room t at va r b p

pub record NewBone (sec : Section) (va used : ℕ) (r : Result Row Refusal) (b₀ b p₀ p : List ℕ) : Type 0 where
  pub reads : (room : Room) (t : Tables) (at : ℕ) → Before room t at used b₀ p₀ →
      BoneLeft (bone_from sec room va t None) room t at va r b p

pub record ReadsBone (sec : Section) (va used : ℕ) (r : Result Row Refusal) (b₀ b p₀ p : List ℕ) : Type 0 where
  pub reads : (room : Room) (t : Tables) (at : ℕ) → Before room t at used b₀ p₀ →
      BoneLeft (read_bone sec room va t) room t at va r b p
