-- A section is its system and its graphics bytes; an address leads into one of the two halves (docs/FORMAT.md, "Finding bytes").
-- Definitions only.
use Rattle.std.specs.Prelude.{ℕ, zero, suc, ◌+◌, ◌/◌, ◌%◌, Bool, true, false, List, [], ◌∷◌, length, take, drop, leb, eqb}
use Rattle.format.specs.Result.{Res, refused, done, ◌>>=◌, need}

pub record Section : Type 0 where
  pub system : List ℕ
  pub graphics : List ℕ

-- where an address leads: the bytes of its half, and how many of them stand before it
pub record Spot : Type 0 where
  pub half : List ℕ
  pub offset : ℕ

-- the lower 28 bits of an address are the offset in its half
abbrev pub window : ℕ
window = 0x1000_0000

-- the offset in the system half, or else in the graphics half, or in neither
abbrev pub in_half : Bool → Bool → Section → ℕ → Res Spot
in_half true g s o = done (record { half = s.system; offset = o })
in_half false true s o = done (record { half = s.graphics; offset = o })
in_half false false s o = refused 10

-- Divided by the window, an address is 5 in the system half and 6 in the graphics half. This tests the upper 32 bits too.
unfoldable pub spot : Section → ℕ → Res Spot
spot s va = in_half (eqb (va / window) 5) (eqb (va / window) 6) s (va % window)

-- a legal cursor: the half's end is one
unfoldable pub cursor : Section → ℕ → Res Spot
cursor s va = do
  p ← spot s va
  u ← need 11 (leb p.offset (length p.half))
  done p

-- The n bytes at an address, all of which must stand. `Cursor` with its check and `slice` both come to this: an address past the
-- end and bytes that run past it give the same number.
unfoldable pub part : Section → ℕ → ℕ → Res (List ℕ)
part s va n = do
  p ← spot s va
  u ← need 11 (leb (p.offset + n) (length p.half))
  done (take n (drop p.offset p.half))

-- an array of n bytes: an empty one is not looked for
unfoldable pub array : Section → ℕ → ℕ → Res (List ℕ)
array s va zero = done []
array s va (suc n) = part s va (suc n)

-- ---- names

-- nothing at a zero byte, else the byte and what follows it
abbrev pub stop_at : Bool → ℕ → List ℕ → List ℕ
stop_at true b bs = []
stop_at false b bs = b ∷ bs

-- the bytes up to a zero byte or the end
unfoldable pub until_zero : List ℕ → List ℕ
until_zero [] = []
until_zero (b ∷ bs) = stop_at (eqb b 0) b (until_zero bs)

-- where a name lies: its address and its length
pub record Place : Type 0 where
  pub address : ℕ
  pub size : ℕ

-- the name at an address: at the half's end it is empty
unfoldable pub name_at : Section → ℕ → Res Place
name_at s va = do
  p ← cursor s va
  done (record { address = va; size = length (until_zero (drop p.offset p.half)) })

-- the bytes found, or none
abbrev pub or_none : Res (List ℕ) → List ℕ
or_none (refused n) = []
or_none (done l) = l

-- the part of the half that holds a name; a place outside both halves gives the empty part
unfoldable pub name_bytes : Section → Place → List ℕ
name_bytes s p = or_none (part s p.address p.size)
