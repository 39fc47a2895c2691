-- A section as it is lent, and what its methods give as the definitions have it (docs/FORMAT.md, "Finding bytes"). Definitions only.
use Rattle.std.specs.Prelude.{ℕ, List, drop}
use Rattle.std.specs.Borrow.{Bor}
use Rattle.format.specs.Result.{Res, done, ◌>>=◌}
use Rattle.format.specs.Section.{Section, Spot, cursor}
use Rattle.blocks.specs.declared.places.Section as Lent

-- the section of two lent halves
abbrev pub section : List ℕ → List ℕ → Section
section sys gfx = record { system = sys; graphics = gfx }

-- the section whose halves are lent
abbrev pub section_of : Lent.Section → Section
section_of s = section s.system.now s.graphics.now

-- the bytes that are lent
abbrev pub lent : Bor (List ℕ) → List ℕ
lent b = b.now

-- the bytes of a half from a legal cursor on
unfoldable pub rest : Section → ℕ → Res (List ℕ)
rest s va = do
  p ← cursor s va
  done (drop p.offset p.half)

-- a half that is lent and an offset in it
abbrev pub spot_at : Bor (List ℕ) × ℕ → Spot
spot_at p = record { half = p.0.now; offset = p.1 }
