-- The laws of the bytes of a half from a legal cursor on (docs/FORMAT.md, "Finding bytes"). Assumes nothing.
use mathlib.Core.Path.{◌≡◌, refl, sym, ap}
use mathlib.Core.List.{List}
use Prim.Native.Nat.{ℕ}
use native.Mathlib.Omega.{arith}
use lib.ListN.{drop}
use Rattle.format.specs.Result.{Res, refused, done, ◌>>=◌}
use Rattle.format.specs.Section.{Section, Spot, cursor}
use Rattle.blocks.specs.Places.{rest}

-- a cursor is legal where they are given, and else refused the same
pub rest-legal : (s : Section) (va : ℕ) (b : List ℕ) → done b ≡ rest s va → (p : Spot) × (cursor s va ≡ done p)
unfolding rest
rest-legal s va b e = by (cursor s va) refl e
  where
    by : (r : Res Spot) → cursor s va ≡ r → done b ≡ (r >>= λ p. done (drop p.offset p.half)) → (p : Spot) × (cursor s va ≡ done p)
    by (refused c) i d = let z : ◌≡◌ {A = ℕ} 0 1 = cc in absurd (omega arith)
    by (done p) i d = (p, i)

pub rest-refused : (s : Section) (va c : ℕ) → refused c ≡ rest s va → cursor s va ≡ refused c
unfolding rest
rest-refused s va c e = by (cursor s va) e
  where
    by : (r : Res Spot) → refused c ≡ (r >>= λ p. done (drop p.offset p.half)) → r ≡ refused c
    by (refused d) i = let k : c ≡ d = cc in ap refused (sym k)
    by (done p) i = let z : ◌≡◌ {A = ℕ} 0 1 = cc in absurd (omega arith)
