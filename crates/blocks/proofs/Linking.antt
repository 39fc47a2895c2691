-- The ways out of `link`. Assumes nothing.
use mathlib.Core.Path.{◌≡◌, subst}
use mathlib.Core.List.{List}
use Prim.Native.Nat.{ℕ, ◌+◌, ◌*◌, ◌-◌, ◌<◌}
use lib.ListN.{get_or, set}
use Rattle.blocks.specs.Tree.{linkable, with_link}
use Rattle.blocks.specs.Hashed.{pool_rows, code_at, side_number, EndOf, PathLeft, PathEnds, Linked, with_links}
use Rattle.blocks.specs.declared.tree.Side.{Side}
use Rattle.blocks.specs.declared.tree.Ended.{Ended}
use Rattle.blocks.specs.declared.tree.Ended.TheVariants.{At, Behind}

-- the two words that it stores
pub links-set :
    (t : List ℕ) (f at s m w v : ℕ) → w ≡ with_link (code_at t at) s (f + 1) → m ≡ linkable (pool_rows t) →
    v ≡ with_link (get_or (set t (4 * at + 1) w) 1 0) 1 (m - f) → set (set t (4 * at + 1) w) 1 v ≡ with_links t f at s
links-set t f at s m w v e h g = rw (g, e, h)

module _ (t : List ℕ) (a f : ℕ) (r : Ended) (p : PathEnds t a r) where
  -- it is not called for an address that has a row
  pub linked-found : (i : ℕ) → r ≡ At i → Linked f a t t
  linked-found i e =
      let g = subst (EndOf t a) e p.end in
      record { at = 0; side = 0; ends = λ m. absurd (m g.depth i g.is g.address) }

  module _ (at : ℕ) (s : Side) (e : r ≡ Behind at s) where
    left : PathLeft t a at (side_number s)
    left = subst (EndOf t a) e p.end

    pub end_row : at < pool_rows t
    end_row = left.row

    pub linked-left : (t'' : List ℕ) → t'' ≡ with_links t f at (side_number s) → Linked f a t t''
    linked-left t'' h = record { at = at; side = side_number s; ends = λ m. (left, h) }
