-- The laws of the tree in a table: the path of an address as `path` goes along it, and the highest free row. Assumes nothing.
use mathlib.Core.Path.{◌≡◌, refl, sym, ap, ◌∙◌}
use mathlib.Core.List.{List}
use mathlib.Core.Logic.{⊎_elim}
use Prim.Native.Nat.{ℕ, zero, suc, ◌+◌, ◌*◌, ◌/◌, ◌%◌, ◌-◌, ◌<◌, ◌≤◌}
use native.Mathlib.Nat.{eq-or-lt_of_le}
use native.Mathlib.Omega.{arith}
use lib.ListN.{get_or}
use Rattle.blocks.specs.Tree.{link_in, linkable, halved, turned_of, side_at, below, path_at, EndsBehind}
use Rattle.blocks.specs.Hashed.{pool_rows, code_at, key, links, path_in, PathPassed, PathFound, PathLeft, FreeAt, NoneFree}
use Rattle.blocks.proofs.Cases.{le-or-lt}
use Rattle.blocks.proofs.Paths.{linkable_le, below-is, path-next, zero_stays}

-- ---- the loop of `path`

-- where the link to row d of the path of a stands
abbrev pub Standing : List ℕ → ℕ → ℕ → ℕ → ℕ → Type 0
Standing t a zero at s = (at ≡ 0) × (s ≡ 0)
Standing t a (suc d) at s = (path_in t a d ≡ suc at) × (s ≡ side_at a d)

-- The path was followed for so many rows; `next` is the link to the next one, if that is not above row `above`.
pub record Along (t : List ℕ) (a bits side at above next : ℕ) : Type 0 where
  pub depth : ℕ
  pub rest : bits ≡ halved (turned_of a) depth
  pub linked : below above next ≡ path_in t a depth
  pub before : PathPassed t a depth
  pub stands : Standing t a depth at side
  pub low : above ≤ pool_rows t
  pub row : at < pool_rows t

module _ (t : List ℕ) (a : ℕ) where
  pub along-none :
      (b m l : ℕ) → 0 < pool_rows t → b ≡ turned_of a → m ≡ linkable (pool_rows t) → l ≡ link_in (get_or t 1 0) 0 → Along t a b 0 0 m l
  unfolding path_at links halved
  along-none b m l r e f g =
      record {
        depth = 0;
        rest = e;
        linked = rw (f, g);
        before = λ d i o h z. omega arith;
        stands = (refl, refl);
        low = omega (arith, linkable_le (pool_rows t));
        row = r;
      }

  module _ (bits side at above next : ℕ) (p : Along t a bits side at above next) where
    module _ (l : 0 < next) (o : next ≤ above) where
      -- the next row
      next_row : path_in t a p.depth ≡ suc (next - 1)
      next_row = sym p.linked ∙ below-is above next o ∙ omega arith

      pub along-found : get_or t (4 * (next - 1)) 0 ≡ a → PathFound t a (next - 1)
      along-found e = record { depth = p.depth; is = next_row; before = p.before; address = e }

      pub along-more :
          (get_or t (4 * (next - 1)) 0 ≡ a → ⊥) → (s : ℕ) → s ≡ bits % 2 → (x : ℕ) →
          x ≡ link_in (get_or t (4 * (next - 1) + 1) 0) s → Along t a (bits / 2) s (next - 1) (next - 1) x
      unfolding links halved
      along-more n s f x e =
          let side-is : s ≡ side_at a p.depth = f ∙ ap (λ (b : ℕ). b % 2) p.rest in
          record {
            depth = suc p.depth;
            rest = ap (λ (b : ℕ). b / 2) p.rest;
            linked =
                ap (below (next - 1)) (e ∙ ap (link_in (code_at t (next - 1))) side-is)
                ∙ sym (path-next (links t) (linkable (pool_rows t)) a p.depth (next - 1) next_row);
            before =
                λ d i u h z.
                ⊎_elim
                (λ q.
                let g : suc i ≡ suc (next - 1) = sym h ∙ ap (path_in t a) q ∙ next_row in
                let k : i ≡ next - 1 = omega arith in
                n (sym (ap (λ (y : ℕ). get_or t (4 * y) 0) k) ∙ z))
                (λ q. p.before d i q h z)
                (eq-or-lt_of_le {n = d} {m = p.depth} (omega arith));
            stands = (next_row, side-is);
            low = omega (arith, p.low);
            row = omega (arith, p.low);
          }

    left_by : (d : ℕ) → PathPassed t a d → Standing t a d at side → path_in t a d ≡ 0 → PathLeft t a at side
    left_by zero f g z = record { depth = 0; row = p.row; ends = (g.0, g.1, z); before = f }
    left_by (suc d) f g z = record { depth = suc d; row = p.row; ends = (g.0, g.1, z); before = f }

    pub along-left : below above next ≡ 0 → PathLeft t a at side
    along-left z = left_by p.depth p.before p.stands (sym p.linked ∙ z)

  -- where a path ends behind its last row, no row of it has the address
  ends-zero : (at s d : ℕ) → EndsBehind (links t) (linkable (pool_rows t)) a d at s → path_in t a d ≡ 0
  ends-zero at s zero e = e.2
  ends-zero at s (suc d) e = e.2

  pub left-missed : (at s : ℕ) → PathLeft t a at s → (d i : ℕ) → path_in t a d ≡ suc i → get_or t (4 * i) 0 ≡ a → ⊥
  left-missed at s p d i h z =
      ⊎_elim
      (λ l.
      let e : path_in t a d ≡ 0 =
      zero_stays (links t) (linkable (pool_rows t)) a p.depth d l (ends-zero at s p.depth p.ends)
      in
      omega arith)
      (λ l. p.before d i l h z)
      (le-or-lt p.depth d)

-- ---- the loop of `free_row`

-- the rows from i on that are not known to be taken are used
pub record Sought (t : List ℕ) (taken i : ℕ) : Type 0 where
  pub count : taken ≡ links t 0 1
  pub low : i ≤ linkable (pool_rows t) - taken
  pub room : i ≤ pool_rows t
  pub above : (k : ℕ) → i ≤ k → k + taken < linkable (pool_rows t) → 0 < key t k

module _ (t : List ℕ) (taken : ℕ) where
  pub sought_none :
      (m i : ℕ) → m ≡ linkable (pool_rows t) → taken ≡ link_in (get_or t 1 0) 1 → i ≡ m - taken → Sought t taken i
  unfolding links
  sought_none m i e f d =
      record {
        count = f;
        low = omega arith;
        room = omega (arith, linkable_le (pool_rows t));
        above = λ k g h. absurd (omega arith);
      }

  module _ (i : ℕ) (p : Sought t taken i) where
    pub sought_more : 0 < i → 0 < key t (i - 1) → Sought t taken (i - 1)
    sought_more l u =
        record {
          count = p.count;
          low = omega (arith, p.low);
          room = omega (arith, p.room);
          above =
              λ k g h.
              ⊎_elim
              (λ s. let e : 0 < key t k = rw (← s) u in e)
              (λ s. p.above k (omega arith) h)
              (eq-or-lt_of_le {n = i - 1} {m = k} g);
        }

    pub free-found : 0 < i → key t (i - 1) ≡ 0 → FreeAt t (i - 1)
    free-found l z =
        record {
          low = omega (arith, p.low);
          free = z;
          above = λ k g h. p.above k (omega arith) (omega (arith, p.count));
        }

    pub free-nowhere : i ≡ 0 → NoneFree t
    free-nowhere z k g = p.above k (omega arith) (omega (arith, p.count))
