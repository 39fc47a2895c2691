-- Where the pool leads: what reading a list comes to by each way, and where a list lies that is to be copied (docs/FORMAT.md,
-- "Finding bytes"). In order: the two tables of a kind; the four ways; the list to be copied. Assumes nothing.
use mathlib.Core.Path.{◌≡◌, refl, ap, ◌∙◌}
use mathlib.Core.Bool.{Bool, true, false}
use Rattle.std.specs.Prelude.{Option, None, Some}
use Prim.Native.Nat.{ℕ, zero, suc, ◌+◌, ◌≤◌}
use native.Mathlib.Omega.{arith}
use borrow.Author.Tests.{eqb-true, eqb-false}
use lib.Dec.{eqb}
use lib.ListN.{length}
use Rattle.format.specs.Result.{done, ◌>>=◌}
use Rattle.format.specs.Section.{Section}
use Rattle.format.specs.Tables.{ListTable, inverse_table, local_table, parents_table, children_table, table_number, list_kind}
use Rattle.format.specs.Tables.{Kind, skeleton, buckets, entry, block, bone, string, list, same_kind}
use Rattle.format.specs.Tables.{Rows, Pooled, Lists, Tables, Room, words_in, list_at, find, put}
use Rattle.format.specs.Read.{Step, store_list, read_new, given_again, read_over, read_over_kind, list_from, read_list}
use Rattle.read_lists.specs.Lists.{twin, Inside, ListsStand}
use Rattle.blocks.specs.Pool.{meant_rows}
use Rattle.blocks.specs.declared.pool.Stored.{Stored}
use Rattle.read_lists.specs.Pooling.{stored_rows, way_by, way_over, way_of}
use Rattle.read_lists.specs.declared.pooling.Way.{Way}
use Rattle.read_lists.specs.declared.pooling.Way.TheVariants.{Again, Copy, Over, New}

-- ---- the two tables of a kind

-- two tables of one kind are one, or each the other's twin
twin_of : (l o : ListTable) → list_kind o ≡ list_kind l → (table_number l ≡ table_number o → ⊥) → o ≡ twin l
twin_of inverse_table inverse_table k n = absurd (n refl)
twin_of inverse_table local_table k n = refl
twin_of inverse_table parents_table k n = absurd (omega arith)
twin_of inverse_table children_table k n = absurd (omega arith)
twin_of local_table inverse_table k n = refl
twin_of local_table local_table k n = absurd (n refl)
twin_of local_table parents_table k n = absurd (omega arith)
twin_of local_table children_table k n = absurd (omega arith)
twin_of parents_table inverse_table k n = absurd (omega arith)
twin_of parents_table local_table k n = absurd (omega arith)
twin_of parents_table parents_table k n = absurd (n refl)
twin_of parents_table children_table k n = refl
twin_of children_table inverse_table k n = absurd (omega arith)
twin_of children_table local_table k n = absurd (omega arith)
twin_of children_table parents_table k n = refl
twin_of children_table children_table k n = absurd (n refl)

-- ---- the ways

-- a list that was read, as the list that stands
abbrev pub stands : Step Rows → Step (Option Rows)
stands g = g >>= λ x. done (Some x.0, x.1)

-- a list that was read, pooled
abbrev pub pooling : Room → ListTable → ℕ → Step Rows → Step (Option Rows)
pooling room l va g = g >>= λ x. put room va (list l) x.0 x.1 >>= λ t. done (Some x.0, t)

module _ (s : Section) (room : Room) (l : ListTable) (va n : ℕ) (u : Tables) where
  -- what each way comes to
  abbrev pub goes : Way → Step (Option Rows)
  goes (Again x) = done (Some (meant_rows x), u)
  goes (Copy x) = stands (store_list s room l (list_at (twin l) (meant_rows x) u) u)
  goes Over = stands (read_new s room l va n u)
  goes New = pooling room l va (read_new s room l va n u)

  over_goes :
      (o : ListTable) (x : Rows) (b d : Bool) → same_kind (list o) (list l) ≡ b → eqb (table_number l) (table_number o) ≡ d →
      stands (read_over s room b l va n o x u) ≡ goes (way_by b d x)
  unfolding read_over given_again
  over_goes o x true true e d = rw d refl
  over_goes o x true false e d =
      let is : o ≡ twin l = twin_of l o (eqb-true (list_kind o) (list_kind l) e) (eqb-false (table_number l) (table_number o) d) in
      rw d (ap (λ (y : ListTable). stands (store_list s room l (list_at y x u) u)) is)
  over_goes o x false d e f = refl

  kind_goes : (k : Kind) (x : Rows) → stands (read_over_kind s room l va n k x u) ≡ goes (way_over l k x)
  unfolding read_over_kind
  kind_goes (list o) x = over_goes o x (same_kind (list o) (list l)) (eqb (table_number l) (table_number o)) refl refl
  kind_goes skeleton x = refl
  kind_goes buckets x = refl
  kind_goes entry x = refl
  kind_goes block x = refl
  kind_goes bone x = refl
  kind_goes string x = refl

  from_goes : (f : Option Pooled) → list_from s room l va n u f ≡ goes (way_of l f)
  unfolding list_from
  from_goes None = refl
  from_goes (Some p) = kind_goes p.kind p.stored

  pub list_goes : (va ≡ 0 → ⊥) → read_list s room l va n u ≡ goes (way_of l (find va u.pool))
  unfolding read_list
  list_goes z = at va z ∙ from_goes (find va u.pool)
    where
      at : (a : ℕ) → (a ≡ 0 → ⊥) → read_list s room l a n u ≡ list_from s room l a n u (find a u.pool)
      at zero z = absurd (z refl)
      at (suc a) z = refl

-- ---- the list to be copied

-- it lies in the other table
copy_inside :
    (l : ListTable) (t : Lists) {y : Stored} (k : Kind) (x : Rows) → way_over l k x ≡ Copy y → Inside k x t →
    y.first + y.count ≤ length (words_in (twin l) t)
copy_inside l t {y} (list o) x e h = by (same_kind (list o) (list l)) (eqb (table_number l) (table_number o)) refl refl e
  where
    by :
        (b d : Bool) → same_kind (list o) (list l) ≡ b → eqb (table_number l) (table_number o) ≡ d → way_by b d x ≡ Copy y →
        y.first + y.count ≤ length (words_in (twin l) t)
    by true true p q w = let z : ◌≡◌ {A = ℕ} 0 1 = cc in absurd (omega arith)
    by true false p q w =
        let is : o ≡ twin l = twin_of l o (eqb-true (list_kind o) (list_kind l) p) (eqb-false (table_number l) (table_number o) q) in
        let s : stored_rows x ≡ y = cc in
        let a : x.first ≡ y.first = ap (λ (z : Stored). z.first) s in
        let b : x.count ≡ y.count = ap (λ (z : Stored). z.count) s in
        rw (a, b, is) at h
    by false d p q w = let z : ◌≡◌ {A = ℕ} 0 1 = cc in absurd (omega arith)
copy_inside l t skeleton x e h = let z : ◌≡◌ {A = ℕ} 0 1 = cc in absurd (omega arith)
copy_inside l t buckets x e h = let z : ◌≡◌ {A = ℕ} 0 1 = cc in absurd (omega arith)
copy_inside l t entry x e h = let z : ◌≡◌ {A = ℕ} 0 1 = cc in absurd (omega arith)
copy_inside l t block x e h = let z : ◌≡◌ {A = ℕ} 0 1 = cc in absurd (omega arith)
copy_inside l t bone x e h = let z : ◌≡◌ {A = ℕ} 0 1 = cc in absurd (omega arith)
copy_inside l t string x e h = let z : ◌≡◌ {A = ℕ} 0 1 = cc in absurd (omega arith)

pub copy_found :
    (l : ListTable) (va : ℕ) (u : Tables) {y : Stored} → ListsStand u → way_of l (find va u.pool) ≡ Copy y →
    y.first + y.count ≤ length (words_in (twin l) u.lists)
copy_found l va u {y} h e = by (find va u.pool) refl e
  where
    by : (o : Option Pooled) → find va u.pool ≡ o → way_of l o ≡ Copy y → y.first + y.count ≤ length (words_in (twin l) u.lists)
    by None d w = let z : ◌≡◌ {A = ℕ} 0 1 = cc in absurd (omega arith)
    by (Some p) d w = copy_inside l u.lists p.kind p.stored w (h.stand va p d)
