-- In one reading each part's rows are the first of its table: no part of its kind was read before. In order: the bucket array;
-- lists. Assumes nothing.
use Prim.Native.Nat.{ℕ, zero, suc, ◌+◌, ◌*◌, ◌≤◌}
use native.Mathlib.Omega.{arith}
use mathlib.Core.Path.{◌≡◌, refl, sym, ap, ◌∙◌}
use mathlib.Core.Bool.{Bool, true, false}
use Rattle.std.specs.Prelude.{Option, None, Some}
use mathlib.Core.List.{List, []}
use borrow.Author.Tests.{eqb-true}
use lib.Dec.{eqb, leb}
use lib.ListN.{length, length-append}
use Rattle.format.specs.Result.{Res, done, need}
use Rattle.format.specs.Field.{words}
use Rattle.format.specs.Section.{Section, array}
use Rattle.format.specs.Tables.{ListTable, inverse_table, local_table, parents_table, children_table, table_number, width, words_per_row}
use Rattle.format.specs.Tables.{Kind, skeleton, buckets, entry, block, bone, string, list, same_kind}
use Rattle.format.specs.Tables.{Rows, rows, Pooled, pooled, Lists, Tables, Room, list_room, no_rows, with_pool}
use Rattle.format.specs.Tables.{words_in, add_words, list_at, find, put, as_kind}
use Rattle.format.specs.Read.{read_buckets, buckets_from, read_bucket_array, store_list, read_new, read_list}
use Rattle.format.proofs.Results.{gone}
use Rattle.blocks.specs.Pool.{enter, meant_rows}
use Rattle.blocks.proofs.Entering.{put-enter}
use Rattle.read_lists.specs.Lists.{twin, Inside, ListsStand}
use Rattle.blocks.specs.declared.pool.Stored.{Stored}
use Rattle.read_lists.specs.Pooling.{stored_rows, way_by, way_over, way_of}
use Rattle.read_lists.specs.declared.pooling.Way.{Way}
use Rattle.read_lists.specs.declared.pooling.Way.TheVariants.{Again, Copy, Over, New}
use Rattle.read_lists.proofs.Standing.{words_in-longer}
use Rattle.read_lists.proofs.Leading.{goes, list_goes}

-- ---- a step that is done

step_value : {A : Type 0} {a b : A} {t u : Tables} → ◌≡◌ {A = Res (A × Tables)} (done (a, t)) (done (b, u)) → a ≡ b
step_value {A} {a} {b} {t} {u} e = let q : ◌≡◌ {A = A × Tables} (a, t) (b, u) = cc in ap (λ (x : A × Tables). x.0) q

step_tables : {A : Type 0} {a b : A} {t u : Tables} → ◌≡◌ {A = Res (A × Tables)} (done (a, t)) (done (b, u)) → t ≡ u
step_tables {A} {a} {b} {t} {u} e = let q : ◌≡◌ {A = A × Tables} (a, t) (b, u) = cc in ap (λ (x : A × Tables). x.1) q

some-rows : {r s : Rows} → ◌≡◌ {A = Option Rows} (Some r) (Some s) → r ≡ s
some-rows e = cc

none-some : {A : Type 0} {r : Rows} → ◌≡◌ {A = Option Rows} None (Some r) → A
none-some e = let z : ◌≡◌ {A = ℕ} 0 1 = cc in absurd (omega arith)

-- ---- the bucket array

pub array-first :
    (sec : Section) (room : Room) (va n : ℕ) (s : Rows) (u : Tables) → read_bucket_array sec room va n no_rows ≡ done (Some s, u) →
    s.first ≡ 0
unfolding read_bucket_array buckets_from as_kind find
array-first sec room zero n s u e = none-some (step_value e)
array-first sec room (suc a) n s u e =
    gone (array sec (suc a) (8 * n)) _ (Some s, u) e λ b f e₁.
    gone (read_buckets sec room (words 8 n b) no_rows) _ (Some s, u) e₁ λ v g e₂.
    gone (put room (suc a) buckets (rows 0 n) v) _ (Some s, u) e₂ λ w h e₃.
    ap (λ (x : Rows). x.first) (sym (some-rows (step_value e₃)))

-- ---- lists

-- a list whose rows are the first of its table
pub record First (l : ListTable) (r : Rows) (v : Tables) : Type 0 where
  pub zero : r.first ≡ 0
  pub within : r.count ≤ length (words_in l v.lists)

table_of : (l o : ListTable) → table_number l ≡ table_number o → o ≡ l
table_of inverse_table inverse_table e = refl
table_of inverse_table local_table e = absurd (omega arith)
table_of inverse_table parents_table e = absurd (omega arith)
table_of inverse_table children_table e = absurd (omega arith)
table_of local_table inverse_table e = absurd (omega arith)
table_of local_table local_table e = refl
table_of local_table parents_table e = absurd (omega arith)
table_of local_table children_table e = absurd (omega arith)
table_of parents_table inverse_table e = absurd (omega arith)
table_of parents_table local_table e = absurd (omega arith)
table_of parents_table parents_table e = refl
table_of parents_table children_table e = absurd (omega arith)
table_of children_table inverse_table e = absurd (omega arith)
table_of children_table local_table e = absurd (omega arith)
table_of children_table parents_table e = absurd (omega arith)
table_of children_table children_table e = refl

-- a list given again lies in its own table
again_inside :
    (l : ListTable) (t : Lists) {y : Stored} (k : Kind) (x : Rows) → way_over l k x ≡ Again y → Inside k x t →
    y.first + y.count ≤ length (words_in l t)
again_inside l t {y} (list o) x e h = by (same_kind (list o) (list l)) (eqb (table_number l) (table_number o)) refl e
  where
    by :
        (b d : Bool) → eqb (table_number l) (table_number o) ≡ d → way_by b d x ≡ Again y → y.first + y.count ≤ length (words_in l t)
    by true true q w =
        let is : o ≡ l = table_of l o (eqb-true (table_number l) (table_number o) q) in
        let s : stored_rows x ≡ y = cc in
        let a : x.first ≡ y.first = ap (λ (z : Stored). z.first) s in
        let b : x.count ≡ y.count = ap (λ (z : Stored). z.count) s in
        rw (a, b, is) at h
    by true false q w = let z : ◌≡◌ {A = ℕ} 0 1 = cc in absurd (omega arith)
    by false d q w = let z : ◌≡◌ {A = ℕ} 0 1 = cc in absurd (omega arith)
again_inside l t skeleton x e h = let z : ◌≡◌ {A = ℕ} 0 1 = cc in absurd (omega arith)
again_inside l t buckets x e h = let z : ◌≡◌ {A = ℕ} 0 1 = cc in absurd (omega arith)
again_inside l t entry x e h = let z : ◌≡◌ {A = ℕ} 0 1 = cc in absurd (omega arith)
again_inside l t block x e h = let z : ◌≡◌ {A = ℕ} 0 1 = cc in absurd (omega arith)
again_inside l t bone x e h = let z : ◌≡◌ {A = ℕ} 0 1 = cc in absurd (omega arith)
again_inside l t string x e h = let z : ◌≡◌ {A = ℕ} 0 1 = cc in absurd (omega arith)

again_found :
    (l : ListTable) (va : ℕ) (u : Tables) {y : Stored} → ListsStand u → way_of l (find va u.pool) ≡ Again y →
    y.first + y.count ≤ length (words_in l u.lists)
again_found l va u {y} h e = by (find va u.pool) refl e
  where
    by : (o : Option Pooled) → find va u.pool ≡ o → way_of l o ≡ Again y → y.first + y.count ≤ length (words_in l u.lists)
    by None d w = let z : ◌≡◌ {A = ℕ} 0 1 = cc in absurd (omega arith)
    by (Some p) d w = again_inside l u.lists p.kind p.stored w (h.stand va p d)

module _ (s : Section) (room : Room) (l : ListTable) (u : Tables) (no : words_in l u.lists ≡ []) where
  stored-first : (w : List ℕ) (r : Rows) (v : Tables) → store_list s room l w u ≡ done (r, v) → First l r v
  unfolding store_list
  stored-first w r v e =
      gone (need 1 (leb (length (words_in l u.lists) + length w) (words_per_row l * list_room l room))) _ (r, v) e λ x q e₁.
      let a : rows (length (words_in l u.lists)) (length w) ≡ r = step_value e₁ in
      let b : add_words l w u ≡ v = step_tables e₁ in
      let n = length-append (words_in l u.lists) w in
      record {
        zero = ap (λ (x : Rows). x.first) (sym a) ∙ ap length no;
        within = rw (← a, ← b, words_in-longer l w u.lists) (omega arith);
      }

  new-first : (va n : ℕ) (r : Rows) (v : Tables) → read_new s room l va n u ≡ done (r, v) → First l r v
  unfolding read_new
  new-first va n r v e =
      gone (array s va (width l * words_per_row l * n)) _ (r, v) e λ b q e₁. stored-first (words (width l) (words_per_row l * n) b) r v e₁

  first_as : {a b : Rows} {x v : Tables} → First l a x → Some a ≡ Some b → x ≡ v → First l b v
  first_as {a} {b} {x} {v} f i j = let k : a ≡ b = some-rows i in rw (← k, ← j) f

  -- pooled besides
  first-put : (va : ℕ) (r : Rows) (x v : Tables) → First l r x → put room va (list l) r x ≡ done v → First l r v
  first-put va r x v f e =
      gone (enter room.pool (pooled va (list l) r) x.pool) _ v (sym (put-enter room (pooled va (list l) r) x) ∙ e) λ q g d.
      let is : with_pool q x ≡ v = cc in
      rw (← is) (record { zero = f.zero; within = f.within })

  way_first :
      (va n : ℕ) (r : Rows) (v : Tables) → ListsStand u → (w : Way) → way_of l (find va u.pool) ≡ w →
      goes s room l va n u w ≡ done (Some r, v) → First l r v
  way_first va n r v h (Again x) i e =
      let k : x.first + x.count ≤ 0 = rw (ap length no) at (again_found l va u h i) in
      first_as (record { zero = omega arith; within = omega arith }) (step_value e) (step_tables e)
  way_first va n r v h (Copy y) i e =
      gone (store_list s room l (list_at (twin l) (meant_rows y) u) u) _ (Some r, v) e λ x q e₁.
      first_as (stored-first (list_at (twin l) (meant_rows y) u) x.0 x.1 q) (step_value e₁) (step_tables e₁)
  way_first va n r v h Over i e =
      gone (read_new s room l va n u) _ (Some r, v) e λ x q e₁.
      first_as (new-first va n x.0 x.1 q) (step_value e₁) (step_tables e₁)
  way_first va n r v h New i e =
      gone (read_new s room l va n u) _ (Some r, v) e λ x q e₁.
      gone (put room va (list l) x.0 x.1) _ (Some r, v) e₁ λ y q₂ e₂.
      first_as (first-put va x.0 x.1 y (new-first va n x.0 x.1 q) q₂) (step_value e₂) (step_tables e₂)

  pub list-first : (va n : ℕ) (r : Rows) (v : Tables) → ListsStand u → read_list s room l va n u ≡ done (Some r, v) → First l r v
  unfolding read_list
  list-first zero n r v h e = none-some (step_value e)
  list-first (suc a) n r v h e =
      let z : suc a ≡ 0 → ⊥ = λ q. omega arith in
      way_first (suc a) n r v h (way_of l (find (suc a) u.pool)) refl (sym (list_goes s room l (suc a) n u z) ∙ e)
