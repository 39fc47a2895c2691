-- What reading a list alters: words more in its own table, and the pool; every list that the pool gives stands as before. For the
-- calls that read one part after another. Assumes nothing.
use mathlib.Core.Path.{◌≡◌, sym, ap, subst, ◌∙◌}
use Rattle.std.specs.Prelude.{Option}
use mathlib.Core.List.{List, [], append-nil}
use Prim.Native.Nat.{ℕ, zero, suc, ◌+◌, ◌*◌}
use native.Mathlib.Omega.{arith}
use lib.Dec.{leb}
use lib.ListN.{length, length-append}
use Rattle.format.specs.Result.{Res, done, need}
use Rattle.format.specs.Field.{words}
use Rattle.format.specs.Section.{Section, array}
use Rattle.format.specs.Tables.{ListTable, inverse_table, local_table, parents_table, children_table, width, words_per_row, list}
use Rattle.format.specs.Tables.{Rows, rows, Pooled, pooled, Lists, Tables, tables, Room, list_room, with_pool}
use Rattle.format.specs.Tables.{words_in, longer, add_words, list_at, find, put}
use Rattle.format.specs.Read.{store_list, read_new, read_list}
use Rattle.format.proofs.Results.{gone}
use Rattle.blocks.specs.Pool.{enter, meant_rows}
use Rattle.blocks.proofs.Entering.{put-enter}
use Rattle.read_lists.specs.Lists.{twin, Inside, ListsStand}
use Rattle.read_lists.specs.Pooling.{way_of}
use Rattle.read_lists.specs.declared.pooling.Way.{Way}
use Rattle.read_lists.specs.declared.pooling.Way.TheVariants.{Again, Copy, Over, New}
use Rattle.read_lists.proofs.Standing.{words_in-longer, lists-stand-longer, lists-stand-put}
use Rattle.read_lists.proofs.Leading.{goes, list_goes}

-- no words added is no change
longer-none : (l : ListTable) (t : Lists) → longer l [] t ≡ t
longer-none inverse_table t = λ i.
    record { inverse = append-nil t.inverse i; local = t.local; parents = t.parents; children = t.children }
longer-none local_table t = λ i.
    record { inverse = t.inverse; local = append-nil t.local i; parents = t.parents; children = t.children }
longer-none parents_table t = λ i.
    record { inverse = t.inverse; local = t.local; parents = append-nil t.parents i; children = t.children }
longer-none children_table t = λ i.
    record { inverse = t.inverse; local = t.local; parents = t.parents; children = append-nil t.children i }

-- some words more in the table of the list, and the pool `after`; all else is as it was
pub record Framed (l : ListTable) (t u : Tables) : Type 0 where
  pub words : List ℕ
  pub after : List Pooled
  pub is : u ≡ tables t.chained t.bones t.members (longer l words t.lists) t.skeletons after
  pub lists : ListsStand t → ListsStand u

framed_none : (l : ListTable) (t : Tables) → Framed l t t
framed_none l t =
    record {
      words = [];
      after = t.pool;
      is = ap (λ (x : Lists). tables t.chained t.bones t.members x t.skeletons t.pool) (sym (longer-none l t.lists));
      lists = λ h. h;
    }

-- ---- words stored

record Added (l : ListTable) (t u : Tables) (r : Rows) : Type 0 where
  more : List ℕ
  where_stored : r ≡ rows (length (words_in l t.lists)) (length more)
  is : u ≡ add_words l more t

added : {l : ListTable} {t u : Tables} {r : Rows} (w : List ℕ) →
    ◌≡◌ {A = Res (Rows × Tables)} (done (rows (length (words_in l t.lists)) (length w), add_words l w t)) (done (r, u)) →
    Added l t u r
added {l} {t} {u} {r} w e =
    let q : ◌≡◌ {A = Rows × Tables} (rows (length (words_in l t.lists)) (length w), add_words l w t) (r, u) = cc in
    record {
      more = w;
      where_stored = sym (ap (λ (x : Rows × Tables). x.0) q);
      is = sym (ap (λ (x : Rows × Tables). x.1) q);
    }

framed_added : {l : ListTable} {t u : Tables} {r : Rows} → Added l t u r → Framed l t u
framed_added {l} {t} {u} a =
    record {
      words = a.more;
      after = t.pool;
      is = a.is;
      lists = λ h. rw a.is (lists-stand-longer l a.more t h);
    }

-- a list that was stored lies in its table
added_inside : {l : ListTable} {t u : Tables} {r : Rows} → Added l t u r → Inside (list l) r u.lists
added_inside {l} {t} {u} {r} a =
    let n = length-append (words_in l t.lists) a.more in
    rw (a.is, a.where_stored, words_in-longer l a.more t.lists) (omega arith)

module _ (s : Section) (room : Room) (l : ListTable) where
  store_adds : (w : List ℕ) (t u : Tables) (r : Rows) → store_list s room l w t ≡ done (r, u) → Added l t u r
  unfolding store_list
  store_adds w t u r e =
      gone (need 1 (leb (length (words_in l t.lists) + length w) (words_per_row l * list_room l room))) _ (r, u) e λ x q e₁. added w e₁

  new_adds : (va n : ℕ) (t u : Tables) (r : Rows) → read_new s room l va n t ≡ done (r, u) → Added l t u r
  unfolding read_new
  new_adds va n t u r e =
      gone (array s va (width l * words_per_row l * n)) _ (r, u) e λ b q e₁. store_adds (words (width l) (words_per_row l * n) b) t u r e₁

-- ---- a list pooled

framed_put :
    (room : Room) (va : ℕ) (l : ListTable) (r : Rows) (t u v : Tables) → put room va (list l) r u ≡ done v →
    Inside (list l) r u.lists → Framed l t u → Framed l t v
framed_put room va l r t u v e i f =
    gone (enter room.pool (pooled va (list l) r) u.pool) _ v (sym (put-enter room (pooled va (list l) r) u) ∙ e) λ q g d.
    let is : with_pool q u ≡ v = cc in
    record {
      words = f.words;
      after = q;
      is = sym is ∙ ap (with_pool q) f.is;
      lists = λ h. lists-stand-put room va (list l) r u v e i (f.lists h);
    }

-- ---- reading a list

module _ (s : Section) (room : Room) (l : ListTable) (va n : ℕ) (t u : Tables) (o : Option Rows) where
  second : {a : Option Rows} {x : Tables} → ◌≡◌ {A = Res (Option Rows × Tables)} (done (a, x)) (done (o, u)) → x ≡ u
  second {a} {x} e =
      let q : ◌≡◌ {A = Option Rows × Tables} (a, x) (o, u) = cc in ap (λ (y : Option Rows × Tables). y.1) q

  way_framed : (w : Way) → goes s room l va n t w ≡ done (o, u) → Framed l t u
  way_framed (Again x) e = subst (Framed l t) (second e) (framed_none l t)
  way_framed (Copy y) e =
      let from = list_at (twin l) (meant_rows y) t in
      gone (store_list s room l from t) _ (o, u) e λ x q e₁.
      subst (Framed l t) (second e₁) (framed_added (store_adds s room l from t x.1 x.0 q))
  way_framed Over e =
      gone (read_new s room l va n t) _ (o, u) e λ x q e₁.
      subst (Framed l t) (second e₁) (framed_added (new_adds s room l va n t x.1 x.0 q))
  way_framed New e =
      gone (read_new s room l va n t) _ (o, u) e λ x q e₁.
      gone (put room va (list l) x.0 x.1) _ (o, u) e₁ λ v q₂ e₂.
      let a = new_adds s room l va n t x.1 x.0 q in
      subst (Framed l t) (second e₂) (framed_put room va l x.0 t x.1 v q₂ (added_inside a) (framed_added a))

-- what a reading of a list that refuses nothing leaves
pub list_framed :
    (s : Section) (room : Room) (l : ListTable) (va n : ℕ) (t u : Tables) (o : Option Rows) →
    read_list s room l va n t ≡ done (o, u) → Framed l t u
unfolding read_list
list_framed s room l zero n t u o e = subst (Framed l t) (second s room l 0 n t u o e) (framed_none l t)
list_framed s room l (suc a) n t u o e =
    let z : suc a ≡ 0 → ⊥ = λ q. omega arith in
    way_framed s room l (suc a) n t u o (way_of l (find (suc a) t.pool)) (sym (list_goes s room l (suc a) n t z) ∙ e)
