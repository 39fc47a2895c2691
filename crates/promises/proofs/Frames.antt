-- The steps of reading behind the buckets keep the buckets and the entries as they are, and at most as many bones are read as the
-- header says. Assumes nothing.
use mathlib.Core.Path.{◌≡◌, refl, sym, ap, ◌∙◌, subst}
use Prim.Native.Nat.{ℕ, zero, suc, ◌+◌, ◌-◌, ◌*◌, ◌≤◌}
use native.Mathlib.Nat.{le_refl}
use native.Mathlib.Omega.{arith}
use mathlib.Core.Bool.{Bool, true, false}
use Rattle.std.specs.Prelude.{Option, None, Some}
use mathlib.Core.List.{List, [], ◌∷◌, Memᴰ}
use lib.ListN.{length, take, drop, length-take}
use lib.Dec.{eqb, eqb→eq, leb, ltb}
use Rattle.format.specs.Result.{Res, done, need}
use Rattle.format.specs.Field.{words}
use Rattle.format.specs.Section.{Section, Place, cursor, part, array, name_at}
use Rattle.format.specs.Bone.{Bone}
use Rattle.format.specs.Matrices.{bone_at}
use Rattle.format.specs.Tables.{part_length, Room, ListTable, table_number, width, words_per_row, list_room, Kind, kind_number, same_kind}
use Rattle.format.specs.Tables.{skeleton, buckets, entry, block, bone, string, list}
use Rattle.format.specs.Tables.{Rows, rows, Pooled, Tables, add_member, words_in, list_at, find, put, put_over, read_as}
use Rattle.format.specs.Records.{name_field}
use Rattle.format.specs.Read.{keep_columns, name_from, read_name, bone_from, read_bone, read_bones, block_from, read_block, read_bones_at}
use Rattle.format.specs.Read.{store_list, read_new, given_again, read_over, read_over_kind, list_from, read_list}
use Rattle.format.specs.Check.{gather, add_some, bones_read, chains_read}
use Rattle.format.proofs.Results.{gone}
use Rattle.promises.proofs.Pool.{find_mem, as_found, put-gives}

-- ---- what a step leaves

-- the buckets and the entries stay
abbrev pub Kept : Tables → Tables → Type 0
Kept t u = u.chained ≡ t.chained

pub step_value : {A : Type 0} {a b : A} {t u : Tables} → ◌≡◌ {A = Res (A × Tables)} (done (a, t)) (done (b, u)) → a ≡ b
step_value {A} {a} {b} {t} {u} e = let q : ◌≡◌ {A = A × Tables} (a, t) (b, u) = cc in ap (λ (x : A × Tables). x.0) q

pub step_tables : {A : Type 0} {a b : A} {t u : Tables} → ◌≡◌ {A = Res (A × Tables)} (done (a, t)) (done (b, u)) → t ≡ u
step_tables {A} {a} {b} {t} {u} e = let q : ◌≡◌ {A = A × Tables} (a, t) (b, u) = cc in ap (λ (x : A × Tables). x.1) q

step_kept : {A : Type 0} {a b : A} {t u : Tables} → ◌≡◌ {A = Res (A × Tables)} (done (a, t)) (done (b, u)) → Kept t u
step_kept e = ap (λ (x : Tables). x.chained) (sym (step_tables e))

pub put_kept : (room : Room) (q : Pooled) (t u : Tables) (o : Option Pooled) → put_over room q t o ≡ done u → Kept t u
put_kept room q t u o e = ap (λ (x : Tables). x.chained) (put-gives room q t u o e).same

pub columns_kept : (o l : Option Rows) (t : Tables) → Kept t (keep_columns o l t)
columns_kept None l t = refl
columns_kept (Some b) None t = refl
columns_kept (Some b) (Some l) t = refl

-- the chains read depend on the buckets and the entries alone
pub chains-kept : (n : ℕ) (o : Option Rows) (t u : Tables) → Kept t u → chains_read n o u ≡ chains_read n o t
chains-kept n None t u k = refl
chains-kept n (Some s) t u k = rw k

-- how many rows a list has

-- only skeletons, buckets and entries are pooled
abbrev pub Early : List Pooled → Type 0
Early pool = (p : Pooled) → Memᴰ p pool → kind_number p.kind ≤ 3

module _ (sec : Section) (room : Room) where
  -- ---- bones

  name-kept : (va : ℕ) (t u : Tables) (n : Option Place) → read_name sec room va t ≡ done (n, u) → Kept t u
  unfolding read_name name_from
  name-kept zero t u n e = step_kept e
  name-kept (suc a) t u n e = gone (read_as string (suc a) t) _ (n, u) e λ r p e₁. from r e₁
    where
      from : (r : Option Rows) → name_from sec room (suc a) t r ≡ done (n, u) → Kept t u
      from (Some s) e₁ = step_kept e₁
      from None e₁ =
          gone (name_at sec (suc a)) _ (n, u) e₁ λ p q e₂.
          gone (put room (suc a) string (rows p.address p.size) t) _ (n, u) e₂ λ t'' q₂ e₃.
          step_kept e₃ ∙ put_kept room _ t t'' _ q₂

  bone-kept : (va : ℕ) (t u : Tables) (r : ℕ) → read_bone sec room va t ≡ done (r, u) → Kept t u
  unfolding read_bone bone_from
  bone-kept va t u r e = gone (read_as bone va t) _ (r, u) e λ o p e₁. from o e₁
    where
      from : (o : Option Rows) → bone_from sec room va t o ≡ done (r, u) → Kept t u
      from (Some s) e₁ = step_kept e₁
      from None e₁ =
          gone (part sec va 70) _ (r, u) e₁ λ b q₁ e₂.
          gone (read_name sec room (name_field b) t) _ (r, u) e₂ λ n q₂ e₃.
          gone (need 1 (ltb (length n.1.bones) room.bones)) _ (r, u) e₃ λ w q₃ e₄.
          gone (put room va bone (rows (length n.1.bones) 1) n.1) _ (r, u) e₄ λ t'' q₄ e₅.
          step_kept e₅ ∙ put_kept room _ n.1 t'' _ q₄ ∙ name-kept (name_field b) t n.1 n.0 q₂

  bones-kept : (n va : ℕ) (t u : Tables) → read_bones sec room n va t ≡ done u → Kept t u
  unfolding read_bones
  bones-kept zero va t u e = let q : t ≡ u = cc in ap (λ (x : Tables). x.chained) (sym q)
  bones-kept (suc n) va t u e =
      gone (read_bone sec room va t) _ u e λ r q e₁.
      bones-kept n (va + 80) (add_member r.0 r.1) u e₁ ∙ bone-kept va t r.1 r.0 q

  -- ---- the bones block: where no block is pooled yet, its rows are as many as the header says

  block_read :
      (va n : ℕ) (t u : Tables) (o : Option Rows) → Early t.pool → read_block sec room va n t ≡ done (o, u) →
      Kept t u × (part_length o ≤ n)
  unfolding read_block block_from
  block_read zero n t u o h e = (step_kept e, subst (λ x. part_length x ≤ n) (step_value e) (omega arith))
  block_read (suc a) n t u o h e = gone (read_as block (suc a) t) _ (o, u) e λ r p e₁. from r p e₁
    where
      from :
          (r : Option Rows) → read_as block (suc a) t ≡ done r → block_from sec room (suc a) n t r ≡ done (o, u) →
          Kept t u × (part_length o ≤ n)
      from (Some s) p e₁ =
          let f = as_found block (find (suc a) t.pool) s p in
          let k = eqb→eq (kind_number f.0.kind) 4 f.2 in
          absurd (omega (arith, k, h f.0 (find_mem (suc a) t.pool f.0 f.1).0))
      from None p e₁ =
          gone (cursor sec (suc a)) _ (o, u) e₁ λ c q₁ e₂.
          gone (read_bones sec room n (suc a + 16) t) _ (o, u) e₂ λ t'' q₂ e₃.
          gone (put room (suc a) block (rows (length t.members) n) t'') _ (o, u) e₃ λ t''' q₃ e₄. (
            step_kept e₄ ∙ put_kept room _ t'' t''' _ q₃ ∙ bones-kept n (suc a + 16) t t'' q₂,
            subst (λ x. part_length x ≤ n) (step_value e₄) (le_refl n),
          )

  pub bones_read_lem :
      (va n : ℕ) (t u : Tables) (o : Option Rows) → Early t.pool → read_bones_at sec room va n t ≡ done (o, u) →
      Kept t u × (part_length o ≤ n)
  unfolding read_bones_at
  bones_read_lem zero n t u o h e = (step_kept e, subst (λ x. part_length x ≤ n) (step_value e) (omega arith))
  bones_read_lem (suc a) n t u o h e = gone (need 13 (leb 16 (suc a))) _ (o, u) e λ w q e₁. block_read (suc a - 16) n t u o h e₁

  -- ---- plain arrays

  store_kept : (l : ListTable) (w : List ℕ) (t u : Tables) (r : Rows) → store_list sec room l w t ≡ done (r, u) → Kept t u
  unfolding store_list
  store_kept l w t u r e =
      gone (need 1 (leb (length (words_in l t.lists) + length w) (words_per_row l * list_room l room))) _ (r, u) e λ x q e₁. step_kept e₁

  new-kept : (l : ListTable) (va n : ℕ) (t u : Tables) (r : Rows) → read_new sec room l va n t ≡ done (r, u) → Kept t u
  unfolding read_new
  new-kept l va n t u r e =
      gone (array sec va (width l * words_per_row l * n)) _ (r, u) e λ b q e₁.
      store_kept l (words (width l) (words_per_row l * n) b) t u r e₁

  again_kept :
      (b : Bool) (l o : ListTable) (s : Rows) (t u : Tables) (r : Rows) → given_again sec room b l o s t ≡ done (r, u) → Kept t u
  unfolding given_again
  again_kept true l o s t u r e = step_kept e
  again_kept false l o s t u r e = store_kept l (list_at o s t) t u r e

  over_kept :
      (b : Bool) (l : ListTable) (va n : ℕ) (o : ListTable) (s : Rows) (t u : Tables) (r : Rows) →
      read_over sec room b l va n o s t ≡ done (r, u) → Kept t u
  unfolding read_over
  over_kept true l va n o s t u r e = again_kept (eqb (table_number l) (table_number o)) l o s t u r e
  over_kept false l va n o s t u r e = new-kept l va n t u r e

  kind-kept :
      (l : ListTable) (va n : ℕ) (k : Kind) (s : Rows) (t u : Tables) (r : Rows) →
      read_over_kind sec room l va n k s t ≡ done (r, u) →
      Kept t u
  unfolding read_over_kind
  kind-kept l va n (list o) s t u r e = over_kept (same_kind (list o) (list l)) l va n o s t u r e
  kind-kept l va n skeleton s t u r e = new-kept l va n t u r e
  kind-kept l va n buckets s t u r e = new-kept l va n t u r e
  kind-kept l va n entry s t u r e = new-kept l va n t u r e
  kind-kept l va n block s t u r e = new-kept l va n t u r e
  kind-kept l va n bone s t u r e = new-kept l va n t u r e
  kind-kept l va n string s t u r e = new-kept l va n t u r e

  pub list-kept :
      (l : ListTable) (va n : ℕ) (t u : Tables) (o : Option Rows) → read_list sec room l va n t ≡ done (o, u) → Kept t u
  unfolding read_list list_from
  list-kept l zero n t u o e = step_kept e
  list-kept l (suc a) n t u o e = from (find (suc a) t.pool) e
    where
      from : (p : Option Pooled) → list_from sec room l (suc a) n t p ≡ done (o, u) → Kept t u
      from None e₁ =
          gone (read_new sec room l (suc a) n t) _ (o, u) e₁ λ r q₁ e₂.
          gone (put room (suc a) (list l) r.0 r.1) _ (o, u) e₂ λ t'' q₂ e₃.
          step_kept e₃ ∙ put_kept room _ r.1 t'' _ q₂ ∙ new-kept l (suc a) n t r.1 r.0 q₁
      from (Some p) e₁ =
          gone (read_over_kind sec room l (suc a) n p.kind p.stored t) _ (o, u) e₁ λ r q₁ e₂.
          step_kept e₂ ∙ kind-kept l (suc a) n p.kind p.stored t r.1 r.0 q₁

-- ---- how many bones are read

length-gather : (bs : List (Bone Place)) (rs : List ℕ) → length (gather bs rs) ≤ length rs
unfolding gather
length-gather bs [] = omega arith
length-gather bs (r ∷ rs) = go (bone_at bs r) (length-gather bs rs)
  where
    go : (o : Option (Bone Place)) → length (gather bs rs) ≤ length rs → length (add_some o (gather bs rs)) ≤ suc (length rs)
    go None h = omega arith
    go (Some b) h = omega arith

pub length-bones_read : (o : Option Rows) (t : Tables) → length (bones_read o t) ≤ part_length o
length-bones_read None t = omega arith
length-bones_read (Some s) t =
    let rs = drop s.first t.members in
    omega (arith, length-gather t.bones (take s.count rs), length-take s.count rs)
