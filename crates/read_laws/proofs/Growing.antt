-- Bones read one behind the other: each takes the next row and fits it, and none is read twice. In order: the bytes of a section;
-- what storing in the pool leaves; a name; a bone; bones one behind the other. Assumes nothing.
use Prim.Native.Nat.{ℕ, zero, suc, ◌+◌, ◌/◌, ◌%◌, ◌<◌}
use native.Mathlib.Nat.{add-zero}
use native.Mathlib.Omega.{arith}
use mathlib.Core.Path.{◌≡◌, refl, sym, ap, subst, ◌∙◌}
use mathlib.Core.Bool.{Bool, true, false}
use Rattle.std.specs.Prelude.{Option, None, Some}
use mathlib.Core.List.{List, [], ◌∷◌, ◌++◌}
use lib.Dec.{leb, ltb, eqb}
use lib.ListN.{length, get_or, take, drop, length-append}
use lib.Seq.{get_or-drop}
use Rattle.format.specs.Result.{Res, done, need}
use Rattle.format.specs.Field.{field}
use Rattle.format.specs.Section.{Section, Spot, Place, window, in_half, spot, cursor, part, name_at}
use Rattle.format.specs.Bone.{Bone}
use Rattle.format.specs.Chains.{up_from}
use Rattle.format.specs.Records.{bone_row, name_field}
use Rattle.format.specs.Tables.{Kind, bone, string}
use Rattle.format.specs.Tables.{Rows, rows, pooled, Tables, Room}
use Rattle.format.specs.Tables.{with_pool, add_bone, add_member, find, put, read_as}
use Rattle.format.specs.Read.{name_from, read_name, bone_from, read_bone, read_bones}
use Rattle.format.proofs.Results.{gone}
use Rattle.format.proofs.Fields.{value_of_lt}
use Rattle.blocks.specs.Pool.{enter}
use Rattle.blocks.proofs.Entering.{put-enter}
use Rattle.promises.proofs.Frames.{step_value, step_tables}
use Rattle.rows.specs.Row.{PlaceFits, FitsRow}
use Rattle.rows.proofs.ReadBack.{AllFit, fit_none, fit-more}
use Rattle.read_bones.specs.Lent.{Passed, Unread, InOrder}
use Rattle.read_bones.proofs.Pools.{found_again, unread_later, unread-enter}
use Rattle.read_bones.proofs.Stretches.{up_from-append}
use Rattle.read_laws.specs.Bytes.{Bytes8, SectionBytes}

-- a step that is done
pub done-is : {A : Type 0} {a b : A} → ◌≡◌ {A = Res A} (done a) (done b) → a ≡ b
done-is e = cc

-- ---- the bytes of a section

pub take-bytes : (n : ℕ) (l : List ℕ) → Bytes8 l → Bytes8 (take n l)
take-bytes zero l h i = omega arith
take-bytes (suc n) [] h i = omega arith
take-bytes (suc n) (x ∷ l) h zero = h 0
take-bytes (suc n) (x ∷ l) h (suc i) = take-bytes n l (λ j. h (suc j)) i

module _ (sec : Section) (bytes : SectionBytes sec) where
  half-bytes : (va : ℕ) (p : Spot) → spot sec va ≡ done p → Bytes8 p.half
  unfolding spot
  half-bytes va p e i = by (eqb (va / window) 5) (eqb (va / window) 6) e
    where
      by : (x y : Bool) → in_half x y sec (va % window) ≡ done p → get_or p.half i 0 < 256
      by true y d =
          let q : record { half = sec.system; offset = va % window } ≡ p = cc in
          subst (λ (s : Spot). get_or s.half i 0 < 256) q (bytes.0 i)
      by false true d =
          let q : record { half = sec.graphics; offset = va % window } ≡ p = cc in
          subst (λ (s : Spot). get_or s.half i 0 < 256) q (bytes.1 i)
      by false false d = let z : ◌≡◌ {A = ℕ} 0 1 = cc in absurd (omega arith)

  pub part_bytes : (va n : ℕ) (b : List ℕ) → part sec va n ≡ done b → Bytes8 b
  unfolding part
  part_bytes va n b e i =
      gone (spot sec va) _ b e λ p q e₁.
      gone (need 11 (leb (p.offset + n) (length p.half))) _ b e₁ λ u r e₂.
      let s : take n (drop p.offset p.half) ≡ b = cc in
      subst (λ (l : List ℕ). get_or l i 0 < 256) s
      (take-bytes n (drop p.offset p.half) (λ j. rw get_or-drop (half-bytes va p q (p.offset + j))) i)

-- two bytes of them are a number of 16 bits
pub field_fits : (b : List ℕ) (at : ℕ) → ((i : ℕ) → get_or b i 0 < 256) → field 2 b at < 65536
field_fits b at h = value_of_lt 2 (drop at b) (λ i. rw get_or-drop (h (at + i)))

-- ---- what storing in the pool leaves

-- the bones and the members are as they were
pub record Kept (t u : Tables) : Type 0 where
  pub bones : u.bones ≡ t.bones
  pub members : u.members ≡ t.members

module _ (room : Room) (va : ℕ) (k : Kind) (r : Rows) (t u : Tables) (e : put room va k r t ≡ done u) where
  pub pool-kept : Kept t u
  pool-kept =
      gone (enter room.pool (pooled va k r) t.pool) (λ q. done (with_pool q t)) u (sym (put-enter room (pooled va k r) t) ∙ e)
      λ q f g.
      rw (← done-is g) (record { bones = refl; members = refl })

  pool-unread : (at : ℕ) → Passed at va (pooled va k r) → Unread at t.pool → Unread at u.pool
  pool-unread at h n =
      gone (enter room.pool (pooled va k r) t.pool) (λ q. done (with_pool q t)) u (sym (put-enter room (pooled va k r) t) ∙ e)
      λ q f g.
      rw (← done-is g) (unread-enter room.pool at (pooled va k r) t.pool f h n)

-- ---- a name

record NameRead (at : ℕ) (t : Tables) (n : Option Place) (u : Tables) : Type 0 where
  kept : Kept t u
  unread : Unread at u.pool
  fits : PlaceFits n

-- a name is found where it was looked for
name-address : (sec : Section) (va : ℕ) (p : Place) → name_at sec va ≡ done p → p.address ≡ va
unfolding name_at
name-address sec va p e =
    gone (cursor sec va) _ p e λ s f g.
    let i : _ ≡ p = done-is g in
    ap (λ (x : Place). x.address) (sym i)

module _ (sec : Section) (room : Room) where
  name-read :
      (at va : ℕ) (t u : Tables) (n : Option Place) → Unread at t.pool → read_name sec room va t ≡ done (n, u) → NameRead at t n u
  unfolding read_name name_from
  name-read at zero t u n h e =
      let f : PlaceFits None = tt in
      rw (← step_value e, ← step_tables e)
      (record { kept = record { bones = refl; members = refl }; unread = h; fits = f })
  name-read at (suc a) t u n h e = gone (read_as string (suc a) t) _ (n, u) e λ r p e₁. from r p e₁
    where
      from :
          (r : Option Rows) → read_as string (suc a) t ≡ done r → name_from sec room (suc a) t r ≡ done (n, u) → NameRead at t n u
      from (Some s) p e₁ =
          let f = found_again string (find (suc a) t.pool) s p in
          let low : 0 < f.row.stored.first = (h.each (suc a) f.row f.here).names f.same in
          let pos : 0 < s.first = subst (λ (x : Rows). 0 < x.first) f.stored low in
          rw (← step_value e₁, ← step_tables e₁)
          (record { kept = record { bones = refl; members = refl }; unread = h; fits = λ z. omega (arith, z, pos) })
      from None p e₁ =
          gone (name_at sec (suc a)) _ (n, u) e₁ λ l q₁ e₂.
          gone (put room (suc a) string (rows l.address l.size) t) _ (n, u) e₂ λ t'' q₂ e₃.
          let i = name-address sec (suc a) l q₁ in
          let r = rows l.address l.size in
          rw (← step_value e₃, ← step_tables e₃)
          (record {
            kept = pool-kept room (suc a) string r t t'' q₂;
            unread =
                pool-unread room (suc a) string r t t'' q₂ at
                (record { bones = λ k. absurd (omega arith); names = λ k. omega (arith, i) }) h;
            fits = λ z. omega (arith, z, i);
          })

-- ---- a bone

record BoneRead (va : ℕ) (t : Tables) (r : ℕ) (u : Tables) : Type 0 where
  new : Bone Place
  own : r ≡ length t.bones
  bones : u.bones ≡ t.bones ++ (new ∷ [])
  members : u.members ≡ t.members
  fits : FitsRow new
  unread : Unread (va + 80) u.pool

row_fits : (b : List ℕ) (n : Option Place) → ((i : ℕ) → get_or b i 0 < 256) → PlaceFits n → FitsRow (bone_row b n)
row_fits b n h k = record { sibling = field_fits b 48 h; flags = field_fits b 64 h; tag = field_fits b 68 h; name = k }

module _ (sec : Section) (bytes : SectionBytes sec) (room : Room) where
  bone_read_lem :
      (va : ℕ) (t u : Tables) (r : ℕ) → Unread va t.pool → read_bone sec room va t ≡ done (r, u) → BoneRead va t r u
  unfolding read_bone bone_from
  bone_read_lem va t u r h e = gone (read_as bone va t) _ (r, u) e λ o p e₁. from o p e₁
    where
      from : (o : Option Rows) → read_as bone va t ≡ done o → bone_from sec room va t o ≡ done (r, u) → BoneRead va t r u
      from (Some s) p e₁ =
          let f = found_again bone (find va t.pool) s p in
          absurd (omega (arith, (h.each va f.row f.here).bones f.same))
      from None p e₁ =
          gone (part sec va 70) _ (r, u) e₁ λ b q₁ e₂.
          gone (read_name sec room (name_field b) t) _ (r, u) e₂ λ n q₂ e₃.
          gone (need 1 (ltb (length n.1.bones) room.bones)) _ (r, u) e₃ λ w q₃ e₄.
          gone (put room va bone (rows (length n.1.bones) 1) n.1) _ (r, u) e₄ λ v q₄ e₅.
          let m = name-read sec room va (name_field b) t n.1 n.0 h q₂ in
          let row = rows (length n.1.bones) 1 in
          let l = pool-kept room va bone row n.1 v q₄ in
          let later = pool-unread room va bone row n.1 v q₄ (va + 80)
          (record { bones = λ k. omega arith; names = λ k. absurd (omega arith) })
          (unread_later m.unread (va + 80) (omega arith)) in
          let new : Bone Place = bone_row b n.0 in
          let i : add_bone new v ≡ u = step_tables e₅ in
          record {
            new = new;
            own = sym (step_value e₅) ∙ ap length m.kept.bones;
            bones =
                ap (λ (x : Tables). x.bones) (sym i)
                ∙ ap (λ (x : List (Bone Place)). x ++ (new ∷ [])) (l.bones ∙ m.kept.bones);
            members = ap (λ (x : Tables). x.members) (sym i) ∙ l.members ∙ m.kept.members;
            fits = row_fits b n.0 (part_bytes sec bytes va 70 b q₁) m.fits;
            unread = subst (λ (x : Tables). Unread (va + 80) x.pool) i later;
          }

-- ---- bones one behind the other

fit_snoc : {bs : List (Bone Place)} {b : Bone Place} → AllFit bs → FitsRow b → AllFit (bs ++ (b ∷ []))
fit_snoc fit_none k = fit-more k fit_none
fit_snoc (fit-more h hs) k = fit-more h (fit_snoc hs k)

-- one row more, in order
order_snoc : (ms : List ℕ) (n r : ℕ) → ms ≡ up_from 0 n → r ≡ n → ms ++ (r ∷ []) ≡ up_from 0 (n + 1)
unfolding up_from
order_snoc ms n r e f =
    let k : 0 + n ≡ n = omega arith in
    ap (λ (l : List ℕ). l ++ (r ∷ [])) e ∙ ap (λ (i : ℕ). up_from 0 n ++ (i ∷ [])) (f ∙ sym k) ∙ up_from-append 0 n 1

-- n rows more, all rows in order
pub record Grown (n : ℕ) (t u : Tables) : Type 0 where
  pub order : InOrder u
  pub fits : AllFit u.bones
  pub more : length u.bones ≡ length t.bones + n

module _ (sec : Section) (bytes : SectionBytes sec) (room : Room) where
  pub bones_grown :
      (n va : ℕ) (t u : Tables) → Unread va t.pool → InOrder t → AllFit t.bones → read_bones sec room n va t ≡ done u → Grown n t u
  unfolding read_bones
  bones_grown zero va t u h o f e =
      let i : t ≡ u = cc in
      rw (← i) (record { order = o; fits = f; more = sym (add-zero (length t.bones)) })
  bones_grown (suc n) va t u h o f e =
      gone (read_bone sec room va t) _ u e λ x q e₁.
      let b = bone_read_lem sec bytes room va t x.1 x.0 h q in
      let size : length x.1.bones ≡ length t.bones + 1 = ap length b.bones ∙ length-append t.bones (b.new ∷ []) in
      let v = add_member x.0 x.1 in
      let order : InOrder v =
      order_snoc x.1.members (length t.bones) x.0 (b.members ∙ o) b.own ∙ ap (up_from 0) (sym size) in
      let fits : AllFit x.1.bones = subst AllFit (sym b.bones) (fit_snoc f b.fits) in
      let g = bones_grown n (va + 80) v u b.unread order fits e₁ in
      record { order = g.order; fits = g.fits; more = omega (arith, g.more, size) }
