-- The steps of reading that read no list leave the words of the list tables as they are and the lists of the pool standing:
-- chains and buckets, names, bones, the bones block, the kept columns. For the call that reads them first. Assumes nothing.
use mathlib.Core.Path.{◌≡◌, refl, sym, ap, subst, ◌∙◌}
use Rattle.std.specs.Prelude.{Option, None, Some}
use mathlib.Core.List.{List, [], ◌∷◌}
use Prim.Native.Nat.{ℕ, zero, suc, ◌+◌, ◌-◌, ◌*◌}
use native.Mathlib.Omega.{arith}
use lib.Dec.{leb, ltb}
use lib.ListN.{length}
use Rattle.format.specs.Result.{Res, done, need}
use Rattle.format.specs.Field.{words}
use Rattle.format.specs.Section.{Section, Place, cursor, part, array, name_at}
use Rattle.format.specs.Tables.{Kind, entry, buckets, block, bone, string, Rows, rows, pooled, Tables, Room, with_pool}
use Rattle.format.specs.Tables.{add_entry, add_bucket, add_bone, add_member, put, read_as}
use Rattle.format.specs.Bone.{Bone}
use Rattle.format.specs.Deriving.{EntryRow, entry_row}
use Rattle.format.specs.Records.{bone_row, name_field, entry_tag, entry_position, entry_next}
use Rattle.format.specs.Read.{link_to, chain_from, read_chain, head_from, read_head, read_buckets, buckets_from, read_bucket_array}
use Rattle.format.specs.Read.{name_from, read_name, bone_from, read_bone, read_bones, block_from, read_block, read_bones_at, keep_columns}
use Rattle.format.proofs.Results.{gone}
use Rattle.blocks.specs.Pool.{enter}
use Rattle.blocks.proofs.Entering.{put-enter}
use Rattle.read_lists.specs.Lists.{Inside, ListsStand}
use Rattle.read_lists.proofs.Standing.{lists-stand-put}

pub record Spared (t u : Tables) : Type 0 where
  pub words : u.lists ≡ t.lists
  pub lists : ListsStand t → ListsStand u

spared_none : (t : Tables) → Spared t t
spared_none t = record { words = refl; lists = λ h. h }

-- rows of other tables
spared_bucket : (k : ℕ) (t : Tables) → Spared t (add_bucket k t)
spared_bucket k t = record { words = refl; lists = λ h. record { stand = h.stand } }

spared_entry : (e : EntryRow) (t : Tables) → Spared t (add_entry e t)
spared_entry e t = record { words = refl; lists = λ h. record { stand = h.stand } }

spared_bone : (b : Bone Place) (t : Tables) → Spared t (add_bone b t)
spared_bone b t = record { words = refl; lists = λ h. record { stand = h.stand } }

spared_member : (r : ℕ) (t : Tables) → Spared t (add_member r t)
spared_member r t = record { words = refl; lists = λ h. record { stand = h.stand } }

then : {t u v : Tables} → Spared t u → Spared u v → Spared t v
then a b = record { words = b.words ∙ a.words; lists = λ h. b.lists (a.lists h) }

-- what is no list may be pooled
spared_put :
    (room : Room) (va : ℕ) (k : Kind) (r : Rows) (t u : Tables) → Inside k r t.lists → put room va k r t ≡ done u → Spared t u
spared_put room va k r t u i e =
    gone (enter room.pool (pooled va k r) t.pool) _ u (sym (put-enter room (pooled va k r) t) ∙ e) λ q f g.
    let is : with_pool q t ≡ u = cc in
    record { words = ap (λ (x : Tables). x.lists) (sym is); lists = lists-stand-put room va k r t u e i }

-- the tables of a step that is done
step_tables : {A : Type 0} {a b : A} {t u : Tables} → ◌≡◌ {A = Res (A × Tables)} (done (a, t)) (done (b, u)) → t ≡ u
step_tables {A} {a} {b} {t} {u} e = let q : ◌≡◌ {A = A × Tables} (a, t) (b, u) = cc in ap (λ (x : A × Tables). x.1) q

spared_step : {A : Type 0} {a b : A} {t u : Tables} → ◌≡◌ {A = Res (A × Tables)} (done (a, t)) (done (b, u)) → Spared t u
spared_step {t = t} e = subst (Spared t) (step_tables e) (spared_none t)

pub columns_spared : (o l : Option Rows) (t : Tables) → Spared t (keep_columns o l t)
columns_spared None l t = spared_none t
columns_spared (Some b) None t = spared_none t
columns_spared (Some b) (Some l) t = record { words = refl; lists = λ h. record { stand = h.stand } }

spared_done : {t u v : Tables} → Spared t u → ◌≡◌ {A = Res Tables} (done u) (done v) → Spared t v
spared_done {t} {u} {v} h e = let is : u ≡ v = cc in subst (Spared t) is h

module _ (s : Section) (room : Room) where
  -- ---- chains and buckets

  link_spared :
      (next : ℕ → Tables → Res Tables) (b : List ℕ) (n : ℕ) (t u : Tables) (l : Option ℕ) →
      ((a : ℕ) (v : Tables) → next a v ≡ done u → Spared v u) → chain_from s room next b n t l ≡ done u → Spared t u
  link_spared next b n t u (Some k) h e = spared_done (spared_entry (entry_row (entry_tag b) (entry_position b) k) t) e
  link_spared next b n t u None h e =
      let r = entry_row (entry_tag b) (entry_position b) (suc (suc n)) in
      then (spared_entry r t) (h (entry_next b) (add_entry r t) e)

  chain_spared : (left va : ℕ) (t u : Tables) → read_chain s room left va t ≡ done u → Spared t u
  unfolding read_chain
  chain_spared zero va t u e =
      gone (part s va 16) _ u e λ b p e₁. let z : ◌≡◌ {A = ℕ} 0 1 = cc in absurd (omega arith)
  chain_spared (suc left) va t u e =
      gone (part s va 16) _ u e λ b p e₁.
      gone (put room va entry (rows (length t.chained.entries) 1) t) _ u e₁ λ t'' q e₂.
      gone (link_to (entry_next b) t'') _ u e₂ λ l r e₃.
      then (spared_put room va entry (rows (length t.chained.entries) 1) t t'' tt q)
      (link_spared (λ a v. read_chain s room left a v) b (length t.chained.entries) t'' u l (λ a v. chain_spared left a v u) e₃)

  head_spared : (va k : ℕ) (t u : Tables) → read_head s room va t ≡ done (k, u) → Spared t u
  unfolding read_head head_from
  head_spared va k t u e = gone (link_to va t) _ (k, u) e λ l q e₁. from l e₁
    where
      from : (l : Option ℕ) → head_from s room va t l ≡ done (k, u) → Spared t u
      from (Some n) e₁ = spared_step e₁
      from None e₁ =
          gone (read_chain s room (room.entries - length t.chained.entries) va t) _ (k, u) e₁ λ t'' q e₂.
          then (chain_spared (room.entries - length t.chained.entries) va t t'' q) (spared_step e₂)

  buckets_spared : (ps : List ℕ) (t u : Tables) → read_buckets s room ps t ≡ done u → Spared t u
  unfolding read_buckets
  buckets_spared [] t u e = spared_done (spared_none t) e
  buckets_spared (p ∷ ps) t u e =
      gone (read_head s room p t) _ u e λ x q e₁.
      gone (need 1 (ltb (length x.1.chained.buckets) room.buckets)) _ u e₁ λ y r e₂.
      then (head_spared p x.0 t x.1 q)
      (then (spared_bucket x.0 x.1) (buckets_spared ps (add_bucket x.0 x.1) u e₂))

  pub bucket-array_spared :
      (va n : ℕ) (t u : Tables) (o : Option Rows) → read_bucket_array s room va n t ≡ done (o, u) → Spared t u
  unfolding read_bucket_array buckets_from
  bucket-array_spared zero n t u o e = spared_step e
  bucket-array_spared (suc a) n t u o e = gone (read_as buckets (suc a) t) _ (o, u) e λ r p e₁. from r e₁
    where
      from : (r : Option Rows) → buckets_from s room (suc a) n t r ≡ done (o, u) → Spared t u
      from (Some x) e₁ = spared_step e₁
      from None e₁ =
          gone (array s (suc a) (8 * n)) _ (o, u) e₁ λ b q e₂.
          gone (read_buckets s room (words 8 n b) t) _ (o, u) e₂ λ t'' q₂ e₃.
          gone (put room (suc a) buckets (rows (length t.chained.buckets) n) t'') _ (o, u) e₃ λ t''' q₃ e₄.
          then (buckets_spared (words 8 n b) t t'' q₂)
          (then (spared_put room (suc a) buckets (rows (length t.chained.buckets) n) t'' t''' tt q₃) (spared_step e₄))

  -- ---- names, bones and their block

  name_spared : (va : ℕ) (t u : Tables) (o : Option Place) → read_name s room va t ≡ done (o, u) → Spared t u
  unfolding read_name name_from
  name_spared zero t u o e = spared_step e
  name_spared (suc a) t u o e = gone (read_as string (suc a) t) _ (o, u) e λ r p e₁. from r e₁
    where
      from : (r : Option Rows) → name_from s room (suc a) t r ≡ done (o, u) → Spared t u
      from (Some x) e₁ = spared_step e₁
      from None e₁ =
          gone (name_at s (suc a)) _ (o, u) e₁ λ p q e₂.
          gone (put room (suc a) string (rows p.address p.size) t) _ (o, u) e₂ λ t'' q₂ e₃.
          then (spared_put room (suc a) string (rows p.address p.size) t t'' tt q₂) (spared_step e₃)

  bone_spared : (va k : ℕ) (t u : Tables) → read_bone s room va t ≡ done (k, u) → Spared t u
  unfolding read_bone bone_from
  bone_spared va k t u e = gone (read_as bone va t) _ (k, u) e λ r p e₁. from r e₁
    where
      from : (r : Option Rows) → bone_from s room va t r ≡ done (k, u) → Spared t u
      from (Some x) e₁ = spared_step e₁
      from None e₁ =
          gone (part s va 70) _ (k, u) e₁ λ b q e₂.
          gone (read_name s room (name_field b) t) _ (k, u) e₂ λ x q₂ e₃.
          gone (need 1 (ltb (length x.1.bones) room.bones)) _ (k, u) e₃ λ y q₃ e₄.
          gone (put room va bone (rows (length x.1.bones) 1) x.1) _ (k, u) e₄ λ t'' q₄ e₅.
          then (name_spared (name_field b) t x.1 x.0 q₂)
          (then (spared_put room va bone (rows (length x.1.bones) 1) x.1 t'' tt q₄)
          (then (spared_bone (bone_row b x.0) t'') (spared_step e₅)))

  bones_spared : (n va : ℕ) (t u : Tables) → read_bones s room n va t ≡ done u → Spared t u
  unfolding read_bones
  bones_spared zero va t u e = spared_done (spared_none t) e
  bones_spared (suc n) va t u e =
      gone (read_bone s room va t) _ u e λ x q e₁.
      then (bone_spared va x.0 t x.1 q)
      (then (spared_member x.0 x.1) (bones_spared n (va + 80) (add_member x.0 x.1) u e₁))

  block_spared : (va n : ℕ) (t u : Tables) (o : Option Rows) → read_block s room va n t ≡ done (o, u) → Spared t u
  unfolding read_block block_from
  block_spared zero n t u o e = spared_step e
  block_spared (suc a) n t u o e = gone (read_as block (suc a) t) _ (o, u) e λ r p e₁. from r e₁
    where
      from : (r : Option Rows) → block_from s room (suc a) n t r ≡ done (o, u) → Spared t u
      from (Some x) e₁ = spared_step e₁
      from None e₁ =
          gone (cursor s (suc a)) _ (o, u) e₁ λ c q₁ e₂.
          gone (read_bones s room n (suc a + 16) t) _ (o, u) e₂ λ t'' q₂ e₃.
          gone (put room (suc a) block (rows (length t.members) n) t'') _ (o, u) e₃ λ t''' q₃ e₄.
          then (bones_spared n (suc a + 16) t t'' q₂)
          (then (spared_put room (suc a) block (rows (length t.members) n) t'' t''' tt q₃) (spared_step e₄))

  pub bones_at_spared : (va n : ℕ) (t u : Tables) (o : Option Rows) → read_bones_at s room va n t ≡ done (o, u) → Spared t u
  unfolding read_bones_at
  bones_at_spared zero n t u o e = spared_step e
  bones_at_spared (suc a) n t u o e =
      gone (need 13 (leb 16 (suc a))) _ (o, u) e λ w q e₁. block_spared (suc a - 16) n t u o e₁
