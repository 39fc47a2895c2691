-- What the chains leave to the bones, which are read after them: bones and members are as they were, and nothing but entries
-- and buckets is pooled. So `read_block` finds what it is meant for in a reading from the empty pool. Assumes nothing.
use Rattle.std.proofs.Common.{◌≡◌, ℕ, zero, suc, ◌-◌, ◌*◌, ◌<◌, ◌≤◌, ltb, List, [], ◌∷◌, length, sym, refl, ap, ◌∙◌, ⊎_elim, arith}
use Rattle.std.specs.Prelude.{Option, None, Some}
use Rattle.format.specs.Result.{Res, refused, done}
use Rattle.format.specs.Section.{Section, part, array}
use Rattle.format.specs.Field.{words}
use Rattle.format.specs.Deriving.{entry_row}
use Rattle.format.specs.Tables.{Kind, kind_number, buckets, entry, Rows, rows, Pooled, pooled, Tables, Room, with_pool, find, put}
use Rattle.format.specs.Tables.{add_bucket, add_entry, read_as}
use Rattle.format.specs.Records.{entry_tag, entry_position, entry_next}
use Rattle.format.specs.Read.{link_to, chain_from, read_chain, head_from, read_head, read_buckets, buckets_from, read_bucket_array}
use Rattle.format.proofs.Results.{gone, needed}
use Rattle.blocks.specs.Pool.{enter}
use Rattle.blocks.proofs.Cases.{eq-or-ne}
use Rattle.blocks.proofs.Entering.{find-enter-same, find-enter-other, put-enter}
use Rattle.read_bones.specs.Lent.{Unread}

-- ---- pools

-- the empty pool
pub unread-none : (at : ℕ) → Unread at []
unfolding find
unread-none at = record { each = λ a p e. let z : ◌≡◌ {A = ℕ} 0 1 = cc in absurd (omega arith) }

-- kinds from a block's on: what the pool e has of them, q has too
pub record Kept (q e : List Pooled) : Type 0 where
  pub each : (a : ℕ) (x : Pooled) → find a e ≡ Some x → kind_number entry < kind_number x.kind → find a q ≡ Some x

pub kept-unread : {q e : List Pooled} → Kept q e → (at : ℕ) → Unread at q → Unread at e
kept-unread h at u =
    record {
      each =
          λ a x f.
          record {
            bones = λ k. (u.each a x (h.each a x f (omega arith))).bones k;
            names = λ k. (u.each a x (h.each a x f (omega arith))).names k;
          };
    }

kept-enter :
    (n : ℕ) (p : Pooled) (q : List Pooled) {e : List Pooled} → enter n p q ≡ done e → kind_number p.kind ≤ kind_number entry →
    Kept q e
kept-enter n p q {e} d l =
    record {
      each =
          λ a x f k.
          ⊎_elim
          (λ (w : p.address ≡ a). absurd (other a x f w k))
          (λ (w : p.address ≡ a → ⊥). sym (find-enter-other n p q d a w) ∙ f)
          (eq-or-ne p.address a);
    }
  where
    other : (a : ℕ) (x : Pooled) → find a e ≡ Some x → p.address ≡ a → kind_number entry < kind_number x.kind → ⊥
    other a x f w k =
        let g : Some p ≡ Some x = sym (find-enter-same n p q d) ∙ ap (λ (i : ℕ). find i e) w ∙ f in
        let i : p ≡ x = cc in
        let j : kind_number p.kind ≡ kind_number x.kind = ap (λ (y : Pooled). kind_number y.kind) i in
        omega arith

-- ---- tables

-- the tables t'' are t but for what the chains store
pub record Beside (t t'' : Tables) : Type 0 where
  pub bones : t''.bones ≡ t.bones
  pub members : t''.members ≡ t.members
  pub pool : Kept t.pool t''.pool

kept_self : (q : List Pooled) → Kept q q
kept_self q = record { each = λ a x f k. f }

beside_self : (t : Tables) → Beside t t
beside_self t = record { bones = refl; members = refl; pool = kept_self t.pool }

beside_then : {t u v : Tables} → Beside t u → Beside u v → Beside t v
beside_then h k =
    record {
      bones = k.bones ∙ h.bones;
      members = k.members ∙ h.members;
      pool = record { each = λ a x f l. h.pool.each a x (k.pool.each a x f l) l };
    }

beside_put :
    (room : Room) (va : ℕ) (k : Kind) (r : Rows) (t t'' : Tables) → kind_number k ≤ kind_number entry →
    put room va k r t ≡ done t'' → Beside t t''
beside_put room va k r t t'' l e =
    gone (enter room.pool (pooled va k r) t.pool) (λ q. done (with_pool q t)) t'' (sym (put-enter room (pooled va k r) t) ∙ e)
    λ q f g.
    let i : with_pool q t ≡ t'' = cc in
    rw (← i) (record { bones = refl; members = refl; pool = kept-enter room.pool (pooled va k r) t.pool f l })

module _ (sec : Section) (room : Room) where
  beside_entry :
      (next : ℕ → Tables → Res Tables) → ((va : ℕ) (t t'' : Tables) → next va t ≡ done t'' → Beside t t'') →
      (b : List ℕ) (n : ℕ) (t t'' : Tables) (l : Option ℕ) → chain_from sec room next b n t l ≡ done t'' → Beside t t''
  beside_entry next h b n t t'' (Some k) e =
      let i : add_entry (entry_row (entry_tag b) (entry_position b) k) t ≡ t'' = cc in
      rw (← i) (record { bones = refl; members = refl; pool = kept_self _ })
  beside_entry next h b n t t'' None e =
      beside_then (record { bones = refl; members = refl; pool = kept_self _ })
      (h (entry_next b) (add_entry (entry_row (entry_tag b) (entry_position b) (suc (suc n))) t) t'' e)

  beside_chain : (left va : ℕ) (t t'' : Tables) → read_chain sec room left va t ≡ done t'' → Beside t t''
  unfolding read_chain
  beside_chain zero va t t'' e =
      gone (part sec va 16) (λ b. refused 1) t'' e λ b f g. let z : ◌≡◌ {A = ℕ} 0 1 = cc in absurd (omega arith)
  beside_chain (suc left) va t t'' e =
      gone (part sec va 16) _ t'' e λ b f g.
      gone (put room va entry (rows (length t.chained.entries) 1) t) _ t'' g λ u i j.
      gone (link_to (entry_next b) u) _ t'' j λ l m n.
      beside_then (beside_put room va entry (rows (length t.chained.entries) 1) t u (omega arith) i)
      (beside_entry (λ a v. read_chain sec room left a v) (beside_chain left) b (length t.chained.entries) u t'' l n)

  beside_head_from :
      (va : ℕ) (t : Tables) (l : Option ℕ) (x : ℕ × Tables) → head_from sec room va t l ≡ done x → Beside t x.1
  unfolding head_from
  beside_head_from va t (Some k) x e = let i : (k, t) ≡ x = cc in rw (← i) (beside_self t)
  beside_head_from va t None x e =
      gone (read_chain sec room (room.entries - length t.chained.entries) va t) _ x e λ u f g.
      let i : (suc (length t.chained.entries), u) ≡ x = cc in
      rw (← i) (beside_chain (room.entries - length t.chained.entries) va t u f)

  beside_buckets : (ps : List ℕ) (t t'' : Tables) → read_buckets sec room ps t ≡ done t'' → Beside t t''
  unfolding read_buckets read_head
  beside_buckets [] t t'' e = let i : t ≡ t'' = cc in rw (← i) (beside_self t)
  beside_buckets (p ∷ ps) t t'' e =
      gone (read_head sec room p t) _ t'' e λ x f g.
      gone (link_to p t) _ x f λ l m n.
      let h = (needed 1 (ltb (length x.1.chained.buckets) room.buckets) _ t'' g).1 in
      let k : Beside x.1 (add_bucket x.0 x.1) = record { bones = refl; members = refl; pool = kept_self _ } in
      beside_then (beside_head_from p t l x n) (beside_then k (beside_buckets ps (add_bucket x.0 x.1) t'' h))

  beside_array :
      (va n : ℕ) (t : Tables) (s : Option Rows) (x : Option Rows × Tables) → buckets_from sec room va n t s ≡ done x →
      Beside t x.1
  unfolding buckets_from
  beside_array va n t (Some s) x e = let i : (Some s, t) ≡ x = cc in rw (← i) (beside_self t)
  beside_array va n t None x e =
      gone (array sec va (8 * n)) _ x e λ b f g.
      gone (read_buckets sec room (words 8 n b) t) _ x g λ u h i.
      gone (put room va buckets (rows (length t.chained.buckets) n) u) _ x i λ v j k.
      let l : (Some (rows (length t.chained.buckets) n), v) ≡ x = cc in
      rw (← l)
      (beside_then (beside_buckets (words 8 n b) t u h)
      (beside_put room va buckets (rows (length t.chained.buckets) n) u v (omega arith) j))

  -- the buckets with their chains
  pub chains_beside :
      (va n : ℕ) (t : Tables) (x : Option Rows × Tables) → read_bucket_array sec room va n t ≡ done x → Beside t x.1
  unfolding read_bucket_array
  chains_beside zero n t x e = let i : (None, t) ≡ x = cc in rw (← i) (beside_self t)
  chains_beside (suc a) n t x e =
      gone (read_as buckets (suc a) t) _ x e λ s f g. beside_array (suc a) n t s x g
