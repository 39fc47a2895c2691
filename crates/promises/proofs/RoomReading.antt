-- Reading bones, plain arrays and a skeleton in every room; buckets and chains are in RoomChains. Assumes nothing.
use mathlib.Core.Path.{ap}
use Prim.Native.Nat.{ℕ, zero, suc, ◌+◌, ◌-◌, ◌*◌}
use mathlib.Core.Bool.{Bool, true, false}
use Rattle.std.specs.Prelude.{Option, None, Some}
use lib.ListN.{length, get_or}
use lib.Dec.{T, leb, ltb, eqb}
use Rattle.format.specs.Result.{need}
use Rattle.format.specs.Field.{words}
use Rattle.format.specs.Section.{Section, cursor, part, array, name_at}
use Rattle.format.specs.Tables as T
use Rattle.format.specs.Tables.{ListTable, inverse_table, local_table, parents_table, children_table, table_number, width, words_per_row}
use Rattle.format.specs.Tables.{Kind, same_kind, Rows, rows, Pooled, Tables, Room, find, read_as}
use Rattle.format.specs.Tables.{add_bone, add_member, add_skeleton, list_at}
use Rattle.format.specs.Records.{header, bone_row, name_field}
use Rattle.format.specs.Read.{keep_columns, skeleton_row, no_skeleton}
use Rattle.format.specs.Read.{name_from, read_name, bone_from, read_bone, read_bones, block_from, read_block, read_bones_at}
use Rattle.format.specs.Read.{read_new, given_again, read_over, read_over_kind, list_from, read_list}
use Rattle.format.specs.Read.{read_new_skeleton, skeleton_from, read_skeleton}
use Rattle.promises.proofs.RoomSteps.{steady_then, steady_behind, steady_need, steady_done, steady_from, steady_beside}
use Rattle.promises.proofs.RoomStores.{SteadyStore, SteadyStep, store-ends, step_ends, put_steady, put-leaves, store_steady}
use Rattle.promises.proofs.RoomStores.{held-bone, held_member, held_columns, held-skeleton}
use Rattle.promises.proofs.RoomChains.{bucket-array_steady}

module _ (sec : Section) (room : Room) where
  -- ---- bones

  name_steady : (va : ℕ) (t : Tables) → SteadyStep room t (λ r. read_name sec r va t)
  unfolding read_name name_from
  name_steady zero t = step_ends None t
  name_steady (suc a) t = steady_behind (read_as T.string (suc a) t) λ o e. from o
    where
      from : (o : Option Rows) → SteadyStep room t (λ r. name_from sec r (suc a) t o)
      from (Some s) = step_ends (Some (record { address = s.first; size = s.count })) t
      from None =
          steady_behind (name_at sec (suc a)) λ p e₁.
          let stored = rows p.address p.size in
          steady_then (put_steady (suc a) T.string stored t) λ t'' e₂.
          step_ends (Some p) t''

  bone_steady : (va : ℕ) (t : Tables) → SteadyStep room t (λ r. read_bone sec r va t)
  unfolding read_bone bone_from
  bone_steady va t = steady_behind (read_as T.bone va t) λ o e. from o
    where
      from : (o : Option Rows) → SteadyStep room t (λ r. bone_from sec r va t o)
      from (Some s) = step_ends s.first t
      from None =
          steady_behind (part sec va 70) λ b e₁.
          steady_then (name_steady (name_field b) t) λ n e₂.
          let t'' = n.1 in
          let k = length t''.bones in
          steady_need (λ r. ltb k r.bones) λ fits.
          steady_then (steady_beside (λ r. T (ltb k r.bones)) (put_steady va T.bone (rows k 1) t'')) λ t''' e₃.
          let same = ap length (put-leaves room va T.bone (rows k 1) t'' t''' e₃).1 in
          steady_done (k, add_bone (bone_row b n.0) t''') λ r. held-bone t''' k r (bone_row b n.0) same

  bones_steady : (n va : ℕ) (t : Tables) → SteadyStore room t (λ r. read_bones sec r n va t)
  unfolding read_bones
  bones_steady zero va t = store-ends t
  bones_steady (suc n) va t =
      steady_then (bone_steady va t) λ b e.
      steady_from (held_member b.0 b.1) (bones_steady n (va + 80) (add_member b.0 b.1))

  block_steady : (va n : ℕ) (t : Tables) → SteadyStep room t (λ r. read_block sec r va n t)
  unfolding read_block block_from
  block_steady zero n t = step_ends None t
  block_steady (suc a) n t = steady_behind (read_as T.block (suc a) t) λ o e. from o
    where
      stored : Rows
      stored = rows (length t.members) n

      from : (o : Option Rows) → SteadyStep room t (λ r. block_from sec r (suc a) n t o)
      from (Some s) = step_ends (Some s) t
      from None =
          steady_behind (cursor sec (suc a)) λ c e₁.
          steady_then (bones_steady n (suc a + 16) t) λ t'' e₂.
          steady_then (put_steady (suc a) T.block stored t'') λ t''' e₃.
          step_ends (Some stored) t'''

  bones_at_steady : (va n : ℕ) (t : Tables) → SteadyStep room t (λ r. read_bones_at sec r va n t)
  unfolding read_bones_at
  bones_at_steady zero n t = step_ends None t
  bones_at_steady (suc a) n t = steady_behind (need 13 (leb 16 (suc a))) λ u e. block_steady (suc a - 16) n t

  -- ---- plain arrays

  new_steady : (l : ListTable) (va n : ℕ) (t : Tables) → SteadyStep room t (λ r. read_new sec r l va n t)
  unfolding read_new
  new_steady l va n t =
      steady_behind (array sec va (width l * words_per_row l * n)) λ b e. store_steady sec l (words (width l) (words_per_row l * n) b) t

  again_steady : (b : Bool) (l o : ListTable) (s : Rows) (t : Tables) → SteadyStep room t (λ r. given_again sec r b l o s t)
  unfolding given_again
  again_steady true l o s t = step_ends s t
  again_steady false l o s t = store_steady sec l (list_at o s t) t

  over_steady :
      (b : Bool) (l : ListTable) (va n : ℕ) (o : ListTable) (s : Rows) (t : Tables) →
      SteadyStep room t (λ r. read_over sec r b l va n o s t)
  unfolding read_over
  over_steady true l va n o s t = again_steady (eqb (table_number l) (table_number o)) l o s t
  over_steady false l va n o s t = new_steady l va n t

  kind_steady :
      (l : ListTable) (va n : ℕ) (k : Kind) (s : Rows) (t : Tables) → SteadyStep room t (λ r. read_over_kind sec r l va n k s t)
  unfolding read_over_kind
  kind_steady l va n (T.list o) s t = over_steady (same_kind (T.list o) (T.list l)) l va n o s t
  kind_steady l va n T.skeleton s t = new_steady l va n t
  kind_steady l va n T.buckets s t = new_steady l va n t
  kind_steady l va n T.entry s t = new_steady l va n t
  kind_steady l va n T.block s t = new_steady l va n t
  kind_steady l va n T.bone s t = new_steady l va n t
  kind_steady l va n T.string s t = new_steady l va n t

  list_steady : (l : ListTable) (va n : ℕ) (t : Tables) → SteadyStep room t (λ r. read_list sec r l va n t)
  unfolding read_list list_from
  list_steady l zero n t = step_ends None t
  list_steady l (suc a) n t = from (find (suc a) t.pool)
    where
      from : (o : Option Pooled) → SteadyStep room t (λ r. list_from sec r l (suc a) n t o)
      from None =
          steady_then (new_steady l (suc a) n t) λ w e₁.
          steady_then (put_steady (suc a) (T.list l) w.0 w.1) λ t'' e₂.
          step_ends (Some w.0) t''
      from (Some p) =
          steady_then (kind_steady l (suc a) n p.kind p.stored t) λ w e₁.
          step_ends (Some w.0) w.1

  -- ---- the skeleton

  new-skeleton_steady : (root : ℕ) (t0 : Tables) → SteadyStep room t0 (λ r. read_new_skeleton sec r root t0)
  unfolding read_new_skeleton
  new-skeleton_steady root t0 =
      steady_behind (header sec root) λ h e.
      steady_then (bucket-array_steady sec room h.buckets_at h.bucket_count t0) λ bs e₁.
      steady_then (bones_at_steady h.bones_at h.bone_count bs.1) λ ms e₂.
      steady_then (list_steady inverse_table h.inverse_at h.bone_count ms.1) λ is e₃.
      steady_then (list_steady local_table h.local_at h.bone_count is.1) λ ls e₄.
      steady_then (list_steady parents_table h.parents_at h.bone_count ls.1) λ ps e₅.
      steady_then (list_steady children_table h.children_at h.child_count ps.1) λ cs e₆.
      let stored = rows (length cs.1.skeletons) 1 in
      let t6 = keep_columns ms.0 ls.0 cs.1 in
      let s = skeleton_row h bs.0 ms.0 is.0 ls.0 ps.0 cs.0 in
      steady_from (held_columns ms.0 ls.0 cs.1)
      (steady_then (put_steady root T.skeleton stored t6) λ t7 e₇.
      steady_done (s, add_skeleton s t7) (held-skeleton s t7))

  pub skeleton_steady : (root : ℕ) (t : Tables) → SteadyStep room t (λ r. read_skeleton sec r root t)
  unfolding read_skeleton skeleton_from
  skeleton_steady zero t = step_ends None t
  skeleton_steady (suc a) t = steady_behind (read_as T.skeleton (suc a) t) λ o e. from o
    where
      from : (o : Option Rows) → SteadyStep room t (λ r. skeleton_from sec r (suc a) t o)
      from (Some s) = step_ends (Some (get_or t.skeletons s.first no_skeleton)) t
      from None =
          steady_then (new-skeleton_steady (suc a) t) λ s e₁.
          step_ends (Some s.0) s.1
