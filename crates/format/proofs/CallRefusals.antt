-- Which refusals each call can give: along the definitions, what is refused is of the list. In order: the
-- pool; reading; the other calls. Steps and finding bytes are in `Refusing`. Assumes nothing.
use Prim.Native.Nat.{ℕ, zero, suc, ◌+◌, ◌-◌, ◌*◌, ◌%◌}
use mathlib.Core.Bool.{Bool, true, false, ◌||◌}
use Rattle.std.specs.Prelude.{Option, None, Some}
use mathlib.Core.List.{List, [], ◌∷◌}
use lib.ListN.{length}
use lib.Dec.{T, leb, ltb, eqb}
use Rattle.format.specs.Result.{Res}
use Rattle.format.specs.Field.{words, field}
use Rattle.format.specs.Section.{Section, Place, name_at}
use Rattle.format.specs.Bone.{Bone, Words4}
use Rattle.format.specs.Deriving.{DeriveRoom, derives, tags, parents, indices}
use Rattle.format.specs.Chains.{chains}
use Rattle.format.specs.Children.{children}
use Rattle.format.specs.Matrices.{inverses, locals}
use Rattle.format.specs.Layout.{layout}
use Rattle.format.specs.Tables as T
use Rattle.format.specs.Tables.{ListTable, inverse_table, local_table, parents_table, children_table, table_number, width, words_per_row}
use Rattle.format.specs.Tables.{Kind, same_kind, Rows, rows, Pooled, pooled, Tables, no_rows, Room, list_room, find, put_over, put}
use Rattle.format.specs.Tables.{add_member, add_bucket, as_kind, list_at, words_in}
use Rattle.format.specs.Records.{name_field, entry_tag, entry_position, entry_next}
use Rattle.format.specs.Read.{link_to, chain_from, read_chain, head_from, read_head, read_buckets, buckets_from, read_bucket_array}
use Rattle.format.specs.Read.{name_from, read_name, bone_from, read_bone, read_bones, block_from, read_block, read_bones_at, keep_columns}
use Rattle.format.specs.Read.{store_list, read_new, given_again, read_over, read_over_kind, list_from, read_list}
use Rattle.format.specs.Read.{read_new_skeleton, skeleton_from, read_skeleton}
use Rattle.format.specs.Check.{Read, same_chains, same_words, verdict, read, check_from, check}
use Rattle.format.specs.Search.{search}
use Rattle.format.specs.Lookup.{unless_found, follow, lookup_in, lookup}
use Rattle.format.specs.Write.{good_names, named, written}
use Rattle.format.specs.Joints.{RotationLimit, rotation_written, TranslationLimit, translation_written, ids_fit, joints_layout}
use Rattle.format.specs.Joints.{joints_written, limits, read_joints}
use Rattle.format.specs.CallRefusals.{writing_refusals, reading_refusals, check_refusals, lookup_refusals}
use Rattle.format.specs.CallRefusals.{joints_read_refusals, joints_written_refusals, rotation_written_refusals}
use Rattle.format.specs.CallRefusals.{translation_written_refusals, RefusesOnly, CallRefusals}
use Rattle.format.proofs.Refusing.{only-done, only-refused, only_then, only-need, part-only, array-only, cursor-only, header-only}

-- ---- reading

abbrev Reads : {A : Type 0} → Res A → Type 0
Reads = RefusesOnly reading_refusals

-- the pool

as_only : (k : Kind) (o : Option Pooled) → Reads (as_kind k o)
unfolding as_kind
as_only k None = only-done _
as_only k (Some p) = only_then (only-need 12 (same_kind p.kind k) tt) λ u. only-done _

put_only : (room : Room) (va : ℕ) (k : Kind) (r : Rows) (t : Tables) → Reads (put room va k r t)
unfolding put_over
put_only room va k r t = by (find va t.pool)
  where
    by : (o : Option Pooled) → Reads (put_over room (pooled va k r) t o)
    by (Some p) = only-done _
    by None = only_then (only-need 1 (ltb (length t.pool) room.pool) tt) λ u. only-done _

link-only : (va : ℕ) (t : Tables) → Reads (link_to va t)
unfolding link_to
link-only zero t = only-done _
link-only (suc a) t = only_then (as_only T.entry (find (suc a) t.pool)) λ r. only-done _

module _ (sec : Section) (room : Room) where
  -- chains and buckets

  chain-only : (left va : ℕ) (t : Tables) → Reads (read_chain sec room left va t)
  unfolding read_chain
  chain-only zero va t = only_then (part-only tt tt sec va 16) λ b. only-refused 1 tt
  chain-only (suc left) va t =
      only_then (part-only tt tt sec va 16) λ b.
      only_then (put_only room va T.entry (rows (length t.chained.entries) 1) t) λ t''.
      only_then (link-only (entry_next b) t'') (from b t'' λ a u. chain-only left a u)
    where
      from :
          (b : List ℕ) (t'' : Tables) → ((a : ℕ) (u : Tables) → Reads (read_chain sec room left a u)) → (l : Option ℕ) →
          Reads (chain_from sec room (λ a u. read_chain sec room left a u) b (length t.chained.entries) t'' l)
      from b t'' next (Some k) = only-done _
      from b t'' next None = next (entry_next b) _

  head_only : (va : ℕ) (t : Tables) → Reads (read_head sec room va t)
  unfolding read_head head_from
  head_only va t = only_then (link-only va t) from
    where
      from : (l : Option ℕ) → Reads (head_from sec room va t l)
      from (Some k) = only-done _
      from None = only_then (chain-only (room.entries - length t.chained.entries) va t) λ t''. only-done _

  buckets-only : (ps : List ℕ) (t : Tables) → Reads (read_buckets sec room ps t)
  unfolding read_buckets
  buckets-only [] t = only-done _
  buckets-only (p ∷ ps) t =
      only_then (head_only p t) λ k.
      only_then (only-need 1 (ltb (length k.1.chained.buckets) room.buckets) tt) λ u.
      buckets-only ps (add_bucket k.0 k.1)

  bucket-array-only : (va n : ℕ) (t : Tables) → Reads (read_bucket_array sec room va n t)
  unfolding read_bucket_array buckets_from
  bucket-array-only zero n t = only-done _
  bucket-array-only (suc a) n t = only_then (as_only T.buckets (find (suc a) t.pool)) from
    where
      from : (o : Option Rows) → Reads (buckets_from sec room (suc a) n t o)
      from (Some s) = only-done _
      from None =
          only_then (array-only tt tt sec (suc a) (8 * n)) λ b.
          only_then (buckets-only (words 8 n b) t) λ t''.
          only_then (put_only room (suc a) T.buckets (rows (length t.chained.buckets) n) t'') λ t'''. only-done _

  -- bones

  name-only : (va : ℕ) (t : Tables) → Reads (read_name sec room va t)
  unfolding read_name name_from name_at
  name-only zero t = only-done _
  name-only (suc a) t = only_then (as_only T.string (find (suc a) t.pool)) from
    where
      from : (o : Option Rows) → Reads (name_from sec room (suc a) t o)
      from (Some s) = only-done _
      from None =
          only_then {m = name_at sec (suc a)} (only_then (cursor-only tt tt sec (suc a)) λ p. only-done _) λ p.
          only_then (put_only room (suc a) T.string (rows p.address p.size) t) λ t''. only-done _

  bone-only : (va : ℕ) (t : Tables) → Reads (read_bone sec room va t)
  unfolding read_bone bone_from
  bone-only va t = only_then (as_only T.bone (find va t.pool)) from
    where
      from : (o : Option Rows) → Reads (bone_from sec room va t o)
      from (Some s) = only-done _
      from None =
          only_then (part-only tt tt sec va 70) λ b.
          only_then (name-only (name_field b) t) λ n.
          only_then (only-need 1 (ltb (length n.1.bones) room.bones) tt) λ u.
          only_then (put_only room va T.bone (rows (length n.1.bones) 1) n.1) λ t''. only-done _

  bones-only : (n va : ℕ) (t : Tables) → Reads (read_bones sec room n va t)
  unfolding read_bones
  bones-only zero va t = only-done _
  bones-only (suc n) va t = only_then (bone-only va t) λ b. bones-only n (va + 80) (add_member b.0 b.1)

  block-only : (va n : ℕ) (t : Tables) → Reads (read_block sec room va n t)
  unfolding read_block block_from
  block-only zero n t = only-done _
  block-only (suc a) n t = only_then (as_only T.block (find (suc a) t.pool)) from
    where
      from : (o : Option Rows) → Reads (block_from sec room (suc a) n t o)
      from (Some s) = only-done _
      from None =
          only_then (cursor-only tt tt sec (suc a)) λ c.
          only_then (bones-only n (suc a + 16) t) λ t''.
          only_then (put_only room (suc a) T.block (rows (length t.members) n) t'') λ t'''. only-done _

  bones_at-only : (va n : ℕ) (t : Tables) → Reads (read_bones_at sec room va n t)
  unfolding read_bones_at
  bones_at-only zero n t = only-done _
  bones_at-only (suc a) n t = only_then (only-need 13 (leb 16 (suc a)) tt) λ u. block-only (suc a - 16) n t

  -- plain arrays

  store-only : (l : ListTable) (w : List ℕ) (t : Tables) → Reads (store_list sec room l w t)
  unfolding store_list
  store-only l w t = only_then (only-need 1 (leb (length (words_in l t.lists) + length w) (words_per_row l * list_room l room)) tt) λ u. only-done _

  new-only : (l : ListTable) (va n : ℕ) (t : Tables) → Reads (read_new sec room l va n t)
  unfolding read_new
  new-only l va n t =
      only_then (array-only tt tt sec va (width l * words_per_row l * n)) λ b. store-only l (words (width l) (words_per_row l * n) b) t

  over_only : (b : Bool) (l : ListTable) (va n : ℕ) (o : ListTable) (s : Rows) (t : Tables) → Reads (read_over sec room b l va n o s t)
  unfolding read_over given_again
  over_only false l va n o s t = new-only l va n t
  over_only true l va n o s t = again (eqb (table_number l) (table_number o))
    where
      again : (b : Bool) → Reads (given_again sec room b l o s t)
      again true = only-done _
      again false = store-only l (list_at o s t) t

  kind-only : (l : ListTable) (va n : ℕ) (k : Kind) (s : Rows) (t : Tables) → Reads (read_over_kind sec room l va n k s t)
  unfolding read_over_kind
  kind-only l va n (T.list o) s t = over_only (same_kind (T.list o) (T.list l)) l va n o s t
  kind-only l va n T.skeleton s t = new-only l va n t
  kind-only l va n T.buckets s t = new-only l va n t
  kind-only l va n T.entry s t = new-only l va n t
  kind-only l va n T.block s t = new-only l va n t
  kind-only l va n T.bone s t = new-only l va n t
  kind-only l va n T.string s t = new-only l va n t

  list-only : (l : ListTable) (va n : ℕ) (t : Tables) → Reads (read_list sec room l va n t)
  unfolding read_list list_from
  list-only l zero n t = only-done _
  list-only l (suc a) n t = from (find (suc a) t.pool)
    where
      from : (o : Option Pooled) → Reads (list_from sec room l (suc a) n t o)
      from None =
          only_then (new-only l (suc a) n t) λ w.
          only_then (put_only room (suc a) (T.list l) w.0 w.1) λ t''. only-done _
      from (Some p) = only_then (kind-only l (suc a) n p.kind p.stored t) λ w. only-done _

  -- the skeleton

  new-skeleton-only : (root : ℕ) (t0 : Tables) → Reads (read_new_skeleton sec room root t0)
  unfolding read_new_skeleton
  new-skeleton-only root t0 =
      only_then (header-only tt tt sec root) λ h.
      only_then (bucket-array-only h.buckets_at h.bucket_count t0) λ bs.
      only_then (bones_at-only h.bones_at h.bone_count bs.1) λ ms.
      only_then (list-only inverse_table h.inverse_at h.bone_count ms.1) λ is.
      only_then (list-only local_table h.local_at h.bone_count is.1) λ ls.
      only_then (list-only parents_table h.parents_at h.bone_count ls.1) λ ps.
      only_then (list-only children_table h.children_at h.child_count ps.1) λ cs.
      only_then (put_only room root T.skeleton (rows (length cs.1.skeletons) 1) (keep_columns ms.0 ls.0 cs.1)) λ t7. only-done _

  reading-only : (root : ℕ) (t : Tables) → Reads (read_skeleton sec room root t)
  unfolding read_skeleton skeleton_from
  reading-only zero t = only-done _
  reading-only (suc a) t = only_then (as_only T.skeleton (find (suc a) t.pool)) from
    where
      from : (o : Option Rows) → Reads (skeleton_from sec room (suc a) t o)
      from (Some s) = only-done _
      from None = only_then (new-skeleton-only (suc a) t) λ s. only-done _

  read_only : (root : ℕ) → Reads (read sec room root)
  unfolding read
  read_only root = only_then (reading-only root no_rows) λ s. only-done _

  -- ---- search

  search-only : (root key : ℕ) → Reads (search sec room root key)
  unfolding search
  search-only root key = only_then (read_only root) λ r. only-done _

  -- ---- the check

  -- what reading refuses, the check may
  wider : {A : Type 0} (r : Res A) → Reads r → RefusesOnly check_refusals r
  wider r h = record { only = λ n e. more (eqb n 1) (eqb n 10) (eqb n 11) (eqb n 12) (eqb n 13) _ (h.only n e) }
    where
      more :
          (a b c d e rest : Bool) → T (a || (b || (c || (d || (e || false))))) → T (a || (b || (c || (d || (e || rest)))))
      more true b c d e rest h = tt
      more false true c d e rest h = tt
      more false false true d e rest h = tt
      more false false false true e rest h = tt
      more false false false false true rest h = tt
      more false false false false false rest h = absurd h

  verdict-only : (droom : DeriveRoom) (r : Read) → RefusesOnly check_refusals (verdict droom r)
  unfolding verdict
  verdict-only droom r =
      only_then (only-need 1 (derives droom (length r.bones)) tt) λ u.
      only_then (only-need 21 (same_chains r.chains (chains (tags r.bones))) tt) λ u.
      only_then (only-need 22 (same_words r.parents (parents r.bones)) tt) λ u.
      only_then (only-need 23 (same_words r.children (children (indices r.bones) (parents r.bones))) tt) λ u.
      only_then (only-need 24 (same_words r.inverse (inverses r.bones)) tt) λ u.
      only_then (only-need 25 (same_words r.local (locals r.bones)) tt) λ u. only-done _

  check-only : (droom : DeriveRoom) (root : ℕ) → RefusesOnly check_refusals (check sec room droom root)
  unfolding check check_from
  check-only droom root = only_then (wider (read sec room root) (read_only root)) from
    where
      from : (o : Option Read) → RefusesOnly check_refusals (check_from droom o)
      from None = only-done _
      from (Some r) = only_then (verdict-only droom r) λ n. only-done _

-- ---- lookup

module _ (sec : Section) (tag : ℕ) where
  follow-only : (left va : ℕ) → RefusesOnly lookup_refusals (follow sec tag left va)
  unfolding follow
  follow-only zero zero = only-done _
  follow-only zero (suc a) = only-refused 14 tt
  follow-only (suc left) zero = only-done _
  follow-only (suc left) (suc a) =
      only_then (part-only tt tt sec (suc a) 16) λ b. found (eqb (entry_tag b) tag) (entry_position b) (follow-only left (entry_next b))
    where
      found :
          (b : Bool) (p : ℕ) {rest : Res (Option ℕ)} → RefusesOnly lookup_refusals rest →
          RefusesOnly lookup_refusals (unless_found b p rest)
      found true p h = only-done _
      found false p h = h

  in_only : (n va c : ℕ) → RefusesOnly lookup_refusals (lookup_in sec tag n va c)
  unfolding lookup_in
  in_only n zero c = only-done _
  in_only n (suc a) zero = only-done _
  in_only n (suc a) (suc c) = only_then (part-only tt tt sec (suc a) (8 * suc c)) λ b. follow-only n (field 8 b (8 * (tag % suc c)))

  lookup-only : (root : ℕ) → RefusesOnly lookup_refusals (lookup sec root tag)
  unfolding lookup
  lookup-only zero = only-done _
  lookup-only (suc a) = only_then (header-only tt tt sec (suc a)) λ h. in_only h.bone_count h.buckets_at h.bucket_count

-- ---- writing

writing-only :
    (lent : Section) (room : DeriveRoom) (size : ℕ) (bones : List (Bone Place)) (free : Words4) →
    RefusesOnly writing_refusals (written lent room size bones free)
unfolding written
writing-only lent room size bones free =
    only_then (only-need 2 (leb (length bones) 65535) tt) λ u.
    only_then (only-need 4 (good_names lent bones) tt) λ u.
    only_then (only-need 1 (derives room (length bones)) tt) λ u.
    only_then (only-need 3 (leb (length (children (indices bones) (parents bones))) 65535) tt) λ u.
    only_then (only-need 5 (leb (length (layout (named lent bones) free)) size) tt) λ u. only-done _

-- ---- joints

limits-only : (sec : Section) (room k va n : ℕ) → RefusesOnly joints_read_refusals (limits sec room k va n)
unfolding limits
limits-only sec room k zero n = only-done _
limits-only sec room k (suc a) n =
    only_then (array-only tt tt sec (suc a) (4 * k * n)) λ b.
    only_then (only-need 1 (leb n room) tt) λ u. only-done _

joints_read-only : (sec : Section) (rroom troom root : ℕ) → RefusesOnly joints_read_refusals (read_joints sec rroom troom root)
unfolding read_joints
joints_read-only sec rroom troom zero = only-done _
joints_read-only sec rroom troom (suc a) =
    only_then (part-only tt tt sec (suc a) 52) λ b.
    only_then (limits-only sec rroom 48 (field 8 b 16) (field 2 b 48)) λ rs.
    only_then (limits-only sec troom 16 (field 8 b 24) (field 2 b 50)) λ ts. only-done _

joints_written-only :
    (size : ℕ) (rs : List RotationLimit) (ts : List TranslationLimit) → RefusesOnly joints_written_refusals (joints_written size rs ts)
unfolding joints_written
joints_written-only size rs ts =
    only_then (only-need 6 (leb (length rs) 65535) tt) λ u.
    only_then (only-need 6 (leb (length ts) 65535) tt) λ u.
    only_then (only-need 35 (ids_fit rs) tt) λ u.
    only_then (only-need 5 (leb (length (joints_layout rs ts)) size) tt) λ u. only-done _

rotation_written-only : (size : ℕ) (l : RotationLimit) → RefusesOnly rotation_written_refusals (rotation_written size l)
unfolding rotation_written
rotation_written-only size l =
    only_then (only-need 35 (leb l.id 65535) tt) λ u.
    only_then (only-need 5 (leb 192 size) tt) λ u. only-done _

translation_written-only : (size : ℕ) (l : TranslationLimit) → RefusesOnly translation_written_refusals (translation_written size l)
unfolding translation_written
translation_written-only size l =
    only_then (only-need 5 (leb 64 size) tt) λ u. only-done _

-- ---- the statement

pub call_refusals : CallRefusals
call_refusals =
    record {
      reading = reading-only;
      search = search-only;
      check = check-only;
      lookup = λ sec root tag. lookup-only sec tag root;
      writing = writing-only;
      joints_read = joints_read-only;
      joints_written = joints_written-only;
      rotation_written = rotation_written-only;
      translation_written = translation_written-only;
    }
