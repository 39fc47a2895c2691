-- The bones read are the rows of the bones table, all of them and in order. In order: the block; the kept words; the whole reading;
-- the table. Assumes nothing.
use Prim.Native.Nat.{ℕ, zero, suc, ◌+◌, ◌-◌}
use native.Mathlib.Omega.{arith}
use mathlib.Core.Path.{◌≡◌, refl, sym, ap, subst, ◌∙◌}
use Rattle.std.specs.Prelude.{Option, None, Some}
use mathlib.Core.List.{List, [], ◌∷◌, ◌++◌, flat_map}
use lib.Dec.{leb}
use lib.ListN.{length, take, drop}
use lib.Seq.{take_all}
use Rattle.format.specs.Result.{done, need}
use Rattle.format.specs.Section.{Section, Place, cursor}
use Rattle.format.specs.Bone.{Bone, Words4, keeping}
use Rattle.format.specs.Chains.{up_from}
use Rattle.format.specs.Records.{header, column_words}
use Rattle.format.specs.Rows.{bone_words, bones_of}
use Rattle.format.specs.Tables.{ListTable, inverse_table, local_table, parents_table, children_table, kind_number, skeleton, block}
use Rattle.format.specs.Tables.{Rows, rows, Pooled, SkeletonRow, Tables, Room, no_rows}
use Rattle.format.specs.Tables.{add_skeleton, list_at, find, put, as_kind, read_as}
use Rattle.format.specs.Read.{alter, take_columns, keep_columns, skeleton_row}
use Rattle.format.specs.Read.{read_bones, block_from, read_block, read_bones_at}
use Rattle.format.specs.Read.{read_bucket_array, read_list, read_new_skeleton, skeleton_from, read_skeleton}
use Rattle.format.specs.Check.{gather, bones_read}
use Rattle.format.proofs.Results.{gone}
use Rattle.promises.proofs.Frames.{step_value, step_tables}
use Rattle.format.specs.Tables.{part_length}
use Rattle.promises.proofs.ColumnsBack.{gathered}
use Rattle.rows.specs.Row.{FitsRow}
use Rattle.rows.proofs.ReadBack.{AllFit, fit_none, fit-more, bones_back_lem}
use Rattle.read_bones.specs.Lent.{Unread, InOrder}
use Rattle.read_bones.proofs.Pools.{found_again}
use Rattle.read_bones.proofs.Stretches.{length-up_from}
use Rattle.read_bones.proofs.Chains.{unread-none, kept-unread, chains_beside}
use Rattle.read_lists.proofs.Frames.{list_framed}
use Rattle.read_bones.proofs.Keeping.{length-alter}
use Rattle.read_laws.proofs.Growing.{done-is, Kept, pool-kept, bones_grown}
use Rattle.read_laws.specs.Bytes.{SectionBytes}

-- ---- the block

-- the rows of a part are all of some bones
abbrev All : Option Rows → List (Bone Place) → Type 0
All None bs = bs ≡ []
All (Some r) bs = (r.first ≡ 0) × (r.count ≡ length bs)

-- the members are all the rows in order, each fits its row, and the part has them all
record Whole (o : Option Rows) (t : Tables) : Type 0 where
  order : InOrder t
  fits : AllFit t.bones
  all : All o t.bones

-- nothing was read before but buckets and entries
record Start (t : Tables) : Type 0 where
  bones : t.bones ≡ []
  members : t.members ≡ []
  unread : (at : ℕ) → Unread at t.pool
  no_block : (a : ℕ) (x : Pooled) → find a t.pool ≡ Some x → kind_number x.kind ≡ kind_number block → ⊥

whole-none : (t : Tables) → Start t → Whole None t
unfolding up_from
whole-none t s = record { order = rw (s.members, s.bones) refl; fits = rw s.bones fit_none; all = s.bones }

module _ (sec : Section) (bytes : SectionBytes sec) (room : Room) where
  -- after the chains
  chains_start :
      (va n : ℕ) (o : Option Rows) (t : Tables) → read_bucket_array sec room va n no_rows ≡ done (o, t) → Start t
  unfolding find
  chains_start va n o t e =
      let b = chains_beside sec room va n no_rows (o, t) e in
      record {
        bones = b.bones;
        members = b.members;
        unread = λ at. kept-unread b.pool at (unread-none at);
        no_block =
            λ a y f k.
            let g : None ≡ Some y = b.pool.each a y f (omega arith) in
            let z : ◌≡◌ {A = ℕ} 0 1 = cc in
            omega arith;
      }

  block-whole :
      (va n : ℕ) (t u : Tables) (o : Option Rows) → Start t → read_block sec room va n t ≡ done (o, u) → Whole o u
  unfolding read_block block_from up_from
  block-whole zero n t u o s e = rw (← step_value e, ← step_tables e) (whole-none t s)
  block-whole (suc a) n t u o s e = gone (read_as block (suc a) t) _ (o, u) e λ r p e₁. from r p e₁
    where
      from :
          (r : Option Rows) → read_as block (suc a) t ≡ done r → block_from sec room (suc a) n t r ≡ done (o, u) → Whole o u
      from (Some x) p e₁ =
          let f = found_again block (find (suc a) t.pool) x p in
          absurd (s.no_block (suc a) f.row f.here f.same)
      from None p e₁ =
          gone (cursor sec (suc a)) _ (o, u) e₁ λ c q₁ e₂.
          gone (read_bones sec room n (suc a + 16) t) _ (o, u) e₂ λ v q₂ e₃.
          gone (put room (suc a) block (rows (length t.members) n) v) _ (o, u) e₃ λ w q₃ e₄.
          let none_before = whole-none t s in
          let g = bones_grown sec bytes room n (suc a + 16) t v (s.unread (suc a + 16)) none_before.order none_before.fits q₂ in
          let k = pool-kept room (suc a) block (rows (length t.members) n) v w q₃ in
          rw (← step_value e₄, ← step_tables e₄)
          (record {
            order = k.members ∙ g.order ∙ ap (λ (l : List (Bone Place)). up_from 0 (length l)) (sym k.bones);
            fits = subst AllFit (sym k.bones) g.fits;
            all = (ap length s.members, omega (arith, ap length k.bones, g.more, ap length s.bones));
          })

  bones-whole :
      (va n : ℕ) (t u : Tables) (o : Option Rows) → Start t → read_bones_at sec room va n t ≡ done (o, u) → Whole o u
  unfolding read_bones_at
  bones-whole zero n t u o s e = rw (← step_value e, ← step_tables e) (whole-none t s)
  bones-whole (suc a) n t u o s e =
      gone (need 13 (leb 16 (suc a))) _ (o, u) e λ w q e₁. block-whole (suc a - 16) n t u o s e₁

-- ---- the kept words

keep-fits : {b : Bone Place} (k : Words4) → FitsRow b → FitsRow (keeping k b)
keep-fits k h = record { sibling = h.sibling; flags = h.flags; tag = h.tag; name = h.name }

alter-fits : (r : ℕ) (k : Words4) {bs : List (Bone Place)} → AllFit bs → AllFit (alter r (keeping k) bs)
unfolding alter
alter-fits r k fit_none = fit_none
alter-fits zero k (fit-more h hs) = fit-more (keep-fits k h) hs
alter-fits (suc r) k (fit-more h hs) = fit-more h (alter-fits r k hs)

columns_fit : (rs w : List ℕ) {bs : List (Bone Place)} → AllFit bs → AllFit (take_columns rs w bs)
unfolding take_columns
columns_fit [] w h = h
columns_fit (r ∷ rs) [] h = h
columns_fit (r ∷ rs) (x ∷ w) h = columns_fit rs (drop 15 w) (alter-fits r (column_words (x ∷ w)) h)

length_columns : (rs w : List ℕ) (bs : List (Bone Place)) → length (take_columns rs w bs) ≡ length bs
unfolding take_columns
length_columns [] w bs = refl
length_columns (r ∷ rs) [] bs = refl
length_columns (r ∷ rs) (x ∷ w) bs =
    length_columns rs (drop 15 w) (alter r (keeping (column_words (x ∷ w))) bs) ∙ length-alter r (keeping (column_words (x ∷ w))) bs

whole_columns : (o l : Option Rows) (t : Tables) → Whole o t → Whole o (keep_columns o l t)
whole_columns None l t h = h
whole_columns (Some b) None t h = h
whole_columns (Some b) (Some l) t h =
    let rs = take b.count (drop b.first t.members) in
    let w = list_at local_table l t in
    let size = length_columns rs w t.bones in
    record {
      order = h.order ∙ ap (up_from 0) (sym size);
      fits = columns_fit rs w h.fits;
      all = (h.all.0, h.all.1 ∙ sym size);
    }

-- ---- the whole reading

whole-kept : {o : Option Rows} {t u : Tables} → Whole o t → Kept t u → Whole o u
whole-kept {o} {t} {u} h k =
    record {
      order = k.members ∙ h.order ∙ ap (λ (l : List (Bone Place)). up_from 0 (length l)) (sym k.bones);
      fits = subst AllFit (sym k.bones) h.fits;
      all = subst (All o) (sym k.bones) h.all;
    }

list-kept :
    (sec : Section) (room : Room) (l : ListTable) (va n : ℕ) (t u : Tables) (o : Option Rows) →
    read_list sec room l va n t ≡ done (o, u) → Kept t u
list-kept sec room l va n t u o e =
    let f = list_framed sec room l va n t u o e in
    record { bones = ap (λ (x : Tables). x.bones) f.is; members = ap (λ (x : Tables). x.members) f.is }

module _ (sec : Section) (bytes : SectionBytes sec) (room : Room) where
  new-whole : (root : ℕ) (s : SkeletonRow) (u : Tables) → read_new_skeleton sec room root no_rows ≡ done (s, u) → Whole s.bones u
  unfolding read_new_skeleton
  new-whole root s u e =
      gone (header sec root) _ (s, u) e λ h p₀ e₀.
      gone (read_bucket_array sec room h.buckets_at h.bucket_count no_rows) _ (s, u) e₀ λ x₁ p₁ e₁.
      gone (read_bones_at sec room h.bones_at h.bone_count x₁.1) _ (s, u) e₁ λ x₂ p₂ e₂.
      gone (read_list sec room inverse_table h.inverse_at h.bone_count x₂.1) _ (s, u) e₂ λ x₃ p₃ e₃.
      gone (read_list sec room local_table h.local_at h.bone_count x₃.1) _ (s, u) e₃ λ x₄ p₄ e₄.
      gone (read_list sec room parents_table h.parents_at h.bone_count x₄.1) _ (s, u) e₄ λ x₅ p₅ e₅.
      gone (read_list sec room children_table h.children_at h.child_count x₅.1) _ (s, u) e₅ λ x₆ p₆ e₆.
      let v = keep_columns x₂.0 x₄.0 x₆.1 in
      let row = rows (length x₆.1.skeletons) 1 in
      gone (put room root skeleton row v) _ (s, u) e₆ λ w p₇ e₇.
      let start = chains_start sec bytes room h.buckets_at h.bucket_count x₁.0 x₁.1 p₁ in
      let w₂ = bones-whole sec bytes room h.bones_at h.bone_count x₁.1 x₂.1 x₂.0 start p₂ in
      let w₃ = whole-kept w₂ (list-kept sec room inverse_table h.inverse_at h.bone_count x₂.1 x₃.1 x₃.0 p₃) in
      let w₄ = whole-kept w₃ (list-kept sec room local_table h.local_at h.bone_count x₃.1 x₄.1 x₄.0 p₄) in
      let w₅ = whole-kept w₄ (list-kept sec room parents_table h.parents_at h.bone_count x₄.1 x₅.1 x₅.0 p₅) in
      let w₆ = whole-kept w₅ (list-kept sec room children_table h.children_at h.child_count x₅.1 x₆.1 x₆.0 p₆) in
      let w₇ = whole-kept (whole_columns x₂.0 x₄.0 x₆.1 w₆) (pool-kept room root skeleton row v w p₇) in
      let k = skeleton_row h x₁.0 x₂.0 x₃.0 x₄.0 x₅.0 x₆.0 in
      let i : ◌≡◌ {A = SkeletonRow × Tables} (k, add_skeleton k w) (s, u) = done-is e₇ in
      subst (λ (x : SkeletonRow × Tables). Whole x.0.bones x.1) i
      (whole-kept w₇ (record { bones = refl; members = refl }))

  skeleton-whole :
      (root : ℕ) (s : SkeletonRow) (u : Tables) → read_skeleton sec room root no_rows ≡ done (Some s, u) → Whole s.bones u
  unfolding read_skeleton skeleton_from find as_kind
  skeleton-whole zero s u e =
      let q : ◌≡◌ {A = Option SkeletonRow} None (Some s) = step_value e in
      let z : ◌≡◌ {A = ℕ} 0 1 = cc in
      absurd (omega arith)
  skeleton-whole (suc a) s u e =
      gone (read_new_skeleton sec room (suc a) no_rows) _ (Some s, u) e λ y p e₁.
      let q : ◌≡◌ {A = Option SkeletonRow} (Some y.0) (Some s) = step_value e₁ in
      let i : y.0 ≡ s = cc in
      new-whole (suc a) s u (p ∙ λ j. done (i j, step_tables e₁ j))

-- ---- the bones read, and the table

bones_gathered : (o : Option Rows) (t : Tables) → Whole o t → bones_read o t ≡ t.bones
bones_gathered None t h = sym h.all
bones_gathered (Some r) t h =
    let n = length t.bones in
    let i : take r.count (drop r.first t.members) ≡ up_from 0 n =
    rw (h.all.0, h.all.1, h.order) (take_all n (up_from 0 n) (omega (arith, length-up_from 0 n))) in
    ap (gather t.bones) i ∙ gathered t.bones

bones-counted : (o : Option Rows) (t : Tables) → Whole o t → part_length o ≡ length t.bones
bones-counted None t h = sym (ap length h.all)
bones-counted (Some r) t h = h.all.1

-- A section that reads: the bones read, from the table that holds their rows.
pub record BonesRead (o : Option Rows) (u : Tables) : Type 0 where
  -- they are all the rows, in order
  pub all : bones_read o u ≡ u.bones
  pub count : part_length o ≡ length u.bones
  pub fit : AllFit u.bones
  -- so the table gives them back, whatever stands behind their rows
  pub table : (rest : List ℕ) → bones_of (part_length o) (flat_map bone_words u.bones ++ rest) ≡ bones_read o u

pub bones_read_lem :
    (sec : Section) → SectionBytes sec → (room : Room) (root : ℕ) (s : SkeletonRow) (u : Tables) →
    read_skeleton sec room root no_rows ≡ done (Some s, u) → BonesRead s.bones u
bones_read_lem sec bytes room root s u e =
    let w = skeleton-whole sec bytes room root s u e in
    let all = bones_gathered s.bones u w in
    let count = bones-counted s.bones u w in
    record {
      all = all;
      count = count;
      fit = w.fits;
      table =
          λ rest.
          ap (λ (n : ℕ). bones_of n (flat_map bone_words u.bones ++ rest)) count ∙ bones_back_lem rest w.fits ∙ sym all;
    }
