-- A section that reads alone, from an empty pool: the buckets and each list are the first rows of their tables, and there are at most
-- 65,535 bones. That the bones read are the rows of their table is in `Bones`. Assumes nothing.
use Prim.Native.Nat.{ℕ, zero, suc, ◌≤◌, ◌<◌}
use native.Mathlib.Omega.{arith}
use mathlib.Core.Path.{◌≡◌, refl, sym, ap, subst, ◌∙◌}
use Rattle.std.specs.Prelude.{Option, None, Some}
use mathlib.Core.List.Memᴰ
use mathlib.Core.List.{[], Memᴰ}
use lib.ListN.{length}
use Rattle.format.specs.Result.{done}
use Rattle.format.specs.Field.{words}
use Rattle.format.specs.Section.{Section, part}
use Rattle.format.specs.Tables.{ListTable, inverse_table, local_table, parents_table, children_table}
use Rattle.format.specs.Tables.{Rows, rows, SkeletonRow, Chained, Lists, Tables, Room, no_rows}
use Rattle.format.specs.Tables.{add_skeleton, words_in, longer, find, put, as_kind}
use Rattle.format.specs.Tables as T
use Rattle.format.specs.Records.{Header, header}
use Rattle.format.specs.Read.{keep_columns, skeleton_row, read_bucket_array, read_bones_at, read_list}
use Rattle.format.specs.Read.{read_new_skeleton, skeleton_from, read_skeleton}
use Rattle.format.proofs.Results.{gone}
use Rattle.format.proofs.Fields.{length-words}
use Rattle.promises.proofs.Pool.{put-gives}
use Rattle.promises.proofs.EntryRows.{links-length}
use Rattle.promises.proofs.ReadChains.{buckets-read}
use Rattle.promises.proofs.Frames.{Early, step_value, step_tables, put_kept, columns_kept, bones_read_lem, list-kept}
use Rattle.format.specs.Tables.{part_length}
use Rattle.read_lists.specs.Lists.{ListsStand}
use Rattle.read_lists.proofs.Standing.{lists-stand-none}
use Rattle.read_lists.proofs.Frames.{list_framed}
use Rattle.read_lists.proofs.Others.{bucket-array_spared, bones_at_spared, columns_spared}
use Rattle.read.proofs.Firsts.{list-first}
use Rattle.read_laws.specs.Bytes.{SectionBytes}
use Rattle.read_laws.proofs.Growing.{done-is, part_bytes, field_fits}

-- what stands are the first rows
abbrev pub Front : Option Rows → ℕ → Type 0
Front None n = Unit {0}
Front (Some r) n = (r.first ≡ 0) × (r.count ≤ n)

pub record Standing (s : SkeletonRow) (u : Tables) : Type 0 where
  pub buckets : Front s.buckets (length u.chained.buckets)
  pub few : part_length s.bones ≤ 65535
  pub inverse : Front s.inverse (length u.lists.inverse)
  pub local : Front s.local (length u.lists.local)
  pub parents : Front s.parents (length u.lists.parents)
  pub children : Front s.children (length u.lists.children)

-- ---- one step each

-- the stored bone count is a number of 16 bits
count_fits : (sec : Section) → SectionBytes sec → (root : ℕ) (h : Header) → header sec root ≡ done h → h.bone_count < 65536
unfolding header
count_fits sec bytes root h e =
    gone (part sec root 98) _ h e λ b q e₁.
    rw (← ap (λ (x : Header). x.bone_count) (done-is e₁)) (field_fits b 94 (part_bytes sec bytes root 98 b q))

module _ (sec : Section) (room : Room) where
  -- the bucket array; besides, no more than buckets and entries is pooled
  buckets-front :
      (va n : ℕ) (t : Tables) (o : Option Rows) → read_bucket_array sec room va n no_rows ≡ done (o, t) →
      Front o (length t.chained.buckets) × Early t.pool
  unfolding read_bucket_array
  buckets-front zero n t o e = (
    subst (λ (x : Option Rows). Front x (length t.chained.buckets)) (step_value e) tt,
    λ p m. absurd (Memᴰ.not-nil (subst (λ (x : Tables). Memᴰ p x.pool) (sym (step_tables e)) m)),
  )
  buckets-front (suc a) n t o e =
      let b = buckets-read sec room a n t o e in
      let k = links-length b.1.at (words 8 n b.1.bytes) t.chained.buckets b.1.linked ∙ length-words 8 n b.1.bytes in (
        subst (λ (x : Option Rows). Front x (length t.chained.buckets)) (sym b.0) (refl, omega (arith, k)),
        b.1.sound.early,
      )

  -- a list that is the first of its table
  list-front :
      (l : ListTable) (va n : ℕ) (t u : Tables) (o : Option Rows) → words_in l t.lists ≡ [] → ListsStand t →
      read_list sec room l va n t ≡ done (o, u) → Front o (length (words_in l u.lists))
  list-front l va n t u None z h e = tt
  list-front l va n t u (Some r) z h e = let f = list-first sec room l t z va n r u h e in (f.zero, f.within)

-- ---- the whole

module _ (sec : Section) (bytes : SectionBytes sec) (room : Room) (root : ℕ) where
  -- its steps, put together
  steps_stand :
      (h : Header) (x₁ x₂ x₃ x₄ x₅ x₆ : Option Rows × Tables) (t₇ : Tables) → header sec root ≡ done h →
      read_bucket_array sec room h.buckets_at h.bucket_count no_rows ≡ done x₁ →
      read_bones_at sec room h.bones_at h.bone_count x₁.1 ≡ done x₂ →
      read_list sec room inverse_table h.inverse_at h.bone_count x₂.1 ≡ done x₃ →
      read_list sec room local_table h.local_at h.bone_count x₃.1 ≡ done x₄ →
      read_list sec room parents_table h.parents_at h.bone_count x₄.1 ≡ done x₅ →
      read_list sec room children_table h.children_at h.child_count x₅.1 ≡ done x₆ →
      put room root T.skeleton (rows (length x₆.1.skeletons) 1) (keep_columns x₂.0 x₄.0 x₆.1) ≡ done t₇ →
      (let k = skeleton_row h x₁.0 x₂.0 x₃.0 x₄.0 x₅.0 x₆.0 in Standing k (add_skeleton k t₇))
  steps_stand h x₁ x₂ x₃ x₄ x₅ x₆ t₇ p₀ p₁ p₂ p₃ p₄ p₅ p₆ p₇ =
      let c₁ = buckets-front sec room h.buckets_at h.bucket_count x₁.1 x₁.0 p₁ in
      let b₂ = bones_read_lem sec room h.bones_at h.bone_count x₁.1 x₂.1 x₂.0 c₁.1 p₂ in
      let s₁ = bucket-array_spared sec room h.buckets_at h.bucket_count no_rows x₁.1 x₁.0 p₁ in
      let s₂ = bones_at_spared sec room h.bones_at h.bone_count x₁.1 x₂.1 x₂.0 p₂ in
      let f₃ = list_framed sec room inverse_table h.inverse_at h.bone_count x₂.1 x₃.1 x₃.0 p₃ in
      let f₄ = list_framed sec room local_table h.local_at h.bone_count x₃.1 x₄.1 x₄.0 p₄ in
      let f₅ = list_framed sec room parents_table h.parents_at h.bone_count x₄.1 x₅.1 x₅.0 p₅ in
      let f₆ = list_framed sec room children_table h.children_at h.child_count x₅.1 x₆.1 x₆.0 p₆ in
      let u₆ = keep_columns x₂.0 x₄.0 x₆.1 in
      let g₇ = put-gives room _ u₆ t₇ _ p₇ in
      -- the buckets stay
      let chained₇ : t₇.chained ≡ x₁.1.chained =
      put_kept room _ u₆ t₇ _ p₇ ∙ columns_kept x₂.0 x₄.0 x₆.1
      ∙ list-kept sec room children_table h.children_at h.child_count x₅.1 x₆.1 x₆.0 p₆
      ∙ list-kept sec room parents_table h.parents_at h.bone_count x₄.1 x₅.1 x₅.0 p₅
      ∙ list-kept sec room local_table h.local_at h.bone_count x₃.1 x₄.1 x₄.0 p₄
      ∙ list-kept sec room inverse_table h.inverse_at h.bone_count x₂.1 x₃.1 x₃.0 p₃
      ∙ b₂.0 in
      -- the lists that the pool gives stand
      let l₂ : ListsStand x₂.1 = s₂.lists (s₁.lists (lists-stand-none no_rows refl)) in
      let l₃ : ListsStand x₃.1 = f₃.lists l₂ in
      let l₄ : ListsStand x₄.1 = f₄.lists l₃ in
      let l₅ : ListsStand x₅.1 = f₅.lists l₄ in
      -- the words of the lists, from step to step
      let m₂ : x₂.1.lists ≡ no_rows.lists = s₂.words ∙ s₁.words in
      let m₃ : x₃.1.lists ≡ longer inverse_table f₃.words x₂.1.lists = ap (λ (y : Tables). y.lists) f₃.is in
      let m₄ : x₄.1.lists ≡ longer local_table f₄.words x₃.1.lists = ap (λ (y : Tables). y.lists) f₄.is in
      let m₅ : x₅.1.lists ≡ longer parents_table f₅.words x₄.1.lists = ap (λ (y : Tables). y.lists) f₅.is in
      let m₆ : x₆.1.lists ≡ longer children_table f₆.words x₅.1.lists = ap (λ (y : Tables). y.lists) f₆.is in
      let m₇ : t₇.lists ≡ x₆.1.lists =
      ap (λ (y : Tables). y.lists) g₇.same ∙ (columns_spared x₂.0 x₄.0 x₆.1).words in
      -- each table is empty before its own list
      let local₃ : x₃.1.lists.local ≡ [] = ap (λ (y : Lists). y.local) m₃ ∙ ap (λ (y : Lists). y.local) m₂ in
      let parents₄ : x₄.1.lists.parents ≡ [] =
      ap (λ (y : Lists). y.parents) m₄ ∙ ap (λ (y : Lists). y.parents) m₃ ∙ ap (λ (y : Lists). y.parents) m₂ in
      let children₅ : x₅.1.lists.children ≡ [] =
      ap (λ (y : Lists). y.children) m₅ ∙ ap (λ (y : Lists). y.children) m₄ ∙ ap (λ (y : Lists). y.children) m₃
      ∙ ap (λ (y : Lists). y.children) m₂ in
      -- and as it was left behind it
      let inverse₇ : t₇.lists.inverse ≡ x₃.1.lists.inverse =
      ap (λ (y : Lists). y.inverse) m₇ ∙ ap (λ (y : Lists). y.inverse) m₆ ∙ ap (λ (y : Lists). y.inverse) m₅
      ∙ ap (λ (y : Lists). y.inverse) m₄ in
      let local₇ : t₇.lists.local ≡ x₄.1.lists.local =
      ap (λ (y : Lists). y.local) m₇ ∙ ap (λ (y : Lists). y.local) m₆ ∙ ap (λ (y : Lists). y.local) m₅ in
      let parents₇ : t₇.lists.parents ≡ x₅.1.lists.parents =
      ap (λ (y : Lists). y.parents) m₇ ∙ ap (λ (y : Lists). y.parents) m₆ in
      let children₇ : t₇.lists.children ≡ x₆.1.lists.children = ap (λ (y : Lists). y.children) m₇ in
      record {
        buckets = rw (ap (λ (y : Chained). length y.buckets) chained₇) c₁.0;
        few = omega (arith, b₂.1, count_fits sec bytes root h p₀);
        inverse =
            rw inverse₇
            (list-front sec room inverse_table h.inverse_at h.bone_count x₂.1 x₃.1 x₃.0
            (ap (λ (y : Lists). y.inverse) m₂) l₂ p₃);
        local =
            rw local₇ (list-front sec room local_table h.local_at h.bone_count x₃.1 x₄.1 x₄.0 local₃ l₃ p₄);
        parents =
            rw parents₇
            (list-front sec room parents_table h.parents_at h.bone_count x₄.1 x₅.1 x₅.0 parents₄ l₄ p₅);
        children =
            rw children₇
            (list-front sec room children_table h.children_at h.child_count x₅.1 x₆.1 x₆.0 children₅ l₅ p₆);
      }

  new-standing : (s : SkeletonRow) (u : Tables) → read_new_skeleton sec room root no_rows ≡ done (s, u) → Standing s u
  unfolding read_new_skeleton
  new-standing s u e =
      gone (header sec root) _ (s, u) e λ h p₀ e₀.
      gone (read_bucket_array sec room h.buckets_at h.bucket_count no_rows) _ (s, u) e₀ λ x₁ p₁ e₁.
      gone (read_bones_at sec room h.bones_at h.bone_count x₁.1) _ (s, u) e₁ λ x₂ p₂ e₂.
      gone (read_list sec room inverse_table h.inverse_at h.bone_count x₂.1) _ (s, u) e₂ λ x₃ p₃ e₃.
      gone (read_list sec room local_table h.local_at h.bone_count x₃.1) _ (s, u) e₃ λ x₄ p₄ e₄.
      gone (read_list sec room parents_table h.parents_at h.bone_count x₄.1) _ (s, u) e₄ λ x₅ p₅ e₅.
      gone (read_list sec room children_table h.children_at h.child_count x₅.1) _ (s, u) e₅ λ x₆ p₆ e₆.
      let u₆ = keep_columns x₂.0 x₄.0 x₆.1 in
      gone (put room root T.skeleton (rows (length x₆.1.skeletons) 1) u₆) _ (s, u) e₆ λ t₇ p₇ e₇.
      let k = skeleton_row h x₁.0 x₂.0 x₃.0 x₄.0 x₅.0 x₆.0 in
      let q : ◌≡◌ {A = SkeletonRow × Tables} (k, add_skeleton k t₇) (s, u) = done-is e₇ in
      subst (λ (x : SkeletonRow × Tables). Standing x.0 x.1) q
      (steps_stand h x₁ x₂ x₃ x₄ x₅ x₆ t₇ p₀ p₁ p₂ p₃ p₄ p₅ p₆ p₇)

pub standing :
    (sec : Section) → SectionBytes sec → (room : Room) (root : ℕ) (s : SkeletonRow) (u : Tables) →
    read_skeleton sec room root no_rows ≡ done (Some s, u) → Standing s u
unfolding read_skeleton skeleton_from find as_kind
standing sec bytes room zero s u e =
    let q : ◌≡◌ {A = Option SkeletonRow} None (Some s) = step_value e in
    let z : ◌≡◌ {A = ℕ} 0 1 = cc in
    absurd (omega arith)
standing sec bytes room (suc a) s u e =
    gone (read_new_skeleton sec room (suc a) no_rows) _ (Some s, u) e λ y p e₁.
    let q₀ : ◌≡◌ {A = Option SkeletonRow} (Some y.0) (Some s) = step_value e₁ in
    let q₁ : y.0 ≡ s = cc in
    new-standing sec bytes room (suc a) s u (p ∙ λ i. done (q₁ i, step_tables e₁ i))
