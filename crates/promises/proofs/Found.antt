-- Found: in an accepted section with two or more bones the lookup gives the greatest position that bears the tag. It takes Room,
-- by which the check's reading is the one spoken of. Assumes nothing.
use mathlib.Core.Path.{◌≡◌, refl, sym, ap, ◌∙◌, subst}
use mathlib.Core.Logic.{◌≢◌}
use Prim.Native.Nat.{ℕ, zero, suc, ◌*◌, ◌%◌, ◌≤◌, ◌<◌}
use native.Mathlib.Nat.{le_trans, mod-lt}
use native.Mathlib.Omega.{arith}
use Rattle.std.specs.Prelude.{Option, None, Some}
use mathlib.Core.List.{List, [], Memᴰ}
use lib.ListN.{length, get_or, length-map}
use lib.Seq.{take_all}
use Rattle.format.specs.Result.{done}
use Rattle.format.specs.Field.{field, words}
use Rattle.format.specs.Section.{Section, Place, part, array}
use Rattle.format.specs.Bone.{Bone}
use Rattle.format.specs.Chains.{Entry, chain, chains, bucket_count, greatest}
use Rattle.format.specs.Deriving.{DeriveRoom, tags}
use Rattle.format.specs.Tables.{Room, inverse_table, local_table, parents_table, children_table, Rows}
use Rattle.format.specs.Tables.{rows, SkeletonRow, Tables, no_rows}
use Rattle.format.specs.Tables.{add_skeleton, find, put, as_kind}
use Rattle.format.specs.Tables as T
use Rattle.format.specs.Records.{Header, header}
use Rattle.format.specs.Read.{skeleton_row, keep_columns, read_bucket_array, read_bones_at, read_list}
use Rattle.format.specs.Read.{read_new_skeleton, skeleton_from, read_skeleton}
use Rattle.format.specs.Lookup.{lookup_in, lookup}
use Rattle.format.specs.Check.{bones_read, chains_along, chains_read}
use Rattle.format.proofs.Results.{gone}
use Rattle.format.proofs.Fields.{length-words, words_at_lem}
use Rattle.promises.specs.Meaning.{ReadsTo, links_read, ChainsFrom, Accepts, Right}
use Rattle.promises.proofs.Chains.{length-chain, buckets_pos, length-chains, chains-at}
use Rattle.promises.proofs.Chains.{first-chain, greatest-some, greatest-none}
use Rattle.promises.proofs.Links.{ChainAt, ChainsAt, follow-chain, array-part}
use Rattle.promises.proofs.EntryRows.{links-length, chains_along_lem}
use Rattle.promises.proofs.ReadChains.{BucketsRead, buckets-read}
use Rattle.promises.proofs.Frames.{Early, step_value, step_tables, put_kept, columns_kept}
use Rattle.promises.proofs.Frames.{chains-kept, bones_read_lem, list-kept, length-bones_read}
use Rattle.promises.proofs.Along.{chains_read_lem, chains-short}
use Rattle.promises.proofs.Check.{accepts_reads, accepts_derived}
use Rattle.promises.proofs.Room.{reads_held}

-- ---- what reading says of the buckets and the bones

-- a section that reads: its header, its bucket array as it was read into empty tables, and the number of its bones
record SkeletonRead (sec : Section) (room : Room) (root : ℕ) (s : SkeletonRow) (t : Tables) : Type 0 where
  head : Header
  heads : header sec root ≡ done head
  chained : Tables
  buckets : read_bucket_array sec room head.buckets_at head.bucket_count no_rows ≡ done (s.buckets, chained)
  kept : t.chained ≡ chained.chained
  bones : length (bones_read s.bones t) ≤ head.bone_count

module _ (sec : Section) (room : Room) where
  buckets_early : (va n : ℕ) (t : Tables) (o : Option Rows) → read_bucket_array sec room va n no_rows ≡ done (o, t) → Early t.pool
  unfolding read_bucket_array
  buckets_early zero n t o e p m =
      let m' : Memᴰ p [] = subst (λ (x : Tables). Memᴰ p x.pool) (sym (step_tables e)) m in
      absurd (mathlib.Core.List.Memᴰ.not-nil m')
  buckets_early (suc a) n t o e p m = (buckets-read sec room a n t o e).1.sound.early p m

  new-skeleton_read :
      (root : ℕ) (s : SkeletonRow) (t : Tables) → read_new_skeleton sec room root no_rows ≡ done (s, t) →
      SkeletonRead sec room root s t
  unfolding read_new_skeleton
  new-skeleton_read root s t e =
      gone (header sec root) _ (s, t) e λ h p₀ e₀.
      gone (read_bucket_array sec room h.buckets_at h.bucket_count no_rows) _ (s, t) e₀ λ x₁ p₁ e₁.
      gone (read_bones_at sec room h.bones_at h.bone_count x₁.1) _ (s, t) e₁ λ x₂ p₂ e₂.
      gone (read_list sec room inverse_table h.inverse_at h.bone_count x₂.1) _ (s, t) e₂ λ x₃ p₃ e₃.
      gone (read_list sec room local_table h.local_at h.bone_count x₃.1) _ (s, t) e₃ λ x₄ p₄ e₄.
      gone (read_list sec room parents_table h.parents_at h.bone_count x₄.1) _ (s, t) e₄ λ x₅ p₅ e₅.
      gone (read_list sec room children_table h.children_at h.child_count x₅.1) _ (s, t) e₅ λ x₆ p₆ e₆.
      let u₆ = keep_columns x₂.0 x₄.0 x₆.1 in
      gone (put room root T.skeleton (rows (length x₆.1.skeletons) 1) u₆) _ (s, t) e₆ λ t₇ p₇ e₇.
      let k = skeleton_row h x₁.0 x₂.0 x₃.0 x₄.0 x₅.0 x₆.0 in
      let b = bones_read_lem sec room h.bones_at h.bone_count x₁.1 x₂.1 x₂.0
      (buckets_early h.buckets_at h.bucket_count x₁.1 x₁.0 p₁) p₂ in
      let q : ◌≡◌ {A = SkeletonRow × Tables} (k, add_skeleton k t₇) (s, t) = cc in
      subst (λ (x : SkeletonRow × Tables). SkeletonRead sec room root x.0 x.1) q
      (record {
        head = h;
        heads = p₀;
        chained = x₁.1;
        buckets = p₁;
        kept =
            put_kept room _ u₆ t₇ _ p₇
            ∙ columns_kept x₂.0 x₄.0 x₆.1
            ∙ list-kept sec room children_table h.children_at h.child_count x₅.1 x₆.1 x₆.0 p₆
            ∙ list-kept sec room parents_table h.parents_at h.bone_count x₄.1 x₅.1 x₅.0 p₅
            ∙ list-kept sec room local_table h.local_at h.bone_count x₃.1 x₄.1 x₄.0 p₄
            ∙ list-kept sec room inverse_table h.inverse_at h.bone_count x₂.1 x₃.1 x₃.0 p₃
            ∙ b.0;
        bones = le_trans (length-bones_read x₂.0 (add_skeleton k t₇)) b.1;
      })

  -- a section that reads, read alone: its root is not 0
  skeleton_read_lem :
      (root : ℕ) (s : SkeletonRow) (t : Tables) → read_skeleton sec room root no_rows ≡ done (Some s, t) →
      (root ≢ 0) × SkeletonRead sec room root s t
  unfolding read_skeleton skeleton_from find as_kind
  skeleton_read_lem zero s t e =
      let q : ◌≡◌ {A = Option SkeletonRow} None (Some s) = step_value e in
      let z : ◌≡◌ {A = ℕ} 0 1 = cc in
      absurd (omega arith)
  skeleton_read_lem (suc a) s t e =
      gone (read_new_skeleton sec room (suc a) no_rows) _ (Some s, t) e λ y p e₁.
      let q₀ : ◌≡◌ {A = Option SkeletonRow} (Some y.0) (Some s) = step_value e₁ in
      let q₁ : y.0 ≡ s = cc in
      (λ z. omega (arith, z), new-skeleton_read (suc a) s t (p ∙ λ i. done (q₁ i, step_tables e₁ i)))

-- ---- the lookup

-- in chains derived from some tags, where there are buckets and as many entries may be visited as there are tags
module _ (sec : Section) (tag n l : ℕ) (ts : List ℕ) (fits : length ts ≤ n) (some-buckets : 0 < bucket_count (length ts)) where
  lookup-chains :
      (a c : ℕ) (bytes : List ℕ) → array sec (suc a) (8 * c) ≡ done bytes → ChainsAt sec (words 8 c bytes) (chains ts) →
      lookup_in sec tag n (suc a) c ≡ done (greatest ts tag)
  unfolding lookup_in
  lookup-chains a zero bytes e (m, h) = absurd (omega (arith, length-chains ts, m, length-words 8 0 bytes))
  lookup-chains a (suc c) bytes e (m, h) =
      let k : bucket_count (length ts) ≡ suc c = sym (length-chains ts) ∙ m ∙ length-words 8 (suc c) bytes in
      let i = tag % suc c in
      let small : tag % suc c < suc c = mod-lt tag (omega arith) in
      let stands : part sec (suc a) (8 * suc c) ≡ done bytes =
      sym (array-part sec (suc a) (8 * suc c) (λ z. omega (arith, z))) ∙ e in
      let there : get_or (chains ts) i [] ≡ chain ts (suc c) i =
      chains-at ts i (omega (arith, k, small)) ∙ ap (λ x. chain ts x i) k in
      let at : ChainAt sec (field 8 bytes (8 * i)) (chain ts (suc c) i) =
      subst (λ x. ChainAt sec x (chain ts (suc c) i)) (words_at_lem 8 (suc c) bytes i small)
      (subst (ChainAt sec (get_or (words 8 (suc c) bytes) i 0)) there (h i (omega (arith, length-words 8 (suc c) bytes, small)))) in
      rw stands
      (follow-chain sec tag n at (omega (arith, fits, length-chain ts (suc c) i)) ∙ ap done (first-chain ts (suc c) tag))

  lookup-buckets :
      (a c : ℕ) (t : Tables) → BucketsRead sec a c t → chains_read l (Some (rows 0 c)) t ≡ Some (chains ts) →
      lookup_in sec tag n (suc a) c ≡ done (greatest ts tag)
  lookup-buckets a c t b e =
      let ps = words 8 c b.bytes in
      let long : length t.chained.buckets ≡ c =
      links-length b.at ps t.chained.buckets b.linked ∙ length-words 8 c b.bytes in
      lookup-chains a c b.bytes b.stands
      (chains_along_lem sec b.at t.chained.entries b.long b.sound.held l ps t.chained.buckets (chains ts) b.linked
      (ap (chains_along t.chained.entries l) (sym (take_all c t.chained.buckets (omega (arith, long)))) ∙ e))

  lookup-array :
      (room : Room) (va c : ℕ) (o : Option Rows) (t : Tables) → read_bucket_array sec room va c no_rows ≡ done (o, t) →
      chains_read l o t ≡ Some (chains ts) → lookup_in sec tag n va c ≡ done (greatest ts tag)
  unfolding read_bucket_array
  lookup-array room zero c o t e k =
      let k₀ : ◌≡◌ {A = Option (List (List Entry))} (Some []) (Some (chains ts)) =
      subst (λ x. chains_read l x t ≡ Some (chains ts)) (sym (step_value e)) k in
      let q : [] ≡ chains ts = cc in
      absurd (omega (arith, length-chains ts, ap length q))
  lookup-array room (suc a) c o t e k =
      let g = buckets-read sec room a c t o e in
      lookup-buckets a c t g.1 (subst (λ x. chains_read l x t ≡ Some (chains ts)) g.0 k)

-- in a section that reads to chains derived from its bones, two or more of them
pub lookup-greatest :
    (sec : Section) (room : Room) (root tag : ℕ) (s : SkeletonRow) (t : Tables) →
    read_skeleton sec room root no_rows ≡ done (Some s, t) →
    ChainsFrom t.chained.entries (links_read s.buckets t) (chains (tags (bones_read s.bones t))) →
    2 ≤ length (bones_read s.bones t) → lookup sec root tag ≡ done (greatest (tags (bones_read s.bones t)) tag)
unfolding lookup
lookup-greatest sec room zero tag s t e k h = absurd ((skeleton_read_lem sec room zero s t e).0 refl)
lookup-greatest sec room (suc a) tag s t e k h =
    let g = (skeleton_read_lem sec room (suc a) s t e).1 in
    let bones = bones_read s.bones t in
    let n : length (tags bones) ≡ length bones = length-map bones (λ (b : Bone Place). b.tag) in
    let read : chains_read (length bones) s.buckets t ≡ Some (chains (tags bones)) =
    (chains_read_lem (length bones) s.buckets t (chains (tags bones)) (chains-short bones)).1 k in
    rw g.heads
    (lookup-array sec tag g.head.bone_count (length bones) (tags bones) (omega (arith, n, g.bones))
    (buckets_pos (length (tags bones)) (omega (arith, n, h))) room g.head.buckets_at g.head.bucket_count s.buckets
    g.chained g.buckets (sym (chains-kept (length bones) s.buckets g.chained t g.kept) ∙ read))

greatest-right : (ts : List ℕ) (tag : ℕ) (o : Option ℕ) → greatest ts tag ≡ o → Right ts tag (done o)
greatest-right ts tag None e = greatest-none ts tag e
greatest-right ts tag (Some p) e = greatest-some ts tag p e

pub found :
    (sec : Section) (root : ℕ) (room : Room) (droom : DeriveRoom) → Accepts sec room droom root →
    (s : SkeletonRow) (t : Tables) → ReadsTo sec root s t → 2 ≤ length (bones_read s.bones t) →
    (tag : ℕ) → tag ≤ 65535 → Right (tags (bones_read s.bones t)) tag (lookup sec root tag)
found sec root room droom a s t r h tag small =
    let w = accepts_reads sec room droom root a.count a.says in
    let e = w.2 ∙ ap done (sym (reads_held sec root s t r room (Some w.0, w.1) w.2).1) in
    let d = accepts_derived sec room droom root s t a.count e a.says in
    let ts = tags (bones_read s.bones t) in
    rw (lookup-greatest sec room root tag s t e d.same_chains h) (greatest-right ts tag (greatest ts tag) refl)
