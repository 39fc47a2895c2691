-- The rows that `build_bone_tags` leaves hold the chains. Assumes nothing.
use mathlib.Core.Path.{◌≡◌, sym, ap, ◌∙◌}
use Prim.Native.Nat.{ℕ}
use Rattle.std.specs.Prelude.{Some}
use mathlib.Core.List.{List, flat_map}
use lib.ListN.{length, take, length-map}
use lib.Dec.{leb}
use Rattle.format.specs.Result.{Res, done}
use Rattle.format.specs.Section.{Place}
use Rattle.format.specs.Bone.{Bone}
use Rattle.format.specs.Chains.{bucket_count, chains}
use Rattle.format.specs.Deriving.{tags}
use Rattle.format.specs.Check.{chains_along}
use Rattle.format.specs.Rows.{entry_words, bones_of}
use Rattle.format.proofs.Results.{needed}
use Rattle.tables.specs.Outcome.{derived, leaves}
use Rattle.rows.proofs.Rows.{length-bones_of}
use Rattle.derive_chains.specs.ChainRows.{bucket_rows, entry_rows}
use Rattle.derive_chains.specs.Tagging.{tags_hold}
use Rattle.std.specs.Prelude.{Ok}
use Rattle.check_lists.specs.Chained.{entries_in}
use Rattle.check_stages.proofs.Derived.{chains-derived}
use Rattle.theorems.specs.TagChains.{BuildsTags, TagChains}

following :
    (bones : List ℕ) (n count : ℕ) (b₀ e₀ b e : List ℕ) → BuildsTags bones n (Ok count) b₀ e₀ b e →
    chains_along (entries_in e) n (take count b) ≡ Some (chains (tags (bones_of n bones)))
unfolding derived
following bones n count b₀ e₀ b e w =
    let ts = tags (bones_of n bones) in
    let hold = tags_hold n (length bones) (length b₀) (length e₀) in
    let a = sym w.answer in
    let k₂ = needed 2 (leb n 65535) _ count a in
    let k₁ = needed 1 hold (done (bucket_count n)) count k₂.1 in
    let c : count ≡ bucket_count n = cc in
    let l : n ≡ length ts = sym (length-map (bones_of n bones) (λ (x : Bone Place). x.tag) ∙ length-bones_of n bones) in
    chains-derived ts (length b₀) (length e₀)
    (w.buckets ∙ ap (λ (r : Res ℕ). leaves r (bucket_rows ts) (length b₀)) a)
    (w.entries ∙ ap (λ (r : Res ℕ). leaves r (flat_map entry_words (entry_rows ts)) (length e₀)) a) l (c ∙ ap bucket_count l)

pub tag-chains : TagChains
tag-chains = record { following = following }
