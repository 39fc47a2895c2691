-- Each turn enters one position more.
use native.Mathlib.Omega.{arith}
use mathlib.Core.Path.{sym, ◌∙◌}
use mathlib.Core.List.{map}
use Prim.Native.Nat.{◌<◌}
use lib.ListN.{length, length-map}
use Rattle.format.specs.Chains.{entry_count}
use Rattle.format.specs.Section.{Place}
use Rattle.format.specs.Bone.{Bone}
use Rattle.format.specs.Rows.{bone_of}
use Rattle.derive_chains.proofs.Tagging.{entering_none, entering_asks, entering_more, entering_all}
use Rattle.derive_chains.proofs.TagsOutcome.{length-entered, tag_of_row}
use Rattle.derive_chains.proofs.tags.enter_tags.Goals as goal

pub slice_bounds-entered-end : goal.slice_bounds-entered-end
slice_bounds-entered-end c = sym (length-entered _ _ c.entry_count.ensures.answer ∙ sym c.entry_count.ensures.answer)

pub loop-p-init : goal.loop-p-init
loop-p-init c = entering_none _ c.requires

pub enter_tag-requires : goal.enter_tag-requires
enter_tag-requires c =
    let l = length-entered c.args.bones.now _ c.entry_count.ensures.answer in
    entering_asks c.requires c.loop-p.invariant (omega (arith, c.loop-p-test.true, l))

pub loop-p-preserved : goal.loop-p-preserved
loop-p-preserved c =
    let l = length-entered c.args.bones.now _ c.entry_count.ensures.answer in
    let h : c.loop-p.p < entry_count (length c.args.bones.now) = omega (arith, c.loop-p-test.true, l) in
    let t = tag_of_row _ _ _ _ c.loop-p-test.true c.entry_count.ensures.answer in
    entering_more c.requires c.loop-p.invariant h t c.enter_tag.auto.buckets c.enter_tag.auto.entries c.enter_tag.ensures.rows

pub returns : goal.returns
returns c =
    let l = length-entered c.args.bones.now _ c.entry_count.ensures.answer in
    let n = length-map (map bone_of c.args.bones.now) (λ (b : Bone Place). b.tag) ∙ length-map c.args.bones.now bone_of in
    record { rows = entering_all c.requires c.loop-p.invariant n (omega (arith, c.loop-p-test.false, l)) }
