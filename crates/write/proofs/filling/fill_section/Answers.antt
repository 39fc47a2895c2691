-- `write::filling::fill_section` meets its contract. Assumes nothing.
use mathlib.Core.Path.{◌∙◌}
use Rattle.write.proofs.Stages.{skeleton_asks, chains_ask, bones_ask, lists_ask, section_filled}
use Rattle.write.proofs.filling.fill_section.Goals as goal

pub put_skeleton-requires : goal.put_skeleton-requires
put_skeleton-requires c = skeleton_asks c.requires

pub put_chains-requires : goal.put_chains-requires
put_chains-requires c = chains_ask c.requires c.put_skeleton.auto.d

pub fill_bones-requires : goal.fill_bones-requires
fill_bones-requires c = bones_ask c.requires (c.put_chains.auto.d ∙ c.put_skeleton.auto.d)

pub fill_lists-requires : goal.fill_lists-requires
fill_lists-requires c = lists_ask c.requires (c.fill_bones.auto.d ∙ c.put_chains.auto.d ∙ c.put_skeleton.auto.d)

pub shape_of-d : goal.shape_of-d
shape_of-d c = c.fill_lists.auto.d ∙ c.fill_bones.auto.d ∙ c.put_chains.auto.d ∙ c.put_skeleton.auto.d

pub returns : goal.returns
returns c = record {
  bytes =
      section_filled c.requires _ c.args.d.now c.put_skeleton.ensures.bytes c.put_chains.ensures.bytes
      c.fill_bones.ensures.bytes c.fill_lists.ensures.bytes;
}
