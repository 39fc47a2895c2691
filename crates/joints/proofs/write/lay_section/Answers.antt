-- `joints::write::lay_section` meets its contract: the record, and the records of the two lists behind it. Assumes nothing.
use mathlib.Core.Path.{◌∙◌}
use Rattle.joints.proofs.Laying.{section_laid}
use Rattle.joints.proofs.write.lay_section.Goals as goal

pub returns : goal.returns
returns c =
    section_laid c.args.rotation.now c.args.translation.now (c.copy_from_slice.ensures.after ∙ c.store-head.ensures ∙ c.header.ensures)
    c.store.ensures c.store-2.ensures
