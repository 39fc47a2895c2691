-- `check_stages::chains_stage` meets its contract. Assumes nothing.
use Rattle.check_stages.proofs.Stages.{chains_stage_lem}
use Rattle.check_stages.proofs.chains_stage.Goals as goal

pub returns-clause-answer : goal.returns-clause-answer
returns-clause-answer c =
    chains_stage_lem c.args.n c.args.bones.now c.args.count c.args.buckets.now c.args.entries.now _ _
    c.chains_judged-r.ensures.answer c.build_bone_tags-derived.ensures.answer c.build_bone_tags-derived.ensures.buckets
    c.build_bone_tags-derived.ensures.entries
