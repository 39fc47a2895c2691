-- `check_stages::indices_stage` meets its contract. Assumes nothing.
use Rattle.check_stages.proofs.Stages.{indices_stage_lem}
use Rattle.check_stages.proofs.indices_stage.Goals as goal

pub returns-clause-answer : goal.returns-clause-answer
returns-clause-answer c =
    indices_stage_lem c.args.n c.args.bones.now c.args.p c.args.parents.now c.args.c c.args.children.now _ _ _
    c.indices_judged-r.ensures.answer c.build_indices-derived.ensures.answer c.build_indices-derived.ensures.parents
    c.build_indices-derived.ensures.children
