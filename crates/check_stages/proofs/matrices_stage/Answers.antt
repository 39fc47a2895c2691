-- `check_stages::matrices_stage` meets its contract. Assumes nothing.
use Rattle.check_stages.proofs.Stages.{matrices_few, matrices_stage_lem}
use Rattle.check_stages.proofs.matrices_stage.Goals as goal

pub matrices_judged-r-requires : goal.matrices_judged-r-requires
matrices_judged-r-requires c =
    matrices_few _ c.args.bones.now _ _ c.build_transformations-derived.ensures.answer

pub returns-clause-answer : goal.returns-clause-answer
returns-clause-answer c =
    matrices_stage_lem c.args.n c.args.bones.now c.args.i c.args.inverse.now c.args.l c.args.local.now c.args.dinverse.now
    c.args.dlocal.now c.matrices_judged-r.ensures.answer c.build_transformations-derived.ensures.answer
    c.build_transformations-derived.ensures.rows
