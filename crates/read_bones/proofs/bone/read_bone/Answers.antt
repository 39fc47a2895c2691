-- `read_bones::bone::read_bone` meets its contract. Assumes nothing.
use mathlib.Core.Path.{ap, ◌∙◌}
use Rattle.std.specs.Prelude.{Ok}
use Rattle.std.proofs.lemmas.Result.{err_from_is_err_and}
use Rattle.read_bones.proofs.Bones.{bone-unread, bone_again, bone-other}
use Rattle.read_bones.proofs.bone.read_bone.Goals as goal

pub returns-in_err-pooled-clause-tables : goal.returns-in_err-pooled-clause-tables
returns-in_err-pooled-clause-tables c =
    let p = err_from_is_err_and c.from_residual.result c.from_residual.ensures.1 in
    rw (p.1, p.2) (bone-other _ c.pooled.ensures.answer c.in_err-pooled.was)

pub returns-in-None-clause-tables : goal.returns-in-None-clause-tables
returns-in-None-clause-tables c =
    bone-unread _ c.pooled.ensures.answer (c.in_ok-pooled.was ∙ ap Ok c.in-None.is) c.new_bone.ensures.tables

pub returns-in-Some-clause-tables : goal.returns-in-Some-clause-tables
returns-in-Some-clause-tables c = bone_again _ c.pooled.ensures.answer (c.in_ok-pooled.was ∙ ap Ok c.in-Some.is)
