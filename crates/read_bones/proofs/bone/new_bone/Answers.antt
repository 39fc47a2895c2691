-- `read_bones::bone::new_bone` meets its contract. Assumes nothing.
use Rattle.std.proofs.lemmas.Result.{err_from_is_err_and}
use Rattle.read_bones.proofs.Bones.{new_bone_in, new_bone_outside}
use Rattle.read_bones.proofs.bone.new_bone.Goals as goal

pub returns-in_err-b-clause-tables : goal.returns-in_err-b-clause-tables
returns-in_err-b-clause-tables c =
    let p = err_from_is_err_and c.from_residual.result c.from_residual.ensures.1 in
    rw (p.1, p.2) (new_bone_outside _ _ _ c.in_err-b.ensures.answer)

pub returns-clause-tables : goal.returns-clause-tables
returns-clause-tables c = new_bone_in c.in_ok-b.ensures.answer c.bone_from.ensures.tables
