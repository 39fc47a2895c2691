-- `read_bones::bone::bone_from` meets its contract. Assumes nothing.
use mathlib.Core.Path.{sym, ap, ◌∙◌}
use Rattle.std.proofs.Common.{arith}
use Rattle.std.proofs.lemmas.Result.{err_from_is_err_and}
use Rattle.format.specs.Refusal.{outcome}
use Rattle.rows.specs.Row.{has_row}
use Rattle.read_bones.proofs.Rows.{has_row_lt}
use Rattle.read_bones.proofs.Bones.{stored_is, bone-name-refused, bone_no_room, bone-full, bone-done}
use Rattle.read_bones.proofs.bone.bone_from.Goals as goal

pub returns-in_err-name-clause-tables : goal.returns-in_err-name-clause-tables
returns-in_err-name-clause-tables c =
    let p = err_from_is_err_and c.from_residual.result c.from_residual.ensures.1 in
    rw (p.1, p.2) (bone-name-refused _ c.args.b.now c.args.va c.args.used _ c.read.ensures.answer c.read_name.ensures c.in_err-name.was)

pub returns-in_err-put_bone-clause-tables : goal.returns-in_err-put_bone-clause-tables
returns-in_err-put_bone-clause-tables c =
    let p = err_from_is_err_and c.from_residual-in_err-put_bone.result c.from_residual-in_err-put_bone.ensures.1 in
    rw (p.1, p.2) (bone_no_room _ c.args.b.now c.args.va c.args.used _ c.read.ensures.answer c.read_name.ensures c.in_ok-name.was _
    c.put_bone.ensures.answer _ c.in_err-put_bone.was)

pub overflow_add-result : goal.overflow_add-result
overflow_add-result c =
    let has = stored_is (has_row c.args.tables.now.bones.now c.args.used) (sym (ap outcome c.in_ok-put_bone.was) ∙ c.put_bone.ensures.answer) in
    omega (arith, c.well_formed, has_row_lt c.args.tables.now.bones.now c.args.used has)

pub returns-in_err-pool_bone-clause-tables : goal.returns-in_err-pool_bone-clause-tables
returns-in_err-pool_bone-clause-tables c =
    let p = err_from_is_err_and c.from_residual-in_err-pool_bone.result c.from_residual-in_err-pool_bone.ensures.1 in
    rw (p.1, p.2) (bone-full _ c.args.b.now c.args.va c.args.used _ c.read.ensures.answer c.read_name.ensures c.in_ok-name.was _
    c.put_bone.ensures.answer c.in_ok-put_bone.was c.pool_bone.ensures _ c.in_err-pool_bone.was)

pub returns-clause-tables : goal.returns-clause-tables
returns-clause-tables c =
    bone-done _ c.args.b.now c.args.va c.args.used _ c.read.ensures.answer c.read_name.ensures c.in_ok-name.was _
    c.put_bone.ensures.answer c.in_ok-put_bone.was c.pool_bone.ensures c.bone_in.result
    c.bone_in.ensures c.put_bone.ensures.rows c.in_ok-pool_bone.was
