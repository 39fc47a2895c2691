-- `read_bones::bone::new_name` meets its contract. Assumes nothing.
use Rattle.std.proofs.lemmas.Result.{err_from_is_err_and}
use Rattle.read_bones.proofs.Names.{new_name-refused, new_name-full, new_name-done}
use Rattle.read_bones.proofs.bone.new_name.Goals as goal

pub returns-in_err-name : goal.returns-in_err-name
returns-in_err-name c =
    let p = err_from_is_err_and c.from_residual.result c.from_residual.ensures.1 in
    rw (p.1, p.2) (new_name-refused _ _ c.name_at.ensures.answer _ c.in_err-name.was)

pub returns-in_err-put_at : goal.returns-in_err-put_at
returns-in_err-put_at c =
    let p = err_from_is_err_and c.from_residual-in_err-put_at.result c.from_residual-in_err-put_at.ensures.1 in
    rw (p.1, p.2) (new_name-full _ _ c.name_at.ensures.answer _ c.in_ok-name.was (c.put_at.ensures.table.at c.requires) c.in_err-put_at.was)

pub returns : goal.returns
returns c =
    new_name-done _ _ c.name_at.ensures.answer _ c.in_ok-name.was (c.put_at.ensures.table.at c.requires) c.in_ok-put_at.was
