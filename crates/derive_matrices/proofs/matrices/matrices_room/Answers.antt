-- A table that lacks the rows has no room.
use Rattle.std.proofs.lemmas.Result.{err_from_is_err_and}
use Rattle.derive_matrices.proofs.MatrixRoom.{matrices_short}
use Rattle.derive_matrices.proofs.matrices.matrices_room.Goals as goal

pub returns-in_err-rows : goal.returns-in_err-rows
returns-in_err-rows c =
    let p = err_from_is_err_and c.from_residual.result c.from_residual.ensures.1 in
    record { answer = rw (p.1, p.2) (matrices_short _ _ _ _ _ _ c.in_err-rows.ensures.answer) }
