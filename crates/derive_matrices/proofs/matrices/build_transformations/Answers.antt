-- The rows are found; the tables are filled in front and zero behind.
use Rattle.std.proofs.Common.{rules, ◌≡◌, ◌-◌, ◌*◌, length}
use Rattle.format.specs.Rows.{cleared}
use Rattle.derive_matrices.proofs.MatrixRoom.{matrices_found, matrices_done}
use Rattle.derive_matrices.proofs.matrices.build_transformations.Goals as goal

pub put_matrices-requires : goal.put_matrices-requires
put_matrices-requires c = matrices_found _ _ _ _ _ c.in-Ok.ensures.answer

pub returns-clause-rows : goal.returns-clause-rows
returns-clause-rows c =
    let i : c.fill-2.new.self ≡ cleared (length c.put_matrices.new.inverse - 16 * c.args.n) = search rules in
    let l : c.fill-3.new.self ≡ cleared (length c.put_matrices.new.local - 16 * c.args.n) = search rules in
    matrices_done _ _ _ _ _ c.in-Ok.ensures.answer c.put_matrices.auto.inverse c.put_matrices.auto.local c.put_matrices.ensures.rows
    i l
