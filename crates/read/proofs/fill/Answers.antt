-- `read::fill` meets its contract: a header, then the parts, then the row of the pool. Assumes nothing.
use mathlib.Core.Path.{◌∙◌}
use Rattle.std.proofs.lemmas.Result.{err_from_is_err_and}
use Rattle.read.proofs.Filling.{fill_no_header, fill-no_rows, fill_no_matrices, fill_no_indices, fill-full, fill_done}
use Rattle.read.proofs.fill.Goals as goal

pub returns-in_err-h-clause-filled : goal.returns-in_err-h-clause-filled
returns-in_err-h-clause-filled c =
    let p = err_from_is_err_and c.from_residual.result c.from_residual.ensures.1 in
    rw (p.1, p.2)
    (fill_no_header _ _ _ _ _ _ _ _ _ _ _ c.header_at.ensures.answer c.in_err-h.was)

pub returns-in_err-buckets-clause-filled : goal.returns-in_err-buckets-clause-filled
returns-in_err-buckets-clause-filled c =
    let p = err_from_is_err_and c.from_residual-in_err-buckets.result c.from_residual-in_err-buckets.ensures.1 in
    rw (p.1, p.2)
    (fill-no_rows _ _ _ _ _ _ _ _ _ _ _ c.header_at.ensures.answer c.in_ok-h.was c.read_rows.ensures.tables c.in_err-buckets.was)

pub returns-in_err-inverse-clause-filled : goal.returns-in_err-inverse-clause-filled
returns-in_err-inverse-clause-filled c =
    let p = err_from_is_err_and c.from_residual-in_err-inverse.result c.from_residual-in_err-inverse.ensures.1 in
    rw (p.1, p.2)
    (fill_no_matrices _ _ _ _ _ _ _ _ _ _ _ c.header_at.ensures.answer c.in_ok-h.was c.read_rows.ensures.tables c.in_ok-buckets.was
    c.read_matrices.ensures.tables c.in_err-inverse.was)

pub returns-in_err-parents-clause-filled : goal.returns-in_err-parents-clause-filled
returns-in_err-parents-clause-filled c =
    let p = err_from_is_err_and c.from_residual-in_err-parents.result c.from_residual-in_err-parents.ensures.1 in
    rw (p.1, p.2)
    (fill_no_indices _ _ _ _ _ _ _ _ _ _ _ c.header_at.ensures.answer c.in_ok-h.was c.read_rows.ensures.tables c.in_ok-buckets.was
    c.read_matrices.ensures.tables c.in_ok-inverse.was c.read_indices.ensures.tables c.in_err-parents.was)

pub returns-in_err-put-clause-filled : goal.returns-in_err-put-clause-filled
returns-in_err-put-clause-filled c =
    let p = err_from_is_err_and c.from_residual-in_err-put.result c.from_residual-in_err-put.ensures.1 in
    rw (p.1, p.2, c.keep.ensures.local)
    (fill-full _ _ _ _ _ _ _ _ _ _ _ c.header_at.ensures.answer c.in_ok-h.was c.read_rows.ensures.tables c.in_ok-buckets.was
    c.read_matrices.ensures.tables c.in_ok-inverse.was c.read_indices.ensures.tables c.in_ok-parents.was
    c.keep.ensures.bones c.put.ensures.table c.in_err-put.was)

pub returns-clause-filled : goal.returns-clause-filled
returns-clause-filled c =
    rw c.keep.ensures.local
    (fill_done _ _ _ _ _ _ _ _ _ _ _ c.header_at.ensures.answer c.in_ok-h.was c.read_rows.ensures.tables c.in_ok-buckets.was
    c.read_matrices.ensures.tables c.in_ok-inverse.was c.read_indices.ensures.tables c.in_ok-parents.was
    c.keep.ensures.bones c.put.ensures.table c.in_ok-put.was (c.keep.auto.bones ∙ c.read_rows.auto.bones) c.read_rows.auto.buckets
    c.read_rows.auto.entries c.read_matrices.auto.local)
