-- `read_chains::read_new` meets its contract: the bytes, the buckets, then the row of the pool. Assumes nothing.
use Rattle.std.proofs.lemmas.Result.{err_from_is_err_and}
use Rattle.read_chains.proofs.Arrays.{new_lost, new-refused, new-full, new-done}
use Rattle.read_chains.proofs.read_new.Goals as goal

pub returns-in_err-bytes-clause-tables : goal.returns-in_err-bytes-clause-tables
returns-in_err-bytes-clause-tables c =
    let p = err_from_is_err_and c.from_residual.result c.from_residual.ensures.1 in
    rw (p.1, p.2) (new_lost _ _ _ _ _ c.in_err-bytes.ensures.answer)

pub returns-in_err-now-clause-tables : goal.returns-in_err-now-clause-tables
returns-in_err-now-clause-tables c =
    let p = err_from_is_err_and c.from_residual-in_err-now.result c.from_residual-in_err-now.ensures.1 in
    rw (p.1, p.2) (new-refused _ _ _ _ _ c.in_ok-bytes.ensures.answer c.in_ok-bytes.ensures.size c.read_pointers.ensures.tables c.in_err-now.was)

pub returns-in_err-put-clause-tables : goal.returns-in_err-put-clause-tables
returns-in_err-put-clause-tables c =
    let p = err_from_is_err_and c.from_residual-in_err-put.result c.from_residual-in_err-put.ensures.1 in
    rw (p.1, p.2) (new-full _ _ _ _ _ c.in_ok-bytes.ensures.answer c.in_ok-bytes.ensures.size c.read_pointers.ensures.tables c.in_ok-now.was
    c.put.ensures.table c.in_err-put.was)

pub returns-clause-tables : goal.returns-clause-tables
returns-clause-tables c =
    new-done _ _ _ _ _ c.in_ok-bytes.ensures.answer c.in_ok-bytes.ensures.size c.read_pointers.ensures.tables c.in_ok-now.was
    c.put.ensures.table c.in_ok-put.was
