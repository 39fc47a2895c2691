-- `read_chains::read_bucket` meets its contract: the chain, then room for the bucket. Assumes nothing.
use Rattle.std.proofs.lemmas.Result.{err_from_is_err_and}
use Rattle.read_chains.proofs.Pointers.{bucket_lost, bucket-short, bucket-done}
use Rattle.read_chains.proofs.read_bucket.Goals as goal

pub returns-in_err-head-clause-tables : goal.returns-in_err-head-clause-tables
returns-in_err-head-clause-tables c =
    let p = err_from_is_err_and c.from_residual.result c.from_residual.ensures.1 in
    rw (p.1, p.2) (bucket_lost _ c.read_head.ensures.table c.in_err-head.was)

pub returns-then-used-tables-clause-tables : goal.returns-then-used-tables-clause-tables
returns-then-used-tables-clause-tables c = bucket-short _ c.read_head.ensures.table c.in_ok-head.was c.if-used-tables.true

pub returns-clause-tables : goal.returns-clause-tables
returns-clause-tables c = bucket-done _ c.read_head.ensures.table c.in_ok-head.was c.if-used-tables.false
