-- `parts::read_rows` meets its contract: the buckets with their chains, then the bones. Assumes nothing.
use Rattle.std.proofs.lemmas.Result.{err_from_is_err_and}
use Rattle.read.proofs.Two.{rows_no_chains, rows-no_bones, rows-done}
use Rattle.read.proofs.parts.read_rows.Goals as goal

pub returns-in_err-chains : goal.returns-in_err-chains
returns-in_err-chains c =
    let p = err_from_is_err_and c.from_residual.result c.from_residual.ensures.1 in
    rw (p.1, p.2) (record { tables = rows_no_chains _ _ c.chains_in.ensures c.in_err-chains.was })

pub returns-in_err-block : goal.returns-in_err-block
returns-in_err-block c =
    let p = err_from_is_err_and c.from_residual-in_err-block.result c.from_residual-in_err-block.ensures.1 in
    rw (p.1, p.2)
    (record { tables = rows-no_bones _ _ c.chains_in.ensures c.in_ok-chains.was c.bones_in.ensures c.in_err-block.was })

pub returns : goal.returns
returns c = record { tables = rows-done _ _ c.chains_in.ensures c.in_ok-chains.was c.bones_in.ensures c.in_ok-block.was }
