-- `read_bones::new_block` meets its contract. Assumes nothing.
use Rattle.std.proofs.lemmas.Result.{err_from_is_err_and}
use Rattle.read_bones.proofs.Blocks.{block_no_header, block-bones-refused, block-full, block-done}
use Rattle.read_bones.proofs.new_block.Goals as goal

pub returns-in_err-rest-clause-tables : goal.returns-in_err-rest-clause-tables
returns-in_err-rest-clause-tables c =
    let p = err_from_is_err_and c.from_residual.result c.from_residual.ensures.1 in
    rw (p.1, p.2) (block_no_header _ c.args.pointer c.args.n c.args.used c.requires _ _ c.in_err-rest.ensures.answer)

pub returns-in_err-now-clause-tables : goal.returns-in_err-now-clause-tables
returns-in_err-now-clause-tables c =
    let p = err_from_is_err_and c.from_residual-in_err-now.result c.from_residual-in_err-now.ensures.1 in
    rw (p.1, p.2) (block-bones-refused _ c.args.pointer c.args.n c.args.used c.requires _ _ c.in_ok-rest.ensures.answer c.read_bones.ensures.tables
    c.in_err-now.was)

pub returns-in_err-put-clause-tables : goal.returns-in_err-put-clause-tables
returns-in_err-put-clause-tables c =
    let p = err_from_is_err_and c.from_residual-in_err-put.result c.from_residual-in_err-put.ensures.1 in
    rw (p.1, p.2) (block-full _ c.args.pointer c.args.n c.args.used c.requires _ _ c.in_ok-rest.ensures.answer c.read_bones.ensures.tables
    c.in_ok-now.was c.put.ensures.table c.in_err-put.was)

pub returns-clause-tables : goal.returns-clause-tables
returns-clause-tables c =
    block-done _ c.args.pointer c.args.n c.args.used c.requires _ _ c.in_ok-rest.ensures.answer c.read_bones.ensures.tables c.in_ok-now.was
    c.put.ensures.table c.in_ok-put.was
