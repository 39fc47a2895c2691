-- `write::names::from_name` meets its contract. Assumes nothing.
use Rattle.std.proofs.lemmas.Result.{err_from_is_err_and}
use Rattle.write.proofs.Naming.{rest-refused, rest-short, rest-done}
use Rattle.write.proofs.names.from_name.Goals as goal

pub returns-in_err-bytes-clause-name : goal.returns-in_err-bytes-clause-name
returns-in_err-bytes-clause-name c =
    let p = err_from_is_err_and c.from_residual.result c.from_residual.ensures.1 in
    rw (p.1, p.2) (rest-refused _ _ _ c.in_err-bytes.ensures.answer)

pub returns-then-bytes-name-clause-name : goal.returns-then-bytes-name-clause-name
returns-then-bytes-name-clause-name c = rest-short _ _ _ c.in_ok-bytes.ensures.answer c.if-bytes-name.true

pub returns : goal.returns
returns c = record { name = rest-done _ _ _ c.in_ok-bytes.ensures.answer c.if-bytes-name.false; stands = c.if-bytes-name.false }
