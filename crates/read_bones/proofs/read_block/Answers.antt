-- `read_bones::read_block` meets its contract. Assumes nothing.
use mathlib.Core.Path.{ap, ◌∙◌}
use Rattle.std.specs.Prelude.{Ok}
use Rattle.std.proofs.Common.{rules}
use Rattle.std.proofs.lemmas.Result.{err_from_is_err_and}
use Rattle.read_bones.proofs.Blocks.{block_null, block-below, block-nowhere, block-unread, block_again, block-other, named_as, block_by}
use Rattle.read_bones.proofs.read_block.Goals as goal

pub returns-then-pointer-eq0-clause-tables : goal.returns-then-pointer-eq0-clause-tables
returns-then-pointer-eq0-clause-tables c = block_null _ c.args.pointer c.args.n c.args.used _ _ c.if-pointer-eq0.true

pub returns-then-pointer-lt-HEADER_SIZE-clause-tables : goal.returns-then-pointer-lt-HEADER_SIZE-clause-tables
returns-then-pointer-lt-HEADER_SIZE-clause-tables c =
    block-below _ c.args.pointer c.args.n c.args.used _ _ c.if-pointer-eq0.false c.if-pointer-lt-HEADER_SIZE.true

pub returns-then-pointer-eq-HEADER_SIZE-clause-tables : goal.returns-then-pointer-eq-HEADER_SIZE-clause-tables
returns-then-pointer-eq-HEADER_SIZE-clause-tables c =
    block-nowhere _ c.args.pointer c.args.n c.args.used _ _ c.if-pointer-lt-HEADER_SIZE.false c.if-pointer-eq-HEADER_SIZE.true

pub returns-in_err-stored-clause-tables : goal.returns-in_err-stored-clause-tables
returns-in_err-stored-clause-tables c =
    let p = err_from_is_err_and c.from_residual.result c.from_residual.ensures.1 in
    rw (p.1, p.2) (block-other _ c.args.pointer c.args.n c.args.used _ _ c.if-pointer-lt-HEADER_SIZE.false
    c.if-pointer-eq-HEADER_SIZE.false c.pooled.ensures.answer c.in_err-stored.was)

pub returns-in-Some-clause-tables : goal.returns-in-Some-clause-tables
returns-in-Some-clause-tables c =
    block_again _ c.args.pointer c.args.n c.args.used _ _ c.if-pointer-lt-HEADER_SIZE.false
    c.if-pointer-eq-HEADER_SIZE.false c.pooled.ensures.answer (c.in_ok-stored.was ∙ ap Ok c.in-Some.is)

pub returns-clause-tables : goal.returns-clause-tables
returns-clause-tables c =
    let new = block-unread _ c.args.pointer c.args.n c.args.used _ _ c.if-pointer-lt-HEADER_SIZE.false
    c.if-pointer-eq-HEADER_SIZE.false c.pooled.ensures.answer (c.in_ok-stored.was ∙ ap Ok c.in_default.is) c.new_block.ensures.tables in
    block_by new (named_as c.new_block.result c.map.result (λ x k h. search rules) c.map.ensures.cases)
