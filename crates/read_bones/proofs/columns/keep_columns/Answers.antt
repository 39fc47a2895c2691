-- `read_bones::columns::keep_columns` meets its contract.
-- The loop's invariant: the rows passed have taken their columns. Assumes nothing.
use Rattle.std.proofs.Common.{arith}
use Rattle.std.proofs.lemmas.List.{take_min}
use Rattle.read_bones.proofs.Keeping.{keeping-more, keeping_no_matrix, keeping_end}
use Rattle.read_bones.proofs.columns.keep_columns.Goals as goal

pub returns-then-matrices-at : goal.returns-then-matrices-at
returns-then-matrices-at c = record {
  table = keeping_no_matrix c.loop-row.invariant (rw c.min.ensures (take_min _ _)) c.if-matrices-at.true;
}

pub loop-row-preserved : goal.loop-row-preserved
loop-row-preserved c =
    keeping-more c.loop-row.invariant (omega (arith, c.loop-row-test.true)) c.if-matrices-at.false
    c.word_in-x.ensures c.word_in-y.ensures c.word_in-z.ensures
    c.word_in-w.ensures c.put_kept.ensures

pub returns : goal.returns
returns c = record {
  table = keeping_end c.loop-row.invariant (rw c.min.ensures (take_min _ _))
      (omega (arith, c.loop-row-test.false, c.min-row-end.ensures));
}
