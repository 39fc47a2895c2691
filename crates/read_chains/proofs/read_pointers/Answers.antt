-- `read_chains::read_pointers` meets its contract: `Bucketing` holds at each turn. Assumes nothing.
use native.Mathlib.Omega.{arith}
use Rattle.std.proofs.lemmas.Result.{err_from_is_err_and}
use Rattle.read_chains.proofs.Pointers.{pointer_read, bucketing_none, bucketing_all, bucketing_lost, bucketing_more, same_none, same-more}
use Rattle.read_chains.proofs.read_pointers.Goals as goal

pub loop-pointer-init : goal.loop-pointer-init
loop-pointer-init c = (bucketing_none _ _ _ _ _ _ _, same_none _)

pub loop-pointer-preserved : goal.loop-pointer-preserved
loop-pointer-preserved c =
    let l = rw c.as_chunks.ensures.front_len at c.loop-pointer-test.true in (
      bucketing_more c.loop-pointer.invariant.0 l (pointer_read _ c.as_chunks.ensures.front l c.from_le_bytes.ensures)
          c.read_bucket.ensures.tables c.in_ok-now.was
          c.read_bucket.ensures.same.buckets.size c.read_bucket.ensures.same.entries.size c.read_bucket.ensures.same.pool.size,
      same-more c.loop-pointer.invariant.1 c.read_bucket.ensures.same,
    )

pub returns-in_err-now-clause-tables : goal.returns-in_err-now-clause-tables
returns-in_err-now-clause-tables c =
    let p = err_from_is_err_and c.from_residual.result c.from_residual.ensures.1 in
    let l = rw c.as_chunks.ensures.front_len at c.loop-pointer-test.true in
    rw (p.1, p.2) (bucketing_lost c.loop-pointer.invariant.0 l (pointer_read _ c.as_chunks.ensures.front l c.from_le_bytes.ensures)
    c.read_bucket.ensures.tables c.in_err-now.was)

pub returns-clause-tables : goal.returns-clause-tables
returns-clause-tables c =
    bucketing_all c.loop-pointer.invariant.0 (omega (arith, c.as_chunks.ensures.front_len, c.loop-pointer-test.false))
