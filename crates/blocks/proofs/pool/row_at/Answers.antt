-- `blocks::pool::row_at` meets its contract: the row where the search ends is the address's, or free, or there is none. Assumes
-- nothing.
use native.Mathlib.Omega.{arith}
use Rattle.blocks.proofs.Table.{row_lt, finds-here, finds-free, finds-nowhere}
use Rattle.blocks.proofs.pool.row_at.Goals as goal

pub returns-in_default : goal.returns-in_default
returns-in_default c =
    record { at = λ va p. finds-nowhere c.args.pool.now va c.args.spot p c.in_default.not-Row }

pub returns-then-i-pool : goal.returns-then-i-pool
returns-then-i-pool c =
    rw c.in-Row.is (record { at = λ va p. absurd (omega (arith, row_lt c.args.pool.now va c.in-Row.i p, c.if-i-pool.true)) })

pub returns-then-code-eq0 : goal.returns-then-code-eq0
returns-then-code-eq0 c =
    rw c.in-Row.is (record { at = λ va p. finds-free c.args.pool.now va c.in-Row.i p (rw (← c.kind_in-code.ensures) c.if-code-eq0.true) })

pub returns : goal.returns
returns c =
    rw c.in-Row.is (record {
      at =
          λ va p.
          finds-here c.args.pool.now va c.in-Row.i p c.from_code.result (rw (← c.kind_in-code.ensures) c.if-code-eq0.false)
          (rw (← c.kind_in-code.ensures) c.from_code.ensures.answer);
    })
