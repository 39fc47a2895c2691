-- `read_chains::chains::read_chain` meets its contract: `Chaining` holds at each turn. Assumes nothing.
use native.Mathlib.Omega.{arith}
use mathlib.Core.Path.{ap, ◌∙◌}
use Rattle.std.specs.Prelude.{Ok}
use Rattle.std.proofs.lemmas.Result.{err_from_is_err_and}
use Rattle.read_chains.specs.Lent.{entry_room}
use Rattle.read_chains.proofs.Entries.{no_row-stands, no_row-outside}
use Rattle.read_chains.proofs.Chaining.{chaining_none, chaining_full, chaining_end, chaining_lost, chaining_next, next-placed}
use Rattle.read_chains.proofs.chains.read_chain.Goals as goal

pub loop-row-init : goal.loop-row-init
loop-row-init c = (chaining_none _ _ _ _ _, c.requires)

pub read_entry-requires : goal.read_entry-requires
read_entry-requires c =
    (omega (arith, c.loop-row-test.true, c.rows-row-end.ensures, ap entry_room c.loop-row.invariant.0.same), c.loop-row.invariant.1)

pub returns-in_err-next : goal.returns-in_err-next
returns-in_err-next c =
    let p = err_from_is_err_and c.from_residual.result c.from_residual.ensures.1 in
    rw (p.1, p.2) (chaining_lost c.loop-row.invariant.0 (omega (arith, c.loop-row-test.true, c.rows-row-end.ensures)) c.read_entry.ensures
    c.in_err-next.was)

pub returns-in_default : goal.returns-in_default
returns-in_default c =
    chaining_end c.loop-row.invariant.0 (omega (arith, c.loop-row-test.true, c.rows-row-end.ensures)) c.read_entry.ensures
    (c.in_ok-next.was ∙ ap Ok c.in_default.is)

pub loop-row-preserved : goal.loop-row-preserved
loop-row-preserved c =
    let is = c.in_ok-next.was ∙ ap Ok c.in-Some.is in (
      chaining_next c.loop-row.invariant.0 (omega (arith, c.loop-row-test.true, c.rows-row-end.ensures)) c.read_entry.ensures is
          c.read_entry.auto.entries c.read_entry.auto.pool,
      next-placed c.loop-row.invariant.0 (omega (arith, c.loop-row-test.true, c.rows-row-end.ensures)) c.read_entry.ensures is,
    )

pub returns-in_err-slice : goal.returns-in_err-slice
returns-in_err-slice c =
    let p = err_from_is_err_and c.from_residual-in_err-slice.result c.from_residual-in_err-slice.ensures.1 in
    rw (p.1, p.2) (chaining_full c.loop-row.invariant.0 (omega (arith, c.loop-row-test.false, c.rows-row-end.ensures))
    (no_row-outside _ _ c.in_err-slice.ensures.answer))

pub returns : goal.returns
returns c =
    chaining_full c.loop-row.invariant.0 (omega (arith, c.loop-row-test.false, c.rows-row-end.ensures))
    (no_row-stands _ _ c.in_ok-slice.ensures.answer)
