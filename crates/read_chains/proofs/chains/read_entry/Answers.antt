-- `read_chains::chains::read_entry` meets its contract: the refusals, the end, the next entry. Assumes nothing.
use native.Mathlib.Omega.{arith}
use mathlib.Core.Path.{ap, ◌∙◌}
use Rattle.std.specs.Prelude.{Ok}
use lib.ListN.{length}
use Rattle.std.proofs.lemmas.Result.{err_from_is_err_and}
use Rattle.read_chains.proofs.Lent.{room_most}
use Rattle.read_chains.proofs.Steps.{step_lost, step_full, step_other, step_end, step_next}
use Rattle.read_chains.proofs.chains.read_entry.Goals as goal

pub returns-in_err-entry : goal.returns-in_err-entry
returns-in_err-entry c =
    let p = err_from_is_err_and c.from_residual.result c.from_residual.ensures.1 in
    rw (p.1, p.2) (step_lost _ _ _ c.entry_at.ensures.answer c.in_err-entry.was)

pub returns-in_err-put_at : goal.returns-in_err-put_at
returns-in_err-put_at c =
    let p = err_from_is_err_and c.from_residual-in_err-put_at.result c.from_residual-in_err-put_at.ensures.1 in
    rw (p.1, p.2) (step_full _ _ _ c.entry_at.ensures.answer c.in_ok-entry.was (c.put_at.ensures.table.at c.requires.1) c.in_err-put_at.was)

pub returns-in_err-link : goal.returns-in_err-link
returns-in_err-link c =
    let p = err_from_is_err_and c.from_residual-in_err-link.result c.from_residual-in_err-link.ensures.1 in
    rw (p.1, p.2) (step_other _ _ _ c.entry_at.ensures.answer c.in_ok-entry.was (c.put_at.ensures.table.at c.requires.1) c.in_ok-put_at.was
    c.requires.0 c.link_to.ensures c.in_err-link.was)

pub overflow_add-row : goal.overflow_add-row
overflow_add-row c =
    omega (arith, c.requires.0, room_most (length c.args.entries.now))

pub returns-in-To : goal.returns-in-To
returns-in-To c =
    step_end _ _ _ c.entry_at.ensures.answer c.in_ok-entry.was (c.put_at.ensures.table.at c.requires.1) c.in_ok-put_at.was
    c.requires.0 c.link_to.ensures (c.in_ok-link.was ∙ ap Ok c.in-To.is) c.store.ensures

pub returns-in-Unread : goal.returns-in-Unread
returns-in-Unread c =
    step_next _ _ _ c.entry_at.ensures.answer c.in_ok-entry.was (c.put_at.ensures.table.at c.requires.1) c.in_ok-put_at.was
    c.requires.0 c.link_to.ensures (c.in_ok-link.was ∙ ap Ok c.in-Unread.is) c.link_of-link.ensures c.store-in-Unread.ensures
