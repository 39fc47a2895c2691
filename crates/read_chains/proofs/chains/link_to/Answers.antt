-- `read_chains::chains::link_to` meets its contract: address 0, or what the pool holds. Assumes nothing.
use mathlib.Core.Path.{ap, ◌∙◌}
use Rattle.std.specs.Prelude.{Ok}
use Rattle.std.proofs.lemmas.Result.{err_from_is_err_and}
use Rattle.read_chains.proofs.Entries.{links-zero, links-unread, links_read_lem, links-other}
use Rattle.read_chains.proofs.chains.link_to.Goals as goal

pub returns-then-va-eq0 : goal.returns-then-va-eq0
returns-then-va-eq0 c = links-zero _ _ c.if-va-eq0.true

pub returns-in_err-stored : goal.returns-in_err-stored
returns-in_err-stored c =
    let p = err_from_is_err_and c.from_residual.result c.from_residual.ensures.1 in
    rw (p.1, p.2) (links-other c.if-va-eq0.false (c.cached_at.ensures.answer.at _ c.place-spot.ensures.row) c.in_err-stored.was)

pub returns-in-Some : goal.returns-in-Some
returns-in-Some c =
    links_read_lem c.if-va-eq0.false (c.cached_at.ensures.answer.at _ c.place-spot.ensures.row)
    (c.in_ok-stored.was ∙ ap Ok c.in-Some.is) c.link_of.ensures

pub returns-in-None : goal.returns-in-None
returns-in-None c =
    links-unread c.if-va-eq0.false (c.cached_at.ensures.answer.at _ c.place-spot.ensures.row)
    (c.in_ok-stored.was ∙ ap Ok c.in-None.is) c.place-spot.ensures.row
