-- `read_chains::chains::read_head` meets its contract: a link that is known, or a chain that is read. Assumes nothing.
use mathlib.Core.Path.{ap, ◌∙◌}
use Rattle.std.specs.Prelude.{Ok}
use Rattle.std.proofs.lemmas.Result.{err_from_is_err_and}
use Rattle.read_chains.proofs.Chaining.{link-placed, head_known, head_other, head_new, head_lost}
use Rattle.read_chains.proofs.chains.read_head.Goals as goal

pub returns-in_err-link : goal.returns-in_err-link
returns-in_err-link c =
    let p = err_from_is_err_and c.from_residual.result c.from_residual.ensures.1 in
    record { table = rw (p.1, p.2) (head_other _ c.link_to.ensures c.in_err-link.was) }

pub read_chain-requires : goal.read_chain-requires
read_chain-requires c = link-placed c.link_to.ensures (c.in_ok-link.was ∙ ap Ok c.in-Unread.is)

pub returns-in-To : goal.returns-in-To
returns-in-To c = record { table = head_known _ c.link_to.ensures (c.in_ok-link.was ∙ ap Ok c.in-To.is) }

pub returns-in_err-now-in-Unread : goal.returns-in_err-now-in-Unread
returns-in_err-now-in-Unread c =
    let p = err_from_is_err_and c.from_residual-in_err-now-in-Unread.result c.from_residual-in_err-now-in-Unread.ensures.1 in
    record {
      table =
          rw (p.1, p.2)
          (head_lost _ c.link_to.ensures (c.in_ok-link.was ∙ ap Ok c.in-Unread.is) c.read_chain.ensures c.in_err-now-in-Unread.was);
    }

pub returns-in_ok-now-in-Unread : goal.returns-in_ok-now-in-Unread
returns-in_ok-now-in-Unread c =
    record {
      table =
          head_new _ c.link_to.ensures (c.in_ok-link.was ∙ ap Ok c.in-Unread.is) c.read_chain.ensures c.in_ok-now-in-Unread.was
          c.link_of.ensures;
    }
