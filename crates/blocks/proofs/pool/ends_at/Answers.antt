-- `blocks::pool::ends_at` meets its contract: a free row, or one by its address. Assumes nothing.
use mathlib.Core.Path.{sym, ◌∙◌}
use Rattle.blocks.proofs.Scanning.{ends-free, ends_by}
use Rattle.blocks.proofs.pool.ends_at.Goals as goal

pub returns-then-kind_in-eq0 : goal.returns-then-kind_in-eq0
returns-then-kind_in-eq0 c =
    ends-free c.args.pool.now c.args.va c.args.i (sym c.kind_in.ensures ∙ c.if-kind_in-eq0.true)

pub returns : goal.returns
returns c =
    ends_by c.args.pool.now c.args.va c.args.i (λ e. c.if-kind_in-eq0.false (c.kind_in.ensures ∙ e))
