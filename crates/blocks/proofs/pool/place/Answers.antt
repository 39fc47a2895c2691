-- `blocks::pool::place` meets its contract: the search ends at the home, or as `search` says. Assumes nothing.
use Rattle.blocks.proofs.Scanning.{placed-nowhere, placed_first}
use Rattle.blocks.proofs.pool.place.Goals as goal

pub returns-then-rows-eq0 : goal.returns-then-rows-eq0
returns-then-rows-eq0 c = record { row = placed-nowhere c.args.pool.now c.args.va c.if-rows-eq0.true }

pub returns-then-ends_at : goal.returns-then-ends_at
returns-then-ends_at c =
    record {
      row =
          placed_first c.args.pool.now c.args.va c.home-h.result c.home-h.ensures.0 c.home-h.ensures.1
          (c.ends_at.ensures.here c.if-ends_at.true);
    }
