-- `blocks::pool::cached_as` meets its contract: what stands in the row where the search ends. Assumes nothing.
use Rattle.blocks.proofs.pool.cached_as.Goals as goal

pub returns : goal.returns
returns c = record { answer = c.cached_at.ensures.answer.at _ c.place.ensures.row }
