-- `blocks::pool::find` meets its contract: the row where the search ends. Assumes nothing.
use Rattle.blocks.proofs.pool.find.Goals as goal

pub returns : goal.returns
returns c = record { answer = c.row_at.ensures.at _ c.place.ensures.row }
