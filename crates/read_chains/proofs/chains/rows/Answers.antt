-- `read_chains::chains::rows` meets its contract: the lesser of the rows and the most that are used. Assumes nothing.
use mathlib.Core.Path.{◌∙◌}
use Rattle.read_chains.proofs.Lent.{room-least}
use Rattle.read_chains.proofs.chains.rows.Goals as goal

pub returns : goal.returns
returns c = c.min.ensures ∙ room-least _
