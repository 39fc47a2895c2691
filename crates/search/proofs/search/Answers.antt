-- `search::search` meets its contract: reading, then the first of its bones. Assumes nothing.
use mathlib.Core.Path.{◌∙◌}
use Rattle.search.proofs.Searching.{search-first}
use Rattle.search.proofs.search.Goals as goal

pub returns-clause-answer : goal.returns-clause-answer
returns-clause-answer c =
    c.first_in.ensures
    ∙ search-first _ _ _ _ _ c.read-r.ensures.tables (λ i. (c.type_inv.system i).fits, λ i. (c.type_inv.graphics i).fits)

pub returns-clause-tables : goal.returns-clause-tables
returns-clause-tables c = c.read-r.ensures.tables.tables
