-- `search::named::has_key` meets its contract: no name, or the hash of the name's bytes. Assumes nothing.
use mathlib.Core.Path.{ap, ◌∙◌}
use Rattle.format.specs.Hash.{rage_joaat}
use Rattle.search.proofs.Going.{no_name, name_hashed}
use Rattle.search.proofs.named.has_key.Goals as goal

pub returns-then-p-eq0 : goal.returns-then-p-eq0
returns-then-p-eq0 c = no_name _ _ _ _ c.if-p-eq0.true

pub returns : goal.returns
returns c =
    name_hashed _ _ _ _ c.if-p-eq0.false (c.rage_joaat.ensures.answer ∙ ap rage_joaat c.name-name.ensures.answer)
