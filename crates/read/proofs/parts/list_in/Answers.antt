-- `parts::list_in` meets its contract: a list, or none. Assumes nothing.
use Rattle.std.proofs.Common.{rules}
use Rattle.read.proofs.One.{mapped, list-read}
use Rattle.read.proofs.parts.list_in.Goals as goal

pub returns : goal.returns
returns g c =
    list-read c.read_list.ensures.list c.in_ok-list.list c.in_ok-list.was
    (mapped (λ x. x.stored.count) c.in_ok-list.list c.map.result (λ x k h. search rules) c.map.ensures.cases)
