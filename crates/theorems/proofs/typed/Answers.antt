-- `theorems::typed` meets its contract: each element of a slice fits its type. Assumes nothing.
use borrow.Author.Rules.{rules}
use Rattle.theorems.proofs.typed.Goals as goal

pub returns : goal.returns
returns c =
    record { bytes = λ i. (c.type_inv.bytes i).fits; words = λ i. (c.type_inv.words i).fits; free = search rules }
