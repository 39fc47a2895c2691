-- At first no position is entered.
use Rattle.derive_children.proofs.FirstChildren.{indexed-none}
use Rattle.derive_children.proofs.index.enter_all.Goals as goal

pub loop-i-init : goal.loop-i-init
loop-i-init c = indexed-none _ _ c.requires.0 c.requires.2
