-- `blocks::tree::turned` meets its contract. Assumes nothing.
use mathlib.Core.Path.{refl}
use Rattle.blocks.specs.Tree.{turned_of}
use Rattle.blocks.proofs.tree.turned.Goals as goal

pub returns : goal.returns
unfolding turned_of
returns c = refl
