-- `derive_matrices::walk::raised` meets its contract. Assumes nothing.
use Rattle.derive_matrices.specs.Lanes.{raised}
use Rattle.derive_matrices.proofs.walk.raised.Goals as goal

pub returns : goal.returns
unfolding raised
returns c = record { answer = cc }
