-- `write::words::put_chunk` meets its contract. Assumes nothing.
use mathlib.Core.Path.{refl, sym}
use native.Mathlib.Omega.{arith}
use Rattle.write.proofs.Runs.{part-stored}
use Rattle.write.proofs.words.put_chunk.Goals as goal

pub returns : goal.returns
returns c = record { bytes = part-stored _ _ _ _ c.copy_from_slice.ensures.after (sym c.requires.0) c.requires.1 }
