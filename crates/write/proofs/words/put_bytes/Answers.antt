-- `write::words::put_bytes` meets its contract: the run stands. Assumes nothing.
use mathlib.Core.Path.{◌∙◌}
use native.Mathlib.Omega.{arith}
use Rattle.write.proofs.Runs.{bytes-stand}
use Rattle.write.proofs.words.put_bytes.Goals as goal

pub returns : goal.returns
returns c = record { bytes = c.copy.ensures.table ∙ bytes-stand c.args.s.now c.args.d.now c.args.at c.requires }
