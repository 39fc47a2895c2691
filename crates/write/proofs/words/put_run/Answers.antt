-- `write::words::put_run` meets its contract: the run stands. Assumes nothing.
use mathlib.Core.Path.{◌∙◌}
use Rattle.write.proofs.Runs.{run-stands}
use Rattle.write.proofs.words.put_run.Goals as goal

pub returns : goal.returns
returns g c = record { bytes = c.put.ensures.bytes ∙ run-stands g.T.Pod.numbers _ c.args.w.now c.args.d.now c.args.at c.requires }
