-- `write::words::put_zeros` meets its contract. Assumes nothing.
use Rattle.std.proofs.Common.{rules}
use mathlib.Core.Path.{sym}
use lib.ListN.{replicate, length-replicate}
use Rattle.write.proofs.Runs.{part-stored}
use Rattle.write.proofs.words.put_zeros.Goals as goal

pub returns : goal.returns
returns c = record {
  bytes = part-stored _ _ _ (replicate c.args.n 0) (search rules) (sym (length-replicate c.args.n 0)) c.requires;
}
