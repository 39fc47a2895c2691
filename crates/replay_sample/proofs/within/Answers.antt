use Rattle.std.proofs.Common.{arith, rules}
use Rattle.replay_sample.proofs.Numbers.{front_of}
use Rattle.replay_sample.proofs.within.Goals as goal

pub returns : goal.returns
returns g c = record { answer = front_of _ c.args.table.now (omega arith) (search rules) }
