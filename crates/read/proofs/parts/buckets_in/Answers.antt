-- `parts::buckets_in` meets its contract: how many buckets there are, or none. Assumes nothing.
use Rattle.std.proofs.Common.{rules}
use Rattle.read.proofs.One.{mapped, chains-read}
use Rattle.read.proofs.parts.buckets_in.Goals as goal

pub returns-clause-chains : goal.returns-clause-chains
returns-clause-chains c =
    chains-read c.read_buckets.ensures.tables c.in_ok-array.array c.in_ok-array.was
    (mapped (λ x. x.stored.count) c.in_ok-array.array c.map.result (λ x k h. search rules) c.map.ensures.cases)
