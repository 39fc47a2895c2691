use Rattle.std.proofs.Common.{arith}
use Rattle.std.proofs.lemmas.Grind.{common_steps}
use Rattle.check_lists.proofs.Comparing.{pointwise_is}
use Rattle.check_lists.proofs.same_words.Goals as goal

pub returns : goal.returns
returns g c = grind (arith, common_steps, pointwise_is)
