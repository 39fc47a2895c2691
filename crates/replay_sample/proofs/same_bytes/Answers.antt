-- `replay_sample::same_bytes` meets its contract: the buffer is no shorter, and each place has the part's byte. Assumes nothing.
use Rattle.std.proofs.Common.{◌∙◌, get_or, rules, tests}
use Rattle.std.proofs.lemmas.List.{map-id}
use Rattle.std.proofs.lemmas.Iterator.{YieldsList-from_slice}
use Rattle.std.proofs.lemmas.Iterator.Consumers.{YieldsList-from_enumerate}
use Rattle.std.proofs.lemmas.Iterator.Search.{all_from_yields_List}
use lib.Dec.{eqb}
use Rattle.replay_sample.proofs.Comparing.{same_longer, same_places}
use Rattle.replay_sample.proofs.same_bytes.Goals as goal

pub returns-then-part-buffer : goal.returns-then-part-buffer
returns-then-part-buffer c =
    record {
      answer =
          all_from_yields_List (λ p. eqb p.1 (get_or c.args.part.now p.0 c.args.rest)) c.all.new.self _ c.all.result c.all.ensures.ran
          (YieldsList-from_enumerate (YieldsList-from_slice c.args.buffer.now (search rules)) (search rules))
          (λ x b q k. search (rules, tests))
          ∙ same_places eqb (λ n. n) (λ l. l) map-id c.args.buffer.now c.args.part.now c.args.rest c.if-part-buffer.true;
    }

pub returns-else-part-buffer : goal.returns-else-part-buffer
returns-else-part-buffer c =
    record {
      answer =
          (search (rules, tests)) ∙
          same_longer eqb (λ n. n) (λ l. l) map-id c.args.buffer.now c.args.part.now c.args.rest c.if-part-buffer.false;
    }
