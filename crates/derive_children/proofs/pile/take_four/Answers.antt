-- `derive_children::pile::take_four` meets its contract. Assumes nothing.
use Rattle.derive_children.proofs.Taking.{took_four}
use Rattle.derive_children.proofs.pile.take_four.Goals as goal

pub returns : goal.returns
returns c =
    record {
      answer =
          took_four _ _ _ _ _ _ c.requires.0 c.requires.1 _ _ _ _ _ _ _ _ _ _ _ _ c.take_one-a.ensures.answer
          c.take_one-b.ensures.answer c.take_one-c.ensures.answer c.take_one-d.ensures.answer;
    }
