-- `search::named::first_named` meets its contract: a loop over the bones in order. Assumes nothing.
use Rattle.search.proofs.Going.{going_none, going_found, going_more, going_all}
use Rattle.search.proofs.named.first_named.Goals as goal

pub loop-i-init : goal.loop-i-init
loop-i-init c = going_none _ _ _ _

pub returns-then-has_key : goal.returns-then-has_key
returns-then-has_key c =
    record {
      answer =
          going_found _ _ _ _ c.loop-i.invariant c.loop-i-test.true c.name_at.ensures.answer c.has_key.ensures c.if-has_key.true;
    }

pub loop-i-preserved : goal.loop-i-preserved
loop-i-preserved c =
    going_more _ _ _ _ c.loop-i.invariant c.loop-i-test.true c.name_at.ensures.answer c.has_key.ensures c.if-has_key.false

pub returns : goal.returns
returns c = record { answer = going_all _ _ _ _ c.loop-i.invariant c.loop-i-test.false }
