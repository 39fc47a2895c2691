-- `derive_children::pile::push` meets its contract. Assumes nothing.
use Rattle.derive_children.proofs.Pushing.{push-none-at, push_one_at}
use Rattle.derive_children.proofs.pile.push.Goals as goal

pub returns-then-w-eq0 : goal.returns-then-w-eq0
returns-then-w-eq0 c = record { answer = push-none-at _ _ _ _ c.if-w-eq0.true }

pub returns : goal.returns
returns c = record { answer = push_one_at _ _ _ _ c.if-w-eq0.false c.requires }
