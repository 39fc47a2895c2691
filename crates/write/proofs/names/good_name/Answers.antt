-- `write::names::good_name` meets its contract. Assumes nothing.
use Rattle.write.proofs.Naming.{good_none, good_long, good-here}
use Rattle.write.proofs.names.good_name.Goals as goal

pub returns-then-name-eq0 : goal.returns-then-name-eq0
returns-then-name-eq0 c = record { answer = good_none _ _ c.name_at-name.ensures.answer c.if-name-eq0.true }

pub returns-then-size-gt-LONGEST_NAME : goal.returns-then-size-gt-LONGEST_NAME
returns-then-size-gt-LONGEST_NAME c =
    record { answer = good_long _ _ c.name_at-name.ensures.answer c.if-name-eq0.false c.if-size-gt-LONGEST_NAME.true }

pub returns : goal.returns
returns c = record { answer = good-here _ _ c.name_at-name.ensures.answer c.if-name-eq0.false c.from_name.ensures.name c.in-Ok.is c.if-size-gt-LONGEST_NAME.false c.no_zero.ensures.answer }
