-- `write::names::put_name` meets its contract. Assumes nothing.
use mathlib.Core.Path.{sym, ap}
use mathlib.Core.List.{[]}
use native.Mathlib.Omega.{arith}
use Rattle.format.specs.Section.{or_none}
use Rattle.write.proofs.Naming.{stored-none, room-some, stored_some}
use Rattle.write.proofs.names.put_name.Goals as goal

pub returns-then-name-eq0 : goal.returns-then-name-eq0
returns-then-name-eq0 c =
    let all = stored-none _ _ c.name_at-name.ensures.answer _ _ c.requires c.args.d.now c.if-name-eq0.true in
    record { end = all.0; bytes = all.1 }

pub put_ended-requires : goal.put_ended-requires
put_ended-requires c = (
  c.in-Ok.ensures.stands,
  room-some _ _ c.name_at-name.ensures.answer _ _ c.requires c.if-name-eq0.false _ _ c.in-Ok.ensures.stands
      (ap or_none (sym c.in-Ok.ensures.name)),
)

pub put_ended-requires-in-Err : goal.put_ended-requires-in-Err
put_ended-requires-in-Err c = (
  omega arith,
  room-some _ _ c.name_at-name.ensures.answer _ _ c.requires c.if-name-eq0.false [] 0 (omega arith)
      (ap or_none (sym c.in-Err.ensures.name)),
)

pub returns-in-Ok : goal.returns-in-Ok
returns-in-Ok c =
    let all = stored_some _ _ c.name_at-name.ensures.answer _ _ c.requires c.if-name-eq0.false _ _ c.in-Ok.ensures.stands
    (ap or_none (sym c.in-Ok.ensures.name)) c.put_ended.ensures.end c.put_ended.ensures.bytes in
    record { end = all.0; bytes = all.1 }

pub returns-in-Err : goal.returns-in-Err
returns-in-Err c =
    let all = stored_some _ _ c.name_at-name.ensures.answer _ _ c.requires c.if-name-eq0.false [] 0 (omega arith)
    (ap or_none (sym c.in-Err.ensures.name)) c.put_ended-in-Err.ensures.end c.put_ended-in-Err.ensures.bytes in
    record { end = all.0; bytes = all.1 }
