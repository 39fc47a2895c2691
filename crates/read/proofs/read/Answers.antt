-- `read::read` meets its contract: root 0, a skeleton read, a refusal. Assumes nothing.
use Rattle.read.proofs.Whole.{read_none, read-refused, read_done}
use Rattle.read.proofs.read.Goals as goal

pub returns-then-root-eq0-clause-tables : goal.returns-then-root-eq0-clause-tables
returns-then-root-eq0-clause-tables c = read_none _ _ _ _ c.if-root-eq0.true c.clear.ensures.tables

pub returns-in-Ok-clause-tables : goal.returns-in-Ok-clause-tables
returns-in-Ok-clause-tables c =
    read_done _ _ _ c.if-root-eq0.false c.clear.ensures.tables c.fill.ensures.filled _ c.in-Ok.is c.fill.ensures.same.pool.size
    (c.fill-in-Ok.ensures.after (λ y e. e))

pub returns-in-Err-clause-tables : goal.returns-in-Err-clause-tables
returns-in-Err-clause-tables c =
    let s = c.fill.ensures.same in
    read-refused _ _ _ c.if-root-eq0.false c.clear.ensures.tables c.fill.ensures.filled _ c.in-Err.is
    (record {
      bones = s.bones.size;
      buckets = s.buckets.size;
      entries = s.entries.size;
      inverse = s.inverse.size;
      local = s.local.size;
      parents = s.parents.size;
      children = s.children.size;
      pool = s.pool.size;
    })
    c.clear-in-Err.ensures.tables
