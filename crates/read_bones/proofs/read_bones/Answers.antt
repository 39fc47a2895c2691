-- `read_bones::read_bones` meets its contract.
-- The loop's invariant: i bones are read, each in the next row. Assumes nothing.
use mathlib.Core.Path.{refl}
use Rattle.std.proofs.lemmas.Result.{err_from_is_err_and}
use Rattle.read_bones.proofs.Stretches.{same_none, same-more, going_none, going_more, going_refused, going_all}
use Rattle.read_bones.proofs.read_bones.Goals as goal

pub loop-init : goal.loop-init
loop-init c = (going_none _ _ _ _ _, same_none _)

pub loop-preserved : goal.loop-preserved
loop-preserved c = (
  going_more c.loop.invariant.0 c.loop-test.true c.read_bone.ensures.tables c.in_ok-read.was
      refl c.read_bone.ensures.same.bones.size c.read_bone.ensures.same.pool.size,
  same-more c.loop.invariant.1 c.read_bone.ensures.same,
)

pub returns-in_err-read-clause-tables : goal.returns-in_err-read-clause-tables
returns-in_err-read-clause-tables c =
    let p = err_from_is_err_and c.from_residual.result c.from_residual.ensures.1 in
    rw (p.1, p.2) (going_refused c.loop.invariant.0 c.loop-test.true c.read_bone.ensures.tables c.in_err-read.was)

pub returns-clause-tables : goal.returns-clause-tables
returns-clause-tables c = going_all c.loop.invariant.0 c.loop-test.false
