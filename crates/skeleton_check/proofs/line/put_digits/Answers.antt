-- `skeleton_check::line::put_digits` meets its contract: `Digits` holds at each turn. Assumes nothing.
use Prim.Native.Nat.{◌+◌, ◌-◌}
use native.Mathlib.Omega.{arith}
use mathlib.Core.Path.{◌≡◌}
use Rattle.skeleton_check.proofs.Laying.{digits_none, digits_ends, digits_on, digits_all}
use Rattle.skeleton_check.proofs.line.put_digits.Goals as goal

pub loop-init : goal.loop-init
loop-init c = digits_none _ _ _ c.requires.0 c.requires.1

pub overflow_sub-at : goal.overflow_sub-at
overflow_sub-at c = omega (arith, c.loop.invariant.within, c.loop.invariant.room.0, c.loop-test.true)

pub bounds-line-at : goal.bounds-line-at
bounds-line-at c =
    omega (arith, c.loop.invariant.within, c.loop.invariant.room.0, c.loop.invariant.room.1, c.loop.invariant.same, c.loop-test.true)

pub returns-then-rest-lt10-clause-digits : goal.returns-then-rest-lt10-clause-digits
returns-then-rest-lt10-clause-digits c = digits_ends c.loop.invariant (omega (arith, c.loop-test.true)) c.if-rest-lt10.true

pub returns-then-rest-lt10-clause-place : goal.returns-then-rest-lt10-clause-place
returns-then-rest-lt10-clause-place c = (
  omega (arith, c.loop.invariant.within, c.loop.invariant.room.0, c.loop-test.true),
  omega (arith, c.loop.invariant.within, c.loop.invariant.room.0, c.loop-test.true),
)

pub loop-preserved : goal.loop-preserved
loop-preserved c =
    let e : 5 - c.loop.counter - 1 ≡ 5 - (c.loop.counter + 1) = omega arith in
    rw e at (digits_on c.loop.invariant (omega (arith, c.loop-test.true)) c.if-rest-lt10.false)

pub returns-clause-digits : goal.returns-clause-digits
returns-clause-digits c = digits_all c.loop.invariant (omega (arith, c.loop-test.false))

pub returns-clause-place : goal.returns-clause-place
returns-clause-place c = (
  omega (arith, c.loop.invariant.within, c.loop-test.false),
  omega (arith, c.loop.invariant.within, c.loop-test.false),
)
