-- So many digits stand in front of the bytes from `end` on. Assumes nothing.
use Prim.Native.Nat.{◌-◌}
use Rattle.skeleton_check.proofs.Laying.{Digits}
use Rattle.skeleton_check.proofs.line.put_digits.Given as goal

abbrev pub invariant-loop : goal.invariant-loop
invariant-loop l = Digits l.initial.line l.end l.n l.line l.at (5 - l.counter) l.rest
