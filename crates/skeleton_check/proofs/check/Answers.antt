-- The answer is that of the check with the program's tables. Assumes nothing.
use Rattle.std.proofs.Common.{refl}
use Rattle.skeleton_check.proofs.Printing.{printed_long, printed_checked}
use Rattle.skeleton_check.proofs.check.Goals as goal

pub returns-then-sys-gt-LONGEST : goal.returns-then-sys-gt-LONGEST
returns-then-sys-gt-LONGEST c = record { line = printed_long _ c.if-sys-gt-LONGEST.true refl }

pub returns : goal.returns
returns c = record { line = printed_checked c.check.ensures.checked c.if-sys-gt-LONGEST.false }
