-- `Rotation::from_record` meets its contract: the words of the row, one by one. Assumes nothing.
use borrow.Author.Rules.{rules}
use Rattle.joints.proofs.Slots.{rotation_read_lem}
use Rattle.joints.proofs.limits.RotationLimit19249.from_record.Goals as goal

pub returns : goal.returns
returns c = rw (← c.load-s.ensures) (rotation_read_lem c.load-s.result (search rules) (search rules))
