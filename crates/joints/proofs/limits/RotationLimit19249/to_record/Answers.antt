-- `Rotation::to_record` meets its contract: the slots of the record, one by one. Assumes nothing.
use borrow.Author.Rules.{rules}
use mathlib.Core.Path.{ap, ◌∙◌}
use Rattle.format.specs.Field.{word_bytes}
use Rattle.joints.proofs.Slots.{rotation_put_lem}
use Rattle.joints.proofs.limits.RotationLimit19249.to_record.Goals as goal

pub returns : goal.returns
returns c = c.store.ensures ∙ ap (word_bytes 4) (rotation_put_lem c.args.t.now (search rules))
