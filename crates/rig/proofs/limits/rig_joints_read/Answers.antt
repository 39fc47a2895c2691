-- `rig_joints_read` says what `joints::read::read` says. Assumes nothing.
use mathlib.Core.Path.{ap, ◌∙◌}
use Rattle.rig.specs.Answer.{joints_fields}
use Rattle.rig.proofs.limits.rig_joints_read.Goals as goal

pub returns-clause-fields : goal.returns-clause-fields
returns-clause-fields c = c.fields_of.ensures c.read-read.new.rotation c.read-read.new.translation ∙ ap joints_fields c.read-read.ensures.answer
