-- `rig_lookup` says what `lookup::lookup` says. Assumes nothing.
use Rattle.rig_answers.proofs.Told.{told_by}
use Rattle.rig.proofs.tags.rig_lookup.Goals as goal

pub returns : goal.returns
returns c = record { told = told_by c.lookup-r.ensures.answer c.looked_position.ensures c.status.ensures }
