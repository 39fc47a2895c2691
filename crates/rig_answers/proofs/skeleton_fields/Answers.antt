-- `skeleton_fields` meets its contract. Assumes nothing.
use Rattle.rig_answers.proofs.Told.{fields_told}
use Rattle.rig_answers.proofs.skeleton_fields.Goals as goal

pub returns : goal.returns
returns c =
    fields_told c.args.s
    (record { told = c.stands.ensures; size = c.length.ensures })
    (record { told = c.stands-2.ensures; size = c.length-2.ensures })
    (record { told = c.stands-3.ensures; size = c.length-3.ensures })
    (record { told = c.stands-4.ensures; size = c.length-4.ensures })
    (record { told = c.stands-5.ensures; size = c.length-5.ensures })
    (record { told = c.stands-6.ensures; size = c.length-6.ensures })
