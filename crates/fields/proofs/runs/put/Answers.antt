-- `fields::runs::put` meets its contract: a test, then the run. Assumes nothing.
use mathlib.Core.Path.{◌∙◌}
use lib.ListN.{length}
use Rattle.fields.proofs.RunLaws.{off, stored-is, stands-as}
use Rattle.fields.proofs.runs.put.Goals as goal

pub returns-then-not-run_stands-clause-bytes : goal.returns-then-not-run_stands-clause-bytes
returns-then-not-run_stands-clause-bytes g c =
    off _ c.args.d.now _
    (stands-as (length c.args.w.now) c.args.d.now c.args.at c.SIZE.ensures c.run_stands.ensures.answer ∙ c.if-not-run_stands.true)

pub returns-clause-bytes : goal.returns-clause-bytes
returns-clause-bytes g c =
    stored-is g.met.T.Pod.each_number g.T.Pod.SIZE c.args.w.now c.args.d.now c.args.at
    (stands-as (length c.args.w.now) c.args.d.now c.args.at c.SIZE.ensures c.run_stands.ensures.answer ∙ c.if-not-run_stands.false)
    c.SIZE-2.ensures c.put_all.ensures
