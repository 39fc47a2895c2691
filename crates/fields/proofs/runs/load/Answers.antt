-- `fields::runs::load` meets its contract: two tests, then the run. Assumes nothing.
use mathlib.Core.Path.{sym, ◌∙◌}
use Rattle.fields.proofs.RunLaws.{off-first, off-second, loaded-is, stands-as}
use Rattle.fields.proofs.runs.load.Goals as goal
use Rattle.fields.proofs.runs.load.Goals.{then-not-run_stands-via-then-not-run_stands, then-not-run_stands-via-else-not-run_stands+then-not-stands}

pub returns-then-not-run_stands-clause-table : goal.returns-then-not-run_stands-clause-table
returns-then-not-run_stands-clause-table g c =
    let test = stands-as c.args.n c.args.s.now c.args.from c.SIZE.ensures c.run_stands.ensures.answer in
    elim c.then-not-run_stands.branch [
      | then-not-run_stands-via-then-not-run_stands w ↦ off-first _ c.args.t.now _ _ (test ∙ w.if-not-run_stands.true)
      | then-not-run_stands-via-else-not-run_stands+then-not-stands w ↦
          off-second _ c.args.t.now _ _ (test ∙ w.if-not-run_stands.false) (sym w.stands.ensures.answer ∙ w.if-not-stands.true)
    ]

pub returns-clause-table : goal.returns-clause-table
returns-clause-table g c =
    loaded-is g.met.T.Pod.each_value g.T.Pod.SIZE c.args.n c.args.s.now c.args.from c.args.t.now c.args.to
    (stands-as c.args.n c.args.s.now c.args.from c.SIZE.ensures c.run_stands.ensures.answer ∙ c.if-not-run_stands.false)
    (sym c.stands.ensures.answer ∙ c.if-not-stands.false) c.SIZE-2.ensures c.load_all.ensures
