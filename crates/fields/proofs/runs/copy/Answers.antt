-- `fields::runs::copy` meets its contract: two tests, then a copy. Assumes nothing.
use mathlib.Core.Path.{sym, ◌∙◌}
use Rattle.fields.proofs.RunLaws.{off-first, off-second, copied-is}
use Rattle.fields.proofs.runs.copy.Goals as goal
use Rattle.fields.proofs.runs.copy.Goals.{then-not-stands-via-then-not-stands, then-not-stands-via-else-not-stands+then-not-stands-2}

pub returns-then-not-stands-clause-table : goal.returns-then-not-stands-clause-table
returns-then-not-stands-clause-table g c =
    elim c.then-not-stands.branch [
      | then-not-stands-via-then-not-stands w ↦
          off-first _ c.args.t.now _ _ (sym c.stands.ensures.answer ∙ w.if-not-stands.true)
      | then-not-stands-via-else-not-stands+then-not-stands-2 w ↦
          off-second _ c.args.t.now _ _ (sym c.stands.ensures.answer ∙ w.if-not-stands.false)
          (sym w.stands-else-not-stands.ensures.answer ∙ w.if-not-stands-2.true)
    ]

pub returns-clause-table : goal.returns-clause-table
returns-clause-table g c =
    copied-is c.args.n c.args.s.now c.args.from c.args.t.now c.args.to (sym c.stands.ensures.answer ∙ c.if-not-stands.false)
    (sym c.stands-else-not-stands.ensures.answer ∙ c.if-not-stands-2.false) c.copy_each.ensures
