-- Each turn stores one parent more.
use mathlib.Core.Path.{sym, ◌∙◌}
use Rattle.tables.proofs.Laid.{laid_none}
use Rattle.derive_children.proofs.Columns.{parents-next}
use Rattle.derive_children.proofs.indices.put_parents.Goals as goal

pub loop-p-init : goal.loop-p-init
loop-p-init c = c.requires.1 ∙ sym (laid_none _)

pub loop-p-preserved : goal.loop-p-preserved
loop-p-preserved c =
    parents-next c.args.rows.now _ _ c.loop-p-test.true c.requires.0 c.parent_at.ensures.answer c.loop-p.invariant
