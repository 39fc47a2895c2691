-- One step of the walk; and its three ends.
use mathlib.Core.Path.{sym, ◌∙◌}
use borrow.Author.Rules.{rules}
use Rattle.derive_matrices.proofs.Walking.{walk_turn, walk_spent, walk-stops}
use Rattle.derive_matrices.proofs.walk.walked.Goals as goal

pub loop-step-preserved : goal.loop-step-preserved
loop-step-preserved g c =
    let h = c.climbs.ensures.answer.0 (search rules) in
    walk_turn _ _ _ _ _ _ _ _ _ _ h.0 h.1 c.loop-step-test.true (rw c.from.ensures at c.joint_in-parent.ensures.answer)
    c.quat_rotate.ensures.answer c.add-position.ensures c.quat_mul-rotation.ensures.answer c.loop-step.invariant

pub returns-after-loop-step : goal.returns-after-loop-step
returns-after-loop-step g c = record { answer = sym (walk_spent _ _ _ _ c.loop-step-test.false) ∙ c.loop-step.invariant }

pub returns-then-not-climbs : goal.returns-then-not-climbs
returns-then-not-climbs g c =
    record {
      answer =
          sym (walk-stops c.args.bones.now c.loop-step.p _ _
          (λ h. let e = c.climbs.ensures.answer.1 h in let f = c.if-not-climbs.true in cc)) ∙ c.loop-step.invariant;
    }
