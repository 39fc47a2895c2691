-- One step of all four walks; and the four walks taken out.
use mathlib.Core.Path.{◌≡◌, ◌∙◌}
use lib.ListN.{length}
use native.Mathlib.Omega.{arith}
use borrow.Author.Rules.{rules}
use Rattle.derive_matrices.proofs.Lanes.{four_turn, four_out}
use Rattle.derive_matrices.proofs.walk.side_by_side.Goals as goal

pub loop-steps-preserved : goal.loop-steps-preserved
loop-steps-preserved c =
    let l : length c.loop-steps.parents ≡ 4 = c.loop-steps-test.array_long in
    let a = c.all_climb.ensures.answer (search rules) in
    four_turn _ _ _ _ _ _ _ _ _ _ _ _ _ _ _ _ _ _ c.loop-steps-test.true (c.raise_lanes.auto.s ∙ c.loop-steps.invariant.size)
    (a 0 (omega arith), a 1 (omega arith), a 2 (omega arith), a 3 (omega arith)) (rw c.from.ensures at c.joint_in-j.ensures.answer)
    (rw c.from-in-loop-steps.ensures at c.joint_in-k.ensures.answer) (rw c.from-in-loop-steps-2.ensures at c.joint_in-l.ensures.answer)
    (rw c.from-in-loop-steps-3.ensures at c.joint_in-m.ensures.answer) c.lanes_of.ensures.answer c.raise_lanes.ensures.lanes
    c.loop-steps.invariant

pub returns : goal.returns
returns c =
    record {
      answer =
          four_out _ _ _ _ _ _ _ _ c.lanes_of-poses.ensures.answer c.loop-steps.invariant c.pose_in.ensures.answer
          c.pose_in-2.ensures.answer
          c.pose_in-3.ensures.answer c.pose_in-4.ensures.answer;
    }
