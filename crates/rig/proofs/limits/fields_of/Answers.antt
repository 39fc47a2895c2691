-- `fields_of` tells what was read, whatever the tables hold. Assumes nothing.
use borrow.Author.Rules.{rules}
use mathlib.Core.Path.{◌≡◌, sym, ap, ◌∙◌}
use Rattle.std.specs.Prelude.{Some, Ok}
use Rattle.format.specs.Refusal.{outcome_by}
use Rattle.joints.specs.Reading.{joints_if}
use Rattle.rig.specs.Answer.{joints_fields}
use Rattle.rig.proofs.Answers.{joints_told}
use Rattle.rig.proofs.limits.fields_of.Goals as goal

pub returns-in-Ok-Some : goal.returns-in-Ok-Some
returns-in-Ok-Some c =
    let e : c.args.read ≡ Ok (Some c.in-Ok-Some.j) = search rules in
    λ rotation translation.
    joints_told rotation translation c.in-Ok-Some.j c.stands.ensures c.limit_count.ensures c.stands-in-Ok-Some.ensures
    c.limit_count-in-Ok-Some.ensures
    ∙ ap (λ r. joints_fields (outcome_by (joints_if rotation translation) r)) (sym e)
