-- What is told of joints that are read, in numbers. Definitions only.
use Rattle.std.specs.Prelude.{ℕ, List, [], ◌∷◌, length, replicate}
use Rattle.std.specs.Prelude.{Option, None, Some}
use Rattle.format.specs.Result.{Res, refused, done}
use Rattle.format.specs.Joints.{Joints}
use Rattle.rig_answers.specs.Answer.{number_if, present}

-- how many limits a list has, 0 where it is absent
abbrev pub limit_count : {A : Type 0} → Option (List A) → ℕ
limit_count None = 0
limit_count (Some l) = length l

-- the kind word, the two stored counts, and of each list whether it stands and how many limits it has; zeros where nothing is read
abbrev pub joints_fields : Res (Option Joints) → List ℕ
joints_fields (refused n) = replicate 7 0
joints_fields (done None) = replicate 7 0
joints_fields (done (Some j)) =
    j.kind ∷ j.rotation_count ∷ j.translation_count ∷
    number_if (present j.rotation) ∷ limit_count j.rotation ∷
    number_if (present j.translation) ∷ limit_count j.translation ∷ []
