-- What is told of joints that were read says what the answer was. Assumes nothing.
use Prim.Native.Nat.{ℕ}
use mathlib.Core.Path.{◌≡◌, refl, ◌∙◌}
use Rattle.std.specs.Prelude.{Option, None, Some}
use mathlib.Core.List.{List, [], ◌∷◌, map}
use lib.ListN.{length-map}
use Rattle.format.specs.Result.{done}
use Rattle.format.specs.Joints.{rotation_row, rotation_width, translation_row, translation_width, limit_rows}
use Rattle.joints.specs.Reading.{limits_in, joints_in}
use Rattle.joints.proofs.Chunks.{length-limit_rows}
use Rattle.joints.specs.declared.read.Joints as declared
use Rattle.rig_answers.specs.Answer.{given, number_if, present}
use Rattle.rig.specs.Answer.{limit_count, joints_fields}

-- whether a list stands, and how many limits it has, by the number of its rows
module _ {A : Type 0} (row : List ℕ → A) (k : ℕ) (t : List ℕ) where
  stands_in : (o : Option ℕ) → present (limits_in (λ n. map row (limit_rows k n t)) o) ≡ present o
  stands_in None = refl
  stands_in (Some n) = refl

  count_in : (o : Option ℕ) → limit_count (limits_in (λ n. map row (limit_rows k n t)) o) ≡ given (done o)
  count_in None = refl
  count_in (Some n) = length-map (limit_rows k n t) row ∙ length-limit_rows k n t

-- what is told of joints, whatever the tables hold
pub joints_told :
    (rotation translation : List ℕ) (j : declared.Joints) {rs rc ts tc : ℕ} →
    rs ≡ number_if (present j.rotation) → rc ≡ given (done j.rotation) →
    ts ≡ number_if (present j.translation) → tc ≡ given (done j.translation) →
    j.kind ∷ j.rotation_count ∷ j.translation_count ∷ rs ∷ rc ∷ ts ∷ tc ∷ []
    ≡ joints_fields (done (Some (joints_in rotation translation j)))
joints_told rotation translation j ers erc ets etc =
    let a = stands_in rotation_row rotation_width rotation j.rotation in
    let b = count_in rotation_row rotation_width rotation j.rotation in
    let c = stands_in translation_row translation_width translation j.translation in
    let d = count_in translation_row translation_width translation j.translation in
    rw (ers, erc, ets, etc, a, b, c, d) refl
