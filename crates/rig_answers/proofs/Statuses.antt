-- What a status tells of every call, also of one that never gives none. Assumes nothing.
use mathlib.Core.Path.{◌≡◌, refl, subst}
use Rattle.std.specs.Prelude.{Some}
use mathlib.Core.List.{List}
use Prim.Native.Nat.{ℕ}
use Rattle.format.specs.Result.{Res, refused, done, status}
use Rattle.format.specs.CallRefusals.{RefusesOnly}
use Rattle.format.proofs.Refusing.{only-done, only-refused}
use Rattle.rig_answers.specs.Answer.{read_status}
use Rattle.rig_answers.specs.Status.{sure, Tells, Statuses}
use Rattle.rig_answers.proofs.Telling.{tells}

sure-only : {A : Type 0} (ns : List ℕ) (w : Res A) → RefusesOnly ns w → RefusesOnly ns (sure w)
sure-only ns (done a) h = only-done (Some a)
sure-only ns (refused c) h = only-refused c (h.only c refl)

sure-status : {A : Type 0} (w : Res A) → read_status (sure w) ≡ status w
sure-status (done a) = refl
sure-status (refused n) = refl

pub statuses : Statuses
statuses =
    record {
      tells = λ {A} ns a b w h. tells ns a b w h;
      tells_sure = λ {A} ns a b w h. subst (Tells ns (sure w)) (sure-status w) (tells ns a b (sure w) (sure-only ns w h));
    }
