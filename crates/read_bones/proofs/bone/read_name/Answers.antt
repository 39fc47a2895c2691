-- `read_bones::bone::read_name` meets its contract. Assumes nothing.
use mathlib.Core.Path.{ap, ◌∙◌}
use Rattle.std.specs.Prelude.{Ok}
use Rattle.std.proofs.lemmas.Result.{err_from_is_err_and}
use Rattle.read_bones.proofs.Names.{no_name, name-unread, name_again, name-other}
use Rattle.read_bones.proofs.bone.read_name.Goals as goal

pub returns-then-va-eq0 : goal.returns-then-va-eq0
returns-then-va-eq0 c = no_name _ _ c.if-va-eq0.true

pub returns-in_err-cached_at : goal.returns-in_err-cached_at
returns-in_err-cached_at c =
    let p = err_from_is_err_and c.from_residual.result c.from_residual.ensures.1 in
    rw (p.1, p.2) (name-other c.if-va-eq0.false (c.cached_at.ensures.answer.at _ c.place-spot.ensures.row) c.in_err-cached_at.was)

pub returns-in-None : goal.returns-in-None
returns-in-None c =
    name-unread c.if-va-eq0.false (c.cached_at.ensures.answer.at _ c.place-spot.ensures.row) (c.in_ok-cached_at.was ∙ ap Ok c.in-None.is) c.new_name.ensures

pub returns-in-Some : goal.returns-in-Some
returns-in-Some c = name_again c.if-va-eq0.false (c.cached_at.ensures.answer.at _ c.place-spot.ensures.row) (c.in_ok-cached_at.was ∙ ap Ok c.in-Some.is)
