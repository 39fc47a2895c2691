-- A table that lacks the rows has no room.
use Rattle.std.proofs.lemmas.Result.{err_from_is_err_and}
use Rattle.derive_chains.proofs.TagsOutcome.{tags_short}
use Rattle.derive_chains.proofs.tags.tags_room.Goals as goal

pub returns-in_err-rows : goal.returns-in_err-rows
returns-in_err-rows c =
    let p = err_from_is_err_and c.from_residual.result c.from_residual.ensures.1 in
    record { answer = rw (p.1, p.2) (tags_short _ _ _ _ _ _ c.in_err-rows.ensures.answer) }
