-- `write::outcome::attempt` meets its contract. Assumes nothing.
use native.Mathlib.Omega.{arith}
use Rattle.std.proofs.lemmas.Result.{err_from_is_err_and}
use Rattle.format.specs.Words.{meant_words4}
use Rattle.rows.proofs.Rows.{length-rows}
use Rattle.write.proofs.Outcomes.{writes_refused, writes_same, bones_found, sound, outcome-refused, outcome-named, outcome-short}
use Rattle.write.proofs.Outcomes.{outcome-derived, all_held}
use Rattle.write.proofs.outcome.attempt.Goals as goal

pub returns-in_err-rows-clause-written : goal.returns-in_err-rows-clause-written
returns-in_err-rows-clause-written c =
    let p = err_from_is_err_and c.from_residual.result c.from_residual.ensures.1 in
    rw (p.1, p.2) (writes_refused _ (outcome-refused _ _ _ _ _ _ c.in_err-rows.ensures.answer))

pub measure_names-requires : goal.measure_names-requires
measure_names-requires c =
    let f = bones_found c.args.n c.args.bones.now c.in_ok-rows.ensures.answer in
    omega (arith, length-rows _ _ _ f.1, f.0.few)

pub returns-in_err-name_bytes-clause-written : goal.returns-in_err-name_bytes-clause-written
returns-in_err-name_bytes-clause-written c =
    let p = err_from_is_err_and c.from_residual-in_err-name_bytes.result c.from_residual-in_err-name_bytes.ensures.1 in
    rw (p.1, p.2)
    (writes_refused _ (outcome-named _ _ _ _ _ _ c.in_ok-rows.ensures.answer c.in_err-name_bytes.ensures.answer))

pub derive_tables-requires : goal.derive_tables-requires
derive_tables-requires c = (bones_found _ _ c.in_ok-rows.ensures.answer).0

pub returns-in_err-children_count-clause-written : goal.returns-in_err-children_count-clause-written
returns-in_err-children_count-clause-written c =
    let p = err_from_is_err_and c.from_residual-in_err-children_count.result c.from_residual-in_err-children_count.ensures.1 in
    let s = sound _ _ _ c.in_ok-rows.ensures.answer c.in_ok-name_bytes.ensures.answer in
    rw (p.1, p.2) (writes_refused _ (outcome-short _ _ _ _ _ _ s c.in_err-children_count.ensures.derived.answer))

pub lay_out-requires : goal.lay_out-requires
lay_out-requires c =
    let s = sound _ _ _ c.in_ok-rows.ensures.answer c.in_ok-name_bytes.ensures.answer in
    let k = outcome-derived _ _ 0 _ _ (meant_words4 c.args.free) s c.in_ok-children_count.ensures.derived.answer in
    all_held s c.in_ok-children_count.ensures.derived.rows c.bucket_count.ensures.answer k.1
    (bones_found _ _ c.in_ok-rows.ensures.answer).1

pub returns-clause-written : goal.returns-clause-written
returns-clause-written c =
    let s = sound _ _ _ c.in_ok-rows.ensures.answer c.in_ok-name_bytes.ensures.answer in
    let k = outcome-derived _ _ _ _ _ _ s c.in_ok-children_count.ensures.derived.answer in
    let w = rw (bones_found _ _ c.in_ok-rows.ensures.answer).1 at c.lay_out.ensures.written in
    writes_same k.0 w
