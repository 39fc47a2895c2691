-- `read_chains::read_buckets` meets its contract: address 0, what the pool holds, or a new array. Assumes nothing.
use mathlib.Core.Path.{ap, ◌∙◌}
use Rattle.std.specs.Prelude.{Ok}
use Rattle.std.proofs.Common.{rules}
use Rattle.std.proofs.lemmas.Result.{err_from_is_err_and}
use Rattle.read_chains.proofs.Arrays.{buckets-none, buckets_again, buckets-other, buckets-new, named_as, buckets_by}
use Rattle.read_chains.proofs.read_buckets.Goals as goal

pub returns-then-va-eq0-clause-tables : goal.returns-then-va-eq0-clause-tables
returns-then-va-eq0-clause-tables c = buckets-none _ _ _ _ _ c.if-va-eq0.true

pub returns-in_err-stored-clause-tables : goal.returns-in_err-stored-clause-tables
returns-in_err-stored-clause-tables c =
    let p = err_from_is_err_and c.from_residual.result c.from_residual.ensures.1 in
    rw (p.1, p.2) (buckets-other _ _ _ _ _ c.if-va-eq0.false c.pooled.ensures.answer c.in_err-stored.was)

pub returns-in-Some-clause-tables : goal.returns-in-Some-clause-tables
returns-in-Some-clause-tables c =
    buckets_again _ _ _ _ _ c.if-va-eq0.false c.pooled.ensures.answer (c.in_ok-stored.was ∙ ap Ok c.in-Some.is)

pub returns-clause-tables : goal.returns-clause-tables
returns-clause-tables c =
    let new = buckets-new _ _ _ _ _ c.if-va-eq0.false c.pooled.ensures.answer (c.in_ok-stored.was ∙ ap Ok c.in_default.is) c.read_new.ensures.tables in
    buckets_by new (named_as c.read_new.result c.map.result (λ x k h. search rules) c.map.ensures.cases)
