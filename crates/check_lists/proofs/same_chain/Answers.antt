use Rattle.std.proofs.Common.{◌+◌, ◌-◌, Bool, ◌&&◌, sym, ap, ◌∙◌, inl, inr, arith}
use borrow.Author.Tests.{eq-eqb, ne_eqb, not-true, not-false}
use Rattle.check_lists.specs.Chained.{entries_in}
use Rattle.check_lists.proofs.Entries.{chains_same, same_ended, same_long, same_entries}
use Rattle.check_lists.proofs.same_chain.Goals as goal

pub returns-then-a-eq0 : goal.returns-then-a-eq0
returns-then-a-eq0 c =
    record {
      answer =
          sym (same_ended _ _ _ _ _ (elim c.then-a-eq0.either [ inl first ↦ inl first | inr second ↦ inr second.1 ]))
          ∙ c.loop-met.invariant;
    }

pub returns-then-ne : goal.returns-then-ne
returns-then-ne c =
    let left = c.args.n - (c.loop-met._met + 1) in
    let met = same_entries _ _ _ left _ _ (omega arith) c.if-a-eq0.false c.if-b-eq0.false _ _ c.row_at-x.ensures.answer c.row_at-y.ensures.answer in
    let rest = chains_same (entries_in c.args.entries.now) (entries_in c.args.derived.now) left c.row_at-x.result.link c.row_at-y.result.link in
    record { answer = sym (met ∙ ap (λ (b : Bool). b && rest) (not-true _ (sym c.ne.ensures ∙ c.if-ne.true))) ∙ c.loop-met.invariant }

pub loop-met-preserved : goal.loop-met-preserved
loop-met-preserved c =
    let left = c.args.n - (c.loop-met._met + 1) in
    let met = same_entries _ _ _ left _ _ (omega arith) c.if-a-eq0.false c.if-b-eq0.false _ _ c.row_at-x.ensures.answer c.row_at-y.ensures.answer in
    let rest = chains_same (entries_in c.args.entries.now) (entries_in c.args.derived.now) left c.row_at-x.result.link c.row_at-y.result.link in
    sym (met ∙ ap (λ (b : Bool). b && rest) (not-false _ (sym c.ne.ensures ∙ c.if-ne.false))) ∙ c.loop-met.invariant

pub returns-then-a-eq0-2 : goal.returns-then-a-eq0-2
returns-then-a-eq0-2 c =
    let long = same_long (entries_in c.args.entries.now) (entries_in c.args.derived.now) (c.args.n - c.loop-met._met) c.loop-met.a c.loop-met.b (omega arith) in
    record { answer = sym (rw (eq-eqb c.loop-met.a 0 c.if-a-eq0-2.true) at long) ∙ c.loop-met.invariant }

pub returns-else-a-eq0-2 : goal.returns-else-a-eq0-2
returns-else-a-eq0-2 c =
    let long = same_long (entries_in c.args.entries.now) (entries_in c.args.derived.now) (c.args.n - c.loop-met._met) c.loop-met.a c.loop-met.b (omega arith) in
    let other = ne_eqb c.loop-met.a 0 c.if-a-eq0-2.false in
    record { answer = other ∙ sym (rw other at long) ∙ c.loop-met.invariant }
