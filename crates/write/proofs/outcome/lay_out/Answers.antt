-- `write::outcome::lay_out` meets its contract. Assumes nothing.
use mathlib.Core.Path.{sym}
use native.Mathlib.Omega.{arith}
use Rattle.format.specs.Words.{meant_words4}
use Rattle.write.proofs.Stages.{place_asks, after_asks, size_is, ready}
use Rattle.write.proofs.Outcomes.{writes_refused, writes_done, laid_many, laid-short, laid_done}
use Rattle.write.proofs.outcome.lay_out.Goals as goal

pub returns-then-s-gt-MOST : goal.returns-then-s-gt-MOST
returns-then-s-gt-MOST c =
    record { written = writes_refused _ (laid_many _ _ _ _ (omega (arith, c.requires.children_is, c.if-s-gt-MOST.true))) }

pub place-at-requires : goal.place-at-requires
place-at-requires c = place_asks _ c.requires c.entry_count.ensures.answer

pub after-size-requires : goal.after-size-requires
after-size-requires c = after_asks _ c.requires c.entry_count.ensures.answer c.place-at.ensures.answer c.if-s-gt-MOST.false

pub returns-then-size-out : goal.returns-then-size-out
returns-then-size-out c =
    let n = size_is _ c.requires c.entry_count.ensures.answer c.place-at.ensures.answer c.after-size.ensures.answer
    (meant_words4 c.args.free) in
    record {
      written =
          writes_refused _
          (laid-short _ _ _ _ (omega (arith, c.requires.children_is, c.if-s-gt-MOST.false)) (omega (arith, n, c.if-size-out.true)));
    }

pub fill_section-requires : goal.fill_section-requires
fill_section-requires c =
    ready _ c.requires c.entry_count.ensures.answer c.place-at.ensures.answer c.after-size.ensures.answer c.if-s-gt-MOST.false
    c.if-size-out.false

pub returns : goal.returns
returns c =
    let n = size_is _ c.requires c.entry_count.ensures.answer c.place-at.ensures.answer c.after-size.ensures.answer
    (meant_words4 c.args.free) in
    record {
      written =
          writes_done _
          (laid_done _ _ _ _ (omega (arith, c.requires.children_is, c.if-s-gt-MOST.false)) (omega (arith, n, c.if-size-out.false)))
          (sym n) c.fill_section.ensures.bytes;
    }
