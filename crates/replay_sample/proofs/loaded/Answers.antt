use Rattle.std.proofs.Common.{rules, arith}
use Rattle.replay_sample.specs.Parts.{numbers}
use Rattle.replay_sample.proofs.Numbers.{loaded_more}
use Rattle.replay_sample.proofs.loaded.Goals as goal

pub loop-place-preserved : goal.loop-place-preserved
loop-place-preserved c = (
  search rules,
  loaded_more (numbers 4 c.args.part.now) c.loop-place.word-items 672 c.loop-place.place c.number.result c.loop-place.invariant.0
      c.loop-place.invariant.1 (omega arith) c.number.ensures.answer,
)
