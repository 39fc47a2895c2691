-- `write::block::name_bytes` meets its contract. Assumes nothing.
use mathlib.Core.Path.{sym, ap}
use Rattle.write.specs.Records.{takes}
use Rattle.write.proofs.Bones.{name-none}
use Rattle.write.proofs.block.name_bytes.Goals as goal

pub returns-then-name-eq0 : goal.returns-then-name-eq0
returns-then-name-eq0 c =
    record {
      answer =
          sym (ap takes (name-none c.args.row.now c.name_at-name.ensures.answer
          c.if-name-eq0.true));
    }
