-- `joints::limits::fresh_rotation_limit` meets its contract: the default record, read. Assumes nothing.
use mathlib.Core.Path.{ap, ◌∙◌}
use mathlib.Core.List.{List}
use Prim.Native.Nat.{ℕ}
use Rattle.format.specs.Field.{words}
use Rattle.format.specs.Joints.{rotation_limit, rotation_words}
use Rattle.joints.proofs.Slots.{fresh-words}
use Rattle.joints.proofs.limits.fresh_rotation_limit.Goals as goal

pub returns : goal.returns
returns c =
    record {
      answer =
          c.from_record.ensures
          ∙ ap (λ (b : List ℕ). rotation_words (rotation_limit (words 4 48 b))) c.store.ensures
          ∙ ap (λ (w : List ℕ). rotation_words (rotation_limit w)) fresh-words;
    }
