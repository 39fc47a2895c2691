-- `blocks::cursor::Cursor::u32` meets its contract: the bytes taken as one field. Assumes nothing.
use mathlib.Core.Path.{ap, ◌∙◌}
use native.Mathlib.Omega.{arith}
use Rattle.format.specs.Field.{field_at}
use Rattle.blocks.proofs.Cursors.{field_whole}
use Rattle.blocks.proofs.cursor.Cursor.u32.Goals as goal

pub returns-clause-answer : goal.returns-clause-answer
returns-clause-answer c =
    c.read.ensures.answer ∙ ap (λ b. field_at 4 b 0) c.take.ensures.bytes ∙ field_whole 4 _ _ (omega arith)
