-- `blocks::cursor::Cursor::u8` meets its contract: the first of the bytes taken. Assumes nothing.
use mathlib.Core.Path.{ap, ◌∙◌}
use native.Mathlib.Omega.{arith}
use Rattle.format.specs.Field.{field_at}
use Rattle.blocks.proofs.Cursors.{field_whole, first_byte}
use Rattle.blocks.proofs.cursor.Cursor.u8.Goals as goal

pub returns-clause-answer : goal.returns-clause-answer
returns-clause-answer c =
    rw (c.unwrap_or.ensures, c.copied.ensures, c.first.ensures.value) (first_byte _) ∙
    ap (λ b. field_at 1 b 0) c.take.ensures.bytes ∙ field_whole 1 _ _ (omega arith)
