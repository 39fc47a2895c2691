-- `blocks::cursor::Cursor::vec3` meets its contract: the bytes taken as words. Assumes nothing.
use Rattle.blocks.proofs.Cursors.{words3_taken}
use Rattle.blocks.proofs.cursor.Cursor.vec3.Goals as goal

pub returns-clause-answer : goal.returns-clause-answer
returns-clause-answer c = rw (c.read.ensures.answer, c.read-2.ensures.answer, c.read-3.ensures.answer) (words3_taken _ _ c.take-bytes.ensures.bytes)
