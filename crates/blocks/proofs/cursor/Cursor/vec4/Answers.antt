-- `blocks::cursor::Cursor::vec4` meets its contract: the bytes taken as words. Assumes nothing.
use Rattle.blocks.proofs.Cursors.{words4_taken}
use Rattle.blocks.proofs.cursor.Cursor.vec4.Goals as goal

pub returns-clause-answer : goal.returns-clause-answer
returns-clause-answer c = rw (c.read.ensures.answer, c.read-2.ensures.answer, c.read-3.ensures.answer, c.read-4.ensures.answer) (words4_taken _ _ c.take-bytes.ensures.bytes)
