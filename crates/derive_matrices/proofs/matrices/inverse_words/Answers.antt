-- `derive_matrices::matrices::inverse_words` meets its contract: what the calls ensure, put together. Assumes nothing.
use Rattle.derive_matrices.proofs.MatrixWords.{inverse_made}
use Rattle.derive_matrices.proofs.matrices.inverse_words.Goals as goal

pub returns : goal.returns
returns c =
    record {
      answer = inverse_made _ _ _ _ c.from_quat_pos.ensures.answer c.inverse.ensures.answer c.words-w.ensures.answer;
    }
