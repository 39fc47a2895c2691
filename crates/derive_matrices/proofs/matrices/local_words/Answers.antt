-- `derive_matrices::matrices::local_words` meets its contract: what the calls ensure, put together. Assumes nothing.
use Rattle.derive_matrices.proofs.MatrixWords.{local_made}
use Rattle.derive_matrices.proofs.matrices.local_words.Goals as goal

pub returns : goal.returns
returns c =
    record {
      answer =
          local_made _ _ _ _ _ _ _ _ c.requires c.from_quat_pos-m.ensures.answer
          c.scale_vector-s.ensures.answer c.scale_at-scale.ensures.answer c.kept_at-kept.ensures.answer
          c.with_scale_vector.ensures.answer
          c.words-w.ensures.answer;
    }
