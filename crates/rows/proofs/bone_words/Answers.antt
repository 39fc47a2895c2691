-- `rows::bone_words` meets its contract. Assumes nothing.
use Rattle.rows.proofs.Storing.{bone_words_made}
use Rattle.rows.proofs.bone_words.Goals as goal

pub returns : goal.returns
returns c =
    record {
      answer =
          bone_words_made _ _ _ _ _ _ _ _ _ c.place_of-n.ensures.answer c.both_halves.ensures.answer c.both_halves-2.ensures.answer c.from.ensures
          c.lower_word.ensures.answer c.upper_word.ensures.answer c.lower_word-2.ensures.answer c.upper_word-2.ensures.answer;
    }
