-- Only `nan` is a NaN, and its word is `NAN_WORD`; the word of any other float is its bits.
use Rattle.std.proofs.Common.{sym, arith}
use Rattle.std.proofs.lemmas.Grind.{common_steps}
use Rattle.math.specs.Word.{word_of}
use Rattle.math.proofs.Words.{only_nan, word-is}
use Rattle.math.proofs.word_of.Goals as goal

pub returns-then-is_nan : goal.returns-then-is_nan
unfolding word_of
returns-then-is_nan c = grind (arith, common_steps, only_nan)

pub returns-else-is_nan : goal.returns-else-is_nan
returns-else-is_nan c = record { answer = sym (word-is _) }
