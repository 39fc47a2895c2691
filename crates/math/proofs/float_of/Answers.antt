-- A word above an infinity's, its sign dropped, is a NaN's.
use Rattle.std.proofs.Common.{sym}
use lib.Ieee.{of_bits}
use Rattle.math.proofs.Words.{above_infinity, up_to_infinity}
use Rattle.math.proofs.float_of.Goals as goal

pub float_from_bits-result : goal.float_from_bits-result
float_from_bits-result c = up_to_infinity c.args.w c.if-w-gt-INFINITY_WORD.false

pub returns-then-w-gt-INFINITY_WORD : goal.returns-then-w-gt-INFINITY_WORD
unfolding of_bits
returns-then-w-gt-INFINITY_WORD c = record { answer = sym (above_infinity c.args.w c.if-w-gt-INFINITY_WORD.true) }
