-- No word of the row is a NaN's.
use mathlib.Core.Path.{ap}
use mathlib.Core.Bool.{not}
use borrow.Author.Tests.{ne_eqb}
use Rattle.derive_matrices.proofs.PlainWords.{plain_word}
use Rattle.derive_matrices.proofs.walk.float_in.Goals as goal

pub float_from_bits-result : goal.float_from_bits-result
float_from_bits-result g c =
    plain_word _
    (c.requires.0.plains (ap not (ne_eqb g.row.PLAIN 0 c.if-this-ne0.true)) _ c.requires.1)
