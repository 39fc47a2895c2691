-- The first i words are those of the floats.
use Rattle.std.proofs.Common.{◌≡◌, length, take, map}
use Rattle.math.specs.Word.{word_of}
use Rattle.math.proofs.Mat4.words.Given as goal

abbrev pub invariant-loop-i : goal.invariant-loop-i
invariant-loop-i l = (length l.words ≡ 16) × (take l.i l.words ≡ map word_of (take l.i l.float-items))
