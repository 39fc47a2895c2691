-- The structs of the code that hold floats as their words, and the records that they stand for: `our..` from the record, `meant..` to it.
-- Definitions only.
use Rattle.format.specs.Bone as format
use Rattle.format.specs.declared.Words3.{Words3}
use Rattle.format.specs.declared.Words4.{Words4}

abbrev pub our_words3 : format.Words3 → Words3
our_words3 v = record { x = v.x; y = v.y; z = v.z }

abbrev pub our_words4 : format.Words4 → Words4
our_words4 v = record { x = v.x; y = v.y; z = v.z; w = v.w }

abbrev pub meant_words3 : Words3 → format.Words3
meant_words3 v = format.words3 v.x v.y v.z

abbrev pub meant_words4 : Words4 → format.Words4
meant_words4 v = format.words4 v.x v.y v.z v.w
