-- Each read of a cursor in turn, from a position on, and a skip of n bytes behind the last. Definitions only.
use Rattle.std.specs.Prelude.{ℕ, Bool, List, [], ◌∷◌, leb, length}
use Rattle.std.proofs.lemmas.List.Edits.{sets}
use Rattle.std.specs.Borrow.{Bor}
use Rattle.format.specs.Result.{status}
use Rattle.format.specs.Refusal.{outcome}
use Rattle.format.specs.Field.{field_at, which_list}
use Rattle.format.specs.declared.Words3.{Words3}
use Rattle.format.specs.declared.Words4.{Words4}
use Rattle.blocks.specs.Cursor.{words3_at, words4_at, cursor_at, read_by, taken, skipped, unmarked, va_of}
use Rattle.blocks.specs.declared.cursor.Cursor.{Cursor}
use Rattle.cursors.specs.declared.Turns.{Turns}

-- the cursor before each read, in the order of the reads
module _ (s : Bor (List ℕ)) (pos base n : ℕ) where
  abbrev pub byte_at : Cursor
  byte_at = cursor_at s pos base

  abbrev pub half_at : Cursor
  half_at = taken 1 byte_at

  abbrev pub signed_at : Cursor
  signed_at = taken 2 half_at

  abbrev pub word_at : Cursor
  word_at = taken 2 signed_at

  abbrev pub long_at : Cursor
  long_at = taken 4 word_at

  abbrev pub float_at : Cursor
  float_at = taken 8 long_at

  abbrev pub three_from : Cursor
  three_from = taken 4 float_at

  abbrev three_read : Words3
  three_read = read_by words3_at three_from

  abbrev pub four_at : Cursor
  four_at = taken 12 three_from

  abbrev four_read : Words4
  four_read = read_by words4_at four_at

  abbrev pub skip_at : Cursor
  skip_at = taken 16 four_at

  abbrev pub last_at : Cursor
  last_at = skipped n skip_at

  -- the numbers in the order of the reads, then the address and the status
  unfoldable pub in_turn : List ℕ
  in_turn =
      read_by (field_at 1) byte_at ∷ read_by (field_at 2) half_at ∷ read_by (field_at 2) signed_at ∷
      read_by (field_at 4) word_at ∷ read_by (field_at 8) long_at ∷ read_by (field_at 4) float_at ∷
      three_read.x ∷ three_read.y ∷ three_read.z ∷
      four_read.x ∷ four_read.y ∷ four_read.z ∷ four_read.w ∷
      va_of last_at ∷
      status (unmarked last_at) ∷ []

-- the numbers of the code's answer
unfoldable pub numbers_of : Turns → List ℕ
numbers_of t =
    t.byte ∷ t.half ∷ t.signed ∷ t.word ∷ t.long ∷ t.float ∷
    t.three.x ∷ t.three.y ∷ t.three.z ∷
    t.four.x ∷ t.four.y ∷ t.four.z ∷ t.four.w ∷
    t.va ∷ status (outcome t.checked) ∷ []

-- whether the numbers fit in a lent slice
abbrev pub fit : List ℕ → Bool
fit d = leb 15 (length d)

-- the slice with the numbers at its front, or as it was where they do not fit
unfoldable pub told : List ℕ → List ℕ → List ℕ
told l d = which_list (fit d) (sets d 0 l) d
