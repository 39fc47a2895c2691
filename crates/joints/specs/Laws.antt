-- What the two kinds of limits meet (`specs/Limit.antt`). Assumes nothing.
use Rattle.std.specs.Prelude.{◌≡◌, refl, ℕ, List, true, leb, get_or}
use Rattle.std.proofs.Common.{arith}
use Rattle.format.specs.Joints.{rotation_slots, rotation_row, rotation_written, translation_slots, translation_row, translation_written}
use Rattle.joints.specs.Limit.{Sizes, limit_written}

pub rotation_sizes : Sizes 192 49 48
rotation_sizes = record { four = refl; slots_some = omega arith; slots_most = omega arith; words_some = omega arith }

pub translation_sizes : Sizes 64 16 16
translation_sizes = record { four = refl; slots_some = omega arith; slots_most = omega arith; words_some = omega arith }

pub rotation_written_law :
    (size : ℕ) (w : List ℕ) →
    rotation_written size (rotation_row w) ≡ limit_written (leb (get_or w 0 0) 65535) 192 size (rotation_slots (rotation_row w))
unfolding rotation_written
rotation_written_law size w = refl

pub translation_written_law :
    (size : ℕ) (w : List ℕ) →
    translation_written size (translation_row w) ≡ limit_written true 64 size (translation_slots (translation_row w))
unfolding translation_written
translation_written_law size w = refl
