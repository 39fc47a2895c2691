-- The words of a name's place. Assumes nothing.
use mathlib.Core.Path.{◌≡◌, refl}
use mathlib.Core.List.{◌++◌}
use Rattle.std.specs.Prelude.{Option, None, Some}
use Rattle.format.specs.Section as section
use Rattle.format.specs.Rows.{place_words, two_words}
use Rattle.rows.specs.Value.{our_place}

pub place_words_lem : (o : Option section.Place) → place_words o ≡ two_words (our_place o).address ++ two_words (our_place o).size
place_words_lem None = refl
place_words_lem (Some p) = refl
