-- The controls of fields and rows, each proved by computation. Assumes nothing.
use mathlib.Core.Path.{refl}
use Rattle.format.specs.RowsControls.{RowsControls}
use Rattle.format.proofs.Computing.{everything}

pub rows_controls : RowsControls
unfolding everything
rows_controls =
    record {
      reads_inside = refl;
      stores_inside = refl;
      bone_laid = refl;
      bone_rows_back = refl;
      entry_laid = refl;
      rotation_laid = refl;
      translation_laid = refl;
      rotation_row_back = refl;
      wide_row_back = refl;
      translation_row_back = refl;
    }
