-- The controls of the hash, the name search and the program, each proved by computation. Assumes nothing.
use mathlib.Core.Path.{refl}
use Rattle.format.specs.ProgramControls.{ProgramControls}
use Rattle.format.proofs.Computing.{everything}

pub program_controls : ProgramControls
unfolding everything
program_controls =
    record {
      high_bytes = refl;
      searches = refl;
      first_of_two = refl;
      search_at_zero = refl;
      program_tables = refl;
      program_derives = refl;
      prints_ok = refl;
      longest = refl;
      too_long = refl;
      prints_digits = refl;
      no_graphics = refl;
      prints_refused = refl;
    }
