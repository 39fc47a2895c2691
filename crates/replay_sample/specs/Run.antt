-- The runs of a case by their numbers (compare/vectors/README.md). Definitions only.
use Rattle.std.specs.Prelude.{ℕ, if◌then◌else◌, ◌==◌}
use Rattle.replay_sample.specs.declared.run.Run.{Run}
use Rattle.replay_sample.specs.declared.run.Run.TheVariants.{Full, Longer, Short}

-- 100 and 101 are full and longer tables; another number is that of the table that is short
abbrev pub run_of : ℕ → Run
run_of n = if n == 100 then Full else (if n == 101 then Longer else Short n)
