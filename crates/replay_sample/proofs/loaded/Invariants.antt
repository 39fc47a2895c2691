-- The words of the places passed are those of the part, zeros behind them.
use Rattle.std.proofs.Common.{◌≡◌, length, take}
use Rattle.format.specs.Rows.{laid}
use Rattle.replay_sample.specs.Parts.{numbers}
use Rattle.replay_sample.proofs.loaded.Given as goal

abbrev pub invariant-loop-place : goal.invariant-loop-place
invariant-loop-place l = (length l.word-items ≡ 672) × (take l.place l.word-items ≡ take l.place (laid (numbers 4 l.part) 672))
