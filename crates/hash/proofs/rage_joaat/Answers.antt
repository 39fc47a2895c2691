-- One byte more, and the last three steps: each sum loses its carry as `wrapped` does.
use Rattle.std.proofs.Common.{◌≡◌, ℕ, ◌+◌, ◌<◌, List, length, get_or, drop, arith}
use Rattle.std.proofs.lemmas.List.{drop_more}
use Rattle.std.proofs.lemmas.Grind.{common_steps}
use Rattle.format.specs.Hash.{wrapped, add_shifted, xor_shifted, mix, rage_joaat}
use Rattle.hash.proofs.rage_joaat.Goals as goal

-- one byte more
mix_next :
    (s : List ℕ) (i h : ℕ) → i < length s
    → mix (xor_shifted 6 (add_shifted 10 (wrapped (h + get_or s i 0)))) (drop (i + 1) s) ≡ mix h (drop i s)
unfolding mix
mix_next s i h l = rw (drop_more s i 0)

pub loop-b-preserved : goal.loop-b-preserved
loop-b-preserved c = grind (arith, common_steps, mix_next c.args.s.now c.loop-b.b-index c.loop-b.hash)

pub returns : goal.returns
unfolding mix rage_joaat
returns c = grind (arith, common_steps)
