-- The hash so far, gone on over the bytes that are left, is the hash of all.
use Rattle.std.proofs.Common.{◌≡◌, drop}
use Rattle.format.specs.Hash.{mix}
use Rattle.hash.proofs.rage_joaat.Given as goal

abbrev pub invariant-loop-b : goal.invariant-loop-b
invariant-loop-b l = mix l.hash (drop l.b-index l.s) ≡ mix 0 l.s
