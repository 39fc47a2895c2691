-- `write::chains::put_chains` meets its contract. The loop's invariant: the buckets from b on are left. Assumes nothing.
use Rattle.write.proofs.Linked.{Buckets}
use Rattle.write.proofs.chains.put_chains.Given as goal

abbrev pub invariant-loop-b : goal.invariant-loop-b
invariant-loop-b l = Buckets l.buckets l.entries l.at l.to l.initial.d l.d l.b l.end
