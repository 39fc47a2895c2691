-- `write::chains::put_chain` meets its contract. The loop's invariant: the entries from a link on are left. Assumes nothing.
use Rattle.write.proofs.Linked.{Chaining}
use Rattle.write.proofs.chains.put_chain.Given as goal

abbrev pub invariant-loop-next : goal.invariant-loop-next
invariant-loop-next l = Chaining l.entries l.fn.link l.initial.d l.at l.d l.to l.next

abbrev pub decreases-loop-next : goal.decreases-loop-next
decreases-loop-next l = l.next
