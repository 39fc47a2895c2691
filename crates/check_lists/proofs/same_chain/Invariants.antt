-- What is left of the two chains is alike just where the chains are.
use Rattle.std.proofs.Common.{◌≡◌, ◌-◌}
use Rattle.check_lists.specs.Chained.{entries_in}
use Rattle.check_lists.proofs.Entries.{chains_same}
use Rattle.check_lists.proofs.same_chain.Given as goal

abbrev pub invariant-loop-met : goal.invariant-loop-met
invariant-loop-met l =
    chains_same (entries_in l.entries) (entries_in l.derived) (l.n - l._met) l.a l.b
    ≡ chains_same (entries_in l.entries) (entries_in l.derived) l.n l.link l.head
