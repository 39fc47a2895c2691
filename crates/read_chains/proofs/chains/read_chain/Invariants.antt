-- `read_chains::chains::read_chain` meets its contract: `Chaining` holds at each turn. Assumes nothing.
use Rattle.blocks.specs.Places.{section_of}
use Rattle.blocks.specs.Hashed.{PlacedAt}
use Rattle.read_chains.proofs.Chaining.{Chaining}
use Rattle.read_chains.proofs.chains.read_chain.Given as goal

abbrev pub invariant-loop-row : goal.invariant-loop-row
invariant-loop-row l =
    Chaining (section_of l.section) l.fn.first.address l.used l.unread.address l.row l.initial.entries l.entries l.initial.pool
    l.pool × PlacedAt l.pool l.unread.address l.unread.spot
