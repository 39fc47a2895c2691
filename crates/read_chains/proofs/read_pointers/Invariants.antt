-- `read_chains::read_pointers` meets its contract: `Bucketing` holds at each turn. Assumes nothing.
use Rattle.blocks.specs.Places.{section_of}
use Rattle.read_chains.specs.Lent.{SameTables}
use Rattle.read_chains.proofs.Pointers.{Bucketing}
use Rattle.read_chains.proofs.read_pointers.Given as goal

abbrev pub invariant-loop-pointer : goal.invariant-loop-pointer
invariant-loop-pointer l =
    Bucketing (section_of l.section) l.bytes l.fn.used.buckets l.fn.used.entries l.pointer-index l.now.buckets l.now.entries
    l.initial.tables.buckets.now l.tables.buckets.now l.initial.tables.entries.now l.tables.entries.now
    l.initial.tables.pool.now l.tables.pool.now
    × SameTables l.initial.tables l.tables
