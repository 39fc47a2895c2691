-- `read_bones::read_bones` meets its contract.
-- The loop's invariant: i bones are read, each in the next row. Assumes nothing.
use Rattle.blocks.specs.Places.{section_of}
use Rattle.read_bones.specs.Lent.{SameTables}
use Rattle.read_bones.proofs.Stretches.{Going}
use Rattle.read_bones.proofs.read_bones.Given as goal

abbrev pub invariant-loop : goal.invariant-loop
invariant-loop l =
    Going (section_of l.section) l.va l.n l.used l.initial.tables.bones.now l.initial.tables.pool.now l.at l.row l.counter
    l.tables.bones.now l.tables.pool.now
    × SameTables l.initial.tables l.tables
