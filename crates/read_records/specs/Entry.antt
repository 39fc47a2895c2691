-- The fields of a tag entry as the code has them, by its bytes and by its address (docs/FORMAT.md, "Records"). Definitions only.
use Rattle.std.specs.Prelude.{ℕ, List}
use Rattle.format.specs.Result.{Res, done, ◌>>=◌}
use Rattle.format.specs.Field.{field_at}
use Rattle.format.specs.Section.{Section, part}
use Rattle.format.specs.Records.{entry_tag, entry_position, entry_next}
use Rattle.blocks.specs.Cursor.{read_by, taken, unmarked}
use Rattle.blocks.specs.declared.cursor.Cursor.{Cursor}
use Rattle.read_records.specs.declared.entry.Entry.{Entry}

-- the fields of its sixteen bytes
abbrev pub entry_in : List ℕ → Entry
entry_in b = record { tag = entry_tag b; position = entry_position b; next = entry_next b }

-- what a cursor reads, or 11 where it ran past the end
abbrev pub entry_read : Cursor → Res Entry
entry_read c = do
  u ← unmarked (taken 8 (taken 4 (taken 4 c)))
  done
      (record {
        tag = read_by (field_at 4) c;
        position = read_by (field_at 4) (taken 4 c);
        next = read_by (field_at 8) (taken 4 (taken 4 c));
      })

-- the fields of the entry at an address
unfoldable pub entry_at : Section → ℕ → Res Entry
entry_at sec va = do
  b ← part sec va 16
  done (entry_in b)
