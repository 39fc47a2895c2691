-- Controls of the hash, the name search, the program's tables and what it prints (see `Controls`). Definitions only.
use Rattle.std.specs.Prelude.{◌≡◌, [], ◌∷◌, map, replicate}
use Rattle.std.specs.Prelude.{None, Some}
use Rattle.format.specs.Result.{done}
use Rattle.format.specs.Layout.{base}
use Rattle.format.specs.Hash.{rage_joaat}
use Rattle.format.specs.Search.{search}
use Rattle.format.specs.Program.{program_room, program_derive_room, printed}
use Rattle.format.specs.Controls.{edited, control_with}
use Rattle.format.specs.ControlSection.{control_bytes}

pub record ProgramControls : Type 0 where
  -- the hash of two bytes above 127
  pub high_bytes : rage_joaat (195 ∷ 191 ∷ []) ≡ 0x4983_36EF
  -- the keys of "He" and of the empty name, and one that no name has
  pub searches : map (search (control_with []) program_room base) (0x8B6F_4551 ∷ 0 ∷ 1 ∷ []) ≡ done (Some 0) ∷ done (Some 2) ∷ done None ∷ []
  -- bone 2 has the name "He" too: the first is found
  pub first_of_two : search (control_with ((488, 0) ∷ (489, 2) ∷ [])) program_room base 0x8B6F_4551 ≡ done (Some 0)
  -- root 0
  pub search_at_zero : search (control_with []) program_room 0 0 ≡ done None
  -- the rows of the program's tables for reading, and for deriving (docs/FORMAT.md, "Joints and names")
  pub program_tables :
      program_room.bones ∷ program_room.buckets ∷ program_room.entries ∷ program_room.inverse ∷ program_room.local ∷
      program_room.parents ∷ program_room.children ∷ program_room.pool ∷ [] ≡
      800 ∷ 8192 ∷ 4096 ∷ 800 ∷ 800 ∷ 800 ∷ 8192 ∷ 8192 ∷ []
  pub program_derives :
      program_derive_room.buckets ∷ program_derive_room.entries ∷ program_derive_room.inverse ∷ program_derive_room.local ∷
      program_derive_room.parents ∷ program_derive_room.children ∷ program_derive_room.pending ∷ [] ≡
      8192 ∷ 4096 ∷ 800 ∷ 800 ∷ 800 ∷ 8192 ∷ 3204 ∷ []
  -- "ok 3" on the section of three bones
  pub prints_ok : printed control_bytes ≡ 111 ∷ 107 ∷ 32 ∷ 51 ∷ 10 ∷ []
  -- "ok 0" on 65,536 zero bytes, "refused 1" on one more
  pub longest : printed (replicate 65536 0) ≡ 111 ∷ 107 ∷ 32 ∷ 48 ∷ 10 ∷ []
  pub too_long : printed (replicate 65537 0) ≡ 114 ∷ 101 ∷ 102 ∷ 117 ∷ 115 ∷ 101 ∷ 100 ∷ 32 ∷ 49 ∷ 10 ∷ []
  -- "refused 21": the first entry's link is 0
  pub prints_digits :
      printed (edited ((216, 0) ∷ (219, 0) ∷ []) control_bytes) ≡
      114 ∷ 101 ∷ 102 ∷ 117 ∷ 115 ∷ 101 ∷ 100 ∷ 32 ∷ 50 ∷ 49 ∷ 10 ∷ []
  -- "refused 11": the inverse pointer is one of the graphics half, which is empty
  pub no_graphics : printed (edited ((43, 96) ∷ []) control_bytes) ≡ 114 ∷ 101 ∷ 102 ∷ 117 ∷ 115 ∷ 101 ∷ 100 ∷ 32 ∷ 49 ∷ 49 ∷ 10 ∷ []
  -- "refused 11" on no bytes
  pub prints_refused : printed [] ≡ 114 ∷ 101 ∷ 102 ∷ 117 ∷ 115 ∷ 101 ∷ 100 ∷ 32 ∷ 49 ∷ 49 ∷ 10 ∷ []
