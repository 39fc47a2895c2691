-- Controls of lookup and check (see `Controls`): where a chain is left, and the order of the refusals. Definitions only.
use Rattle.std.specs.Prelude.{◌≡◌, [], ◌∷◌}
use Rattle.std.specs.Prelude.{None, Some}
use Rattle.format.specs.Result.{refused, done}
use Rattle.format.specs.Layout.{base}
use Rattle.format.specs.Lookup.{lookup}
use Rattle.format.specs.Check.{check}
use Rattle.format.specs.Program.{program_room, program_derive_room}
use Rattle.format.specs.Controls.{control_with, check_with, shortened}
use Rattle.format.specs.DerivingControls.{lent_rows}
use Rattle.format.specs.WritingControls.{no_deriving}

pub record CheckControls : Type 0 where
  -- ---- lookup
  -- the bone count is 2, and bucket 5 has three entries, none of them with tag 27
  pub fourteen : lookup (control_with ((94, 2) ∷ [])) base 27 ≡ refused 14
  -- the bone count is 1: 14 goes before 10 of the second entry, whose address is in neither half
  pub fourteen_first : lookup (control_with ((94, 1) ∷ (219, 64) ∷ [])) base 16 ≡ refused 14
  -- bit 16 of the first entry's tag is set: it is not tag 5, and the third is found
  pub key_of32_bits : lookup (control_with ((210, 1) ∷ [])) base 5 ≡ done (Some 0)
  -- bit 16 of the first entry's position is set
  pub position_of32_bits : lookup (control_with ((214, 1) ∷ [])) base 5 ≡ done (Some 0x1_0002)
  -- no bucket pointer, and no buckets
  pub no_bucket_pointer : lookup (control_with ((16, 0) ∷ (19, 0) ∷ [])) base 5 ≡ done None
  pub no_bucket_count : lookup (control_with ((24, 0) ∷ [])) base 5 ≡ done None
  -- the bucket array runs past the section's end, though bucket 0 stands
  pub whole_array : lookup (control_with ((16, 128) ∷ (17, 3) ∷ [])) base 0 ≡ refused 11
  -- the first 98 bytes of a section of no bones, and root 0
  pub lookup_in98 : lookup (shortened 98) base 0 ≡ done None
  pub lookup_at_zero : lookup (control_with []) 0 5 ≡ done None
  -- ---- the check
  -- a wrong parent, child, inverse word and local word: the refusals in their order
  pub parents_first : check_with ((914, 1) ∷ (928, 2) ∷ (528, 13) ∷ (720, 1) ∷ []) ≡ refused 22
  pub children_first : check_with ((928, 2) ∷ (528, 13) ∷ (720, 1) ∷ []) ≡ refused 23
  pub inverse_first : check_with ((528, 13) ∷ (720, 1) ∷ []) ≡ refused 24
  -- the first entry's link is 0, and there are no tables for deriving: 1 goes before 21
  pub one_before21 : check (control_with ((216, 0) ∷ (219, 0) ∷ [])) program_room no_deriving base ≡ refused 1
  -- the bones pointer is 16: deriving wants the rows of no bones, though the parents of three stand
  pub rows_of_no_bones : check (control_with ((33, 0) ∷ (35, 0) ∷ [])) program_room (lent_rows 0 0 0 0 0 8 4) base ≡ refused 21
  -- the children pointer is 0
  pub no_children : check_with ((64, 0) ∷ (65, 0) ∷ (67, 0) ∷ []) ≡ refused 23
  -- the last entry links to the first
  pub long_chain : check_with ((248, 208) ∷ (251, 80) ∷ []) ≡ refused 21
  -- bit 16 of the first entry's tag is set
  pub entry_tag_of32_bits : check_with ((210, 1) ∷ []) ≡ refused 21
  -- root 0
  pub check_at_zero : check (control_with []) program_room program_derive_room 0 ≡ done None
