-- Controls: computed cases whose answers come from the Rust, since a wrong clause of a definition need break no proof. Here: the section of
-- three bones with single bytes edited; `ReadingControls` and the files behind it have the rest. `compare/controls` computes every answer
-- and holds these files to it: it runs the published Rust, puts the check together from the Rust's own functions, and follows chains for
-- the lookup, which the Rust has not, over the Rust's own reader. Every NaN word outside column 4 counts as 7FC00000 hex. Definitions only.
use Rattle.std.specs.Prelude.{◌≡◌, ℕ, List, [], ◌∷◌, map, set, take, replicate}
use Rattle.std.specs.Prelude.{Option, None, Some}
use Rattle.format.specs.Result.{Res, refused, done}
use Rattle.format.specs.Section.{Section, Place, name_bytes}
use Rattle.format.specs.Bone.{Bone, Words3, Words4, words3, words4, minus_one, naming}
use Rattle.format.specs.Matrices.{inverse_of, local_of}
use Rattle.format.specs.Layout.{Bytes, NamedBone, base, layout}
use Rattle.format.specs.Lookup.{lookup}
use Rattle.format.specs.Check.{Read, read, check}
use Rattle.format.specs.Program.{program_room, program_derive_room}
use Rattle.format.specs.TrialCases.{plain, no_free}
use Rattle.format.specs.ControlSection.{control_bytes}

-- ---- the bones

-- a bone turned, moved and scaled: parent, index, name
abbrev pub turned : ℕ → ℕ → Bytes → NamedBone
turned p i s =
    record {
      rotation = words4 0x3F00_0000 0x3E80_0000 0xBF00_0000 0x3F40_0000;
      translation = words3 0x3F80_0000 0xC000_0000 0x3DCC_CCCD;
      scale = words3 0x3F80_0000 0x4000_0000 0x3F00_0000;
      next_sibling = 2;
      parent = p;
      name = Some s;
      flags = 7;
      index = i;
      tag = 5;
      kept = words4 1 2 0xFFC0_0001 3;
    }

-- tags 5, 16 and 5: one bucket; a name, no name and an empty name
abbrev pub three : List NamedBone
three = turned minus_one 0 (72 ∷ 101 ∷ []) ∷ plain 0 1 16 ∷ turned 0 2 [] ∷ []

-- a root of no rotation at a place, with kept words
abbrev pub root_at : Words3 → Words4 → NamedBone
root_at v k =
    record {
      rotation = words4 0 0 0 0x3F80_0000;
      translation = v;
      scale = words3 0x3F80_0000 0x3F80_0000 0x3F80_0000;
      next_sibling = minus_one;
      parent = minus_one;
      name = None;
      flags = 0;
      index = 0;
      tag = 0;
      kept = k;
    }

abbrev pub still : NamedBone
still = root_at (words3 0 0 0) (words4 0 0 0 0)

abbrev pub infinite : NamedBone
infinite = root_at (words3 0x7F80_0000 0 0) (words4 0 0 0 0)

-- a signalling NaN
abbrev pub not_a_number : NamedBone
not_a_number = root_at (words3 0x7FA0_0001 0 0) (words4 0x7FA0_0001 0 0 0)

-- ---- the section with bytes edited: offsets and new values

abbrev pub edited : List (ℕ × ℕ) → Bytes → Bytes
edited [] s = s
edited ((at, v) ∷ es) s = edited es (set s at v)

abbrev pub control_with : List (ℕ × ℕ) → Section
control_with es = record { system = edited es control_bytes; graphics = [] }

-- the first n bytes of a section of no bones
abbrev pub shortened : ℕ → Section
shortened n = record { system = take n (layout [] no_free); graphics = [] }

abbrev pub read_with : List (ℕ × ℕ) → Res (Option Read)
read_with es = read (control_with es) program_room base

abbrev pub check_with : List (ℕ × ℕ) → Res (Option ℕ)
check_with es = check (control_with es) program_room program_derive_room base

-- ---- parts of an answer

-- the bones read, with their names' bytes
abbrev pub bones_named : Section → Res (Option Read) → Res (Option (List NamedBone))
bones_named sec (refused n) = refused n
bones_named sec (done None) = done None
bones_named sec (done (Some r)) = done (Some (map (naming (name_bytes sec)) r.bones))

abbrev pub bones_back : Section → Res (Option (List NamedBone))
bones_back sec = bones_named sec (read sec program_room base)

abbrev pub children_read : Res (Option Read) → List ℕ
children_read (done (Some r)) = r.children
children_read (done None) = []
children_read (refused n) = []

abbrev pub kept_read : Res (Option Read) → List Words4
kept_read (done (Some r)) = map (λ (b : Bone Place). b.kept) r.bones
kept_read (done None) = []
kept_read (refused n) = []

-- ---- the cases

pub record Controls : Type 0 where
  -- the Rust lays the three bones just so
  pub lays : layout three no_free ≡ control_bytes
  -- and reads them back
  pub reads_back : bones_back (control_with []) ≡ done (Some three)
  pub accepted : check_with [] ≡ done (Some 3)
  -- reading refuses
  -- the top four bits of the inverse pointer are 4
  pub neither_half : read_with ((43, 64) ∷ []) ≡ refused 10
  -- bit 32 of bone 0's name address is set
  pub upper_bits : read_with ((332, 1) ∷ []) ≡ refused 10
  -- the parents pointer is the section's end
  pub parents_past_end : read_with ((56, 176) ∷ []) ≡ refused 11
  -- the child count is 255
  pub children_past_end : read_with ((96, 255) ∷ []) ≡ refused 11
  -- bone 0's name lies at the first entry
  pub name_at_entry : read_with ((328, 208) ∷ (329, 0) ∷ []) ≡ refused 12
  -- bone 0's name lies at bone 0 itself: the name is pooled before its bone
  pub name_at_its_bone : check_with ((328, 16) ∷ (329, 1) ∷ []) ≡ done (Some 3)
  -- the bone count is 4: the fourth bone lies where bone 0's name was read
  pub fourth_bone : read_with ((94, 4) ∷ []) ≡ refused 12
  -- the bones pointer is 15
  pub pointer15 : read_with ((32, 15) ∷ (33, 0) ∷ (35, 0) ∷ []) ≡ refused 13
  -- 12 goes before 10: no buckets, their pointer in neither half and pooled unexamined, and bone 0's name there too
  pub twelve_before_ten :
      read_with ((24, 0) ∷ (19, 0) ∷ (328, 112) ∷ (329, 0) ∷ (331, 0) ∷ []) ≡ refused 12
  -- the last field of a skeleton ends at 98: the first 98 bytes of a section of no bones read, and 97 do not
  pub ninety_eight : check (shortened 98) program_room program_derive_room base ≡ done (Some 0)
  pub ninety_seven : check (shortened 97) program_room program_derive_room base ≡ refused 11
  -- the check refuses
  -- the bones pointer is 16: no bones, and eleven chains too many
  pub pointer16 : check_with ((33, 0) ∷ (35, 0) ∷ []) ≡ refused 21
  -- the bucket count is 12: one empty chain too many
  pub twelve_chains : check_with ((24, 12) ∷ []) ≡ refused 21
  -- the first entry's link is 0
  pub cut_chain : check_with ((216, 0) ∷ (219, 0) ∷ []) ≡ refused 21
  -- the first entry's position is 1
  pub wrong_position : check_with ((212, 1) ∷ []) ≡ refused 21
  -- the first entry links to itself
  pub circular_chain : check_with ((216, 208) ∷ []) ≡ refused 21
  -- the second parent listed is 1
  pub wrong_parent : check_with ((914, 1) ∷ []) ≡ refused 22
  -- the first child listed is 2
  pub wrong_child : check_with ((928, 2) ∷ []) ≡ refused 23
  -- the lowest bit of the first inverse word is turned
  pub wrong_inverse : check_with ((528, 13) ∷ []) ≡ refused 24
  -- the lowest bit of the first local word is turned
  pub wrong_local : check_with ((720, 1) ∷ []) ≡ refused 25
  -- another column 4 of the first local matrix is another bone, and no fault
  pub other_column4 : check_with ((732, 9) ∷ []) ≡ done (Some 3)
  -- lists that lie at one address
  -- the children pointer is the parents pointer: three entries, whatever the child count
  pub children_at_parents : children_read (read_with ((64, 144) ∷ [])) ≡ 65535 ∷ 0 ∷ 0 ∷ []
  pub children_at_parents_past_end : children_read (read_with ((64, 144) ∷ (96, 255) ∷ [])) ≡ 65535 ∷ 0 ∷ 0 ∷ []
  pub children_at_parents_refused : check_with ((64, 144) ∷ []) ≡ refused 23
  -- the local pointer is the inverse pointer: the kept words are its column 4
  pub local_at_inverse : kept_read (read_with ((48, 16) ∷ [])) ≡ replicate 3 (words4 0 0 0 0)
  pub local_at_inverse_refused : check_with ((48, 16) ∷ []) ≡ refused 25
  -- lookups
  -- tags 5, 16, 27, 0
  pub lookups : map (lookup (control_with []) base) (5 ∷ 16 ∷ 27 ∷ 0 ∷ []) ≡ done (Some 2) ∷ done (Some 1) ∷ done None ∷ done None ∷ []
  -- tag 16 behind an entry that links to itself
  pub circular_lookup : lookup (control_with ((216, 208) ∷ [])) base 16 ≡ refused 14
  -- derived matrices of one root: −0 and NaN words
  -- the identity's inverse has −0 words
  pub identity_inverse : inverse_of (still ∷ []) still ≡
      0x3F80_0000 ∷ 0x8000_0000 ∷ 0 ∷ 0 ∷ 0x8000_0000 ∷ 0x3F80_0000 ∷ 0x8000_0000 ∷ 0 ∷
      0 ∷ 0x8000_0000 ∷ 0x3F80_0000 ∷ 0 ∷ 0x8000_0000 ∷ 0 ∷ 0x8000_0000 ∷ 0 ∷ []
  -- an infinite translation makes every word a NaN but column 4
  pub infinite_inverse : inverse_of (infinite ∷ []) infinite ≡
      0x7FC0_0000 ∷ 0x7FC0_0000 ∷ 0x7FC0_0000 ∷ 0 ∷ 0x7FC0_0000 ∷ 0x7FC0_0000 ∷ 0x7FC0_0000 ∷ 0 ∷
      0x7FC0_0000 ∷ 0x7FC0_0000 ∷ 0x7FC0_0000 ∷ 0 ∷ 0x7FC0_0000 ∷ 0x7FC0_0000 ∷ 0x7FC0_0000 ∷ 0 ∷ []
  -- a NaN translation is 7FC00000 hex in a derived word, and kept as it is in column 4
  pub nan_local : local_of not_a_number ≡
      0x3F80_0000 ∷ 0 ∷ 0 ∷ 0x7FA0_0001 ∷ 0 ∷ 0x3F80_0000 ∷ 0 ∷ 0 ∷
      0 ∷ 0 ∷ 0x3F80_0000 ∷ 0 ∷ 0x7FC0_0000 ∷ 0 ∷ 0 ∷ 0 ∷ []
