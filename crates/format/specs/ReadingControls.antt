-- Controls of reading (see `Controls`): halves and names, fields and their widths, the pool, bytes that must stand, the order, where
-- 1 is met. Definitions only.
use Rattle.std.specs.Prelude.{◌≡◌, ℕ, List, [], ◌∷◌, map, length, replicate}
use Rattle.std.specs.Prelude.{Option, None, Some}
use Rattle.format.specs.Result.{Res, refused, done}
use Rattle.format.specs.Section.{Section, Place, part, name_at, name_bytes}
use Rattle.format.specs.Bone.{Bone, words4}
use Rattle.format.specs.Tables.{Room, SkeletonRow, Tables, no_rows}
use Rattle.format.specs.Read.{read_skeleton}
use Rattle.format.specs.Layout.{Bytes, NamedBone, base, layout}
use Rattle.format.specs.Check.{Read, read, check}
use Rattle.format.specs.Program.{program_room, program_derive_room}
use Rattle.format.specs.TrialCases.{no_free}
use Rattle.format.specs.Controls.{edited, control_with, read_with, check_with, bones_back, children_read, kept_read}

-- system bytes and graphics bytes
abbrev pub halves : Bytes → Bytes → Section
halves s g = record { system = s; graphics = g }

-- an address and a length
abbrev pub place_at : ℕ → ℕ → Place
place_at a n = record { address = a; size = n }

-- the check of the section of no bones with bytes edited
abbrev pub check_empty_with : List (ℕ × ℕ) → Res (Option ℕ)
check_empty_with es = check (halves (edited es (layout [] no_free)) []) program_room program_derive_room base

-- the program's tables, but for the rows of bones, buckets, entries, inverse matrices and the pool
abbrev pub room_with : (bones buckets entries inverse pool : ℕ) → Room
room_with o b e i p = record { bones = o; buckets = b; entries = e; inverse = i; local = 800; parents = 800; children = 8192; pool = p }

abbrev pub parents_read : Res (Option Read) → List ℕ
parents_read (done (Some r)) = r.parents
parents_read (done None) = []
parents_read (refused n) = []

-- the words of the inverse matrices read
abbrev pub inverse_count : Res (Option Read) → ℕ
inverse_count (done (Some r)) = length r.inverse
inverse_count (done None) = 0
inverse_count (refused n) = 0

-- the kind word, the free words and the stored counts of the skeleton read
abbrev pub skeleton_fields : Res (Option SkeletonRow × Tables) → List ℕ
skeleton_fields (done (Some s, t)) =
    s.kind ∷ s.free.x ∷ s.free.y ∷ s.free.z ∷ s.free.w ∷ s.bucket_count ∷ s.bone_count ∷ s.child_count ∷ []
skeleton_fields (done (None, t)) = []
skeleton_fields (refused n) = []

-- flags, index, tag, next sibling and parent of each bone read
abbrev pub bone_fields : Bone Place → List ℕ
bone_fields b = b.flags ∷ b.index ∷ b.tag ∷ b.next_sibling ∷ b.parent ∷ []

abbrev pub fields_read : Res (Option Read) → List (List ℕ)
fields_read (done (Some r)) = map bone_fields r.bones
fields_read (done None) = []
fields_read (refused n) = []

-- the names of the bones read
abbrev pub names_read : Res (Option (List NamedBone)) → List (Option Bytes)
names_read (done (Some bs)) = map (λ (b : NamedBone). b.name) bs
names_read (done None) = []
names_read (refused n) = []

pub record ReadingControls : Type 0 where
  -- ---- halves and names
  -- 60000000 hex is the first byte of the graphics half
  pub graphics_half : part (halves (1 ∷ []) (2 ∷ [])) 0x6000_0000 1 ≡ done (2 ∷ [])
  -- 60000001 hex is the second
  pub graphics_second : part (halves [] (1 ∷ 2 ∷ [])) 0x6000_0001 1 ≡ done (2 ∷ [])
  -- bone 0's name lies at the section's end: an empty name
  pub name_at_end : check_with ((328, 176) ∷ (329, 3) ∷ []) ≡ done (Some 3)
  -- a name of 300 bytes up to the end of its half
  pub long_name : name_at (halves (replicate 300 65) []) base ≡ done (place_at base 300)
  -- a place in neither half has no bytes
  pub name_outside : name_bytes (control_with []) (place_at 0x7000_0000 2) ≡ []
  -- ---- the fields and their widths
  -- bit 32 of each pointer of the skeleton, and of the first entry's link, is set
  pub pointers_of64_bits : map (λ a. read_with ((a, 1) ∷ [])) (20 ∷ 36 ∷ 44 ∷ 52 ∷ 60 ∷ 68 ∷ 220 ∷ []) ≡ replicate 7 (refused 10)
  -- bit 8 of the child count is set; bit 8 of the bone count: the fourth bone lies where bone 0's name was read
  pub counts_of16_bits : map (λ a. read_with ((a, 1) ∷ [])) (97 ∷ 95 ∷ []) ≡ refused 11 ∷ refused 12 ∷ []
  -- bit 8 of bone 0's flags, index and tag is set
  pub fields_of16_bits :
      fields_read (read_with ((337, 1) ∷ (339, 1) ∷ (341, 1) ∷ [])) ≡
      (263 ∷ 256 ∷ 261 ∷ 2 ∷ 65535 ∷ []) ∷ (0 ∷ 1 ∷ 16 ∷ 65535 ∷ 0 ∷ []) ∷ (7 ∷ 2 ∷ 5 ∷ 2 ∷ 0 ∷ []) ∷ []
  -- the free words are 1 to 4: the kind word, these and the counts of buckets, bones and children
  pub skeleton_read :
      skeleton_fields (read_skeleton (control_with ((28, 1) ∷ (80, 2) ∷ (84, 3) ∷ (88, 4) ∷ [])) program_room base no_rows) ≡
      0x4061_3CA0 ∷ 1 ∷ 2 ∷ 3 ∷ 4 ∷ 11 ∷ 3 ∷ 8 ∷ []
  -- ---- the pool
  -- bone 2's name lies at bone 0's: a name that is read already is given again
  pub shared_name : names_read (bones_back (control_with ((488, 0) ∷ (489, 2) ∷ []))) ≡ Some (72 ∷ 101 ∷ []) ∷ None ∷ Some (72 ∷ 101 ∷ []) ∷ []
  -- bone 0 lies at the first entry: the block is 16 bytes before it
  pub bone_at_entry : read_with ((32, 208) ∷ (33, 0) ∷ []) ≡ refused 12
  -- the names of bones 0 and 2 both lie at bone 0: read as a name, then as a bone, then asked for as a name
  pub later_replaces : read_with ((328, 16) ∷ (329, 1) ∷ (488, 16) ∷ (489, 1) ∷ []) ≡ refused 12
  -- the bones block lies at the first entry
  pub block_at_entry : read_with ((32, 224) ∷ (33, 0) ∷ []) ≡ refused 12
  -- the parents pointer is the inverse pointer: other kinds of lists, so that the bytes are read anew
  pub parents_at_inverse : parents_read (read_with ((56, 16) ∷ (57, 2) ∷ [])) ≡ 52748 ∷ 16071 ∷ 19181 ∷ []
  -- parents and children lie at the bones block, which stays in the pool: each is read anew
  pub both_at_block : children_read (read_with ((56, 0) ∷ (57, 1) ∷ (64, 0) ∷ (65, 1) ∷ [])) ≡ 3 ∷ 0 ∷ 0 ∷ 0 ∷ 0 ∷ 0 ∷ 0 ∷ 0 ∷ []
  -- the parents lie at bone 0's name: a list is read at any other kind
  pub parents_at_name : parents_read (read_with ((56, 0) ∷ (57, 2) ∷ [])) ≡ 25928 ∷ 0 ∷ 0 ∷ []
  -- no local list: no kept words, whatever column 4 of the inverse list has
  pub no_local : kept_read (read_with ((48, 0) ∷ (49, 0) ∷ (51, 0) ∷ (540, 7) ∷ [])) ≡ replicate 3 (words4 0 0 0 0)
  -- ---- what reading does not look at
  -- bone 0's second index
  pub second_index : check_with ((342, 9) ∷ []) ≡ done (Some 3)
  -- the skeleton's kind word
  pub kind_word : check_with ((0, 1) ∷ []) ≡ done (Some 3)
  -- the 1.0 at 44 in bone 0
  pub constant_at44 : check_with ((319, 0) ∷ []) ≡ done (Some 3)
  -- the count in the header of the bones block
  pub block_count : check_with ((256, 9) ∷ []) ≡ done (Some 3)
  -- ---- the bytes that must stand
  -- a bone needs 70 bytes of its 80: of one that has them the parents are missing
  pub bone70 : check_empty_with ((32, 42) ∷ (35, 80) ∷ (94, 1) ∷ []) ≡ refused 22
  pub bone69 : check_empty_with ((32, 43) ∷ (35, 80) ∷ (94, 1) ∷ []) ≡ refused 11
  -- an entry needs all its 16 bytes: one that has them is an entry too many
  pub entry16 : check_empty_with ((16, 104) ∷ (19, 80) ∷ (24, 1) ∷ (104, 96) ∷ (107, 80) ∷ []) ≡ refused 21
  pub entry15 : check_empty_with ((16, 104) ∷ (19, 80) ∷ (24, 1) ∷ (104, 97) ∷ (107, 80) ∷ []) ≡ refused 11
  -- a block of no bones needs none, but a legal address: the section's end is one, and the next is not
  pub empty_block : check_empty_with ((32, 128) ∷ (35, 80) ∷ []) ≡ done (Some 0)
  pub block_past_end : check_empty_with ((32, 129) ∷ (35, 80) ∷ []) ≡ refused 11
  -- the bucket array begins 80 bytes before the section's end: all its 88 bytes must stand
  pub buckets_past_end : read_with ((16, 96) ∷ (17, 3) ∷ []) ≡ refused 11
  -- ---- where 1 is met: behind the bytes of what takes the row
  -- no row for a bone, whose name's address has its bit 32 set
  pub name_before_row : read (control_with ((332, 1) ∷ [])) (room_with 0 11 3 3 15) base ≡ refused 10
  -- no row for a bucket, whose chain begins in neither half
  pub chain_before_bucket : read (control_with ((112, 1) ∷ [])) (room_with 3 0 3 3 15) base ≡ refused 10
  -- no row for an entry, which lies in neither half
  pub entry_before_row : read (control_with ((155, 64) ∷ [])) (room_with 3 11 0 3 15) base ≡ refused 10
  -- no row for the inverse matrices, which lie in neither half
  pub bytes_before_rows : read (control_with ((43, 64) ∷ [])) (room_with 3 11 3 0 15) base ≡ refused 10
  -- no row for a bone, and none for the inverse matrices
  pub no_bone_row : read (control_with []) (room_with 0 11 3 3 15) base ≡ refused 1
  pub no_inverse_row : read (control_with []) (room_with 3 11 3 0 15) base ≡ refused 1
  -- three bones want fifteen pool rows
  pub pool_full : read (control_with []) (room_with 3 11 3 3 14) base ≡ refused 1
  pub pool_holds : inverse_count (read (control_with []) (room_with 3 11 3 3 15) base) ≡ 48
  -- an entry that links to itself takes one row
  pub self_link : inverse_count (read (control_with ((216, 208) ∷ [])) (room_with 3 11 1 3 15) base) ≡ 48
  -- ---- the order of reading
  -- 10 of the buckets goes before 13 of the bones pointer 15
  pub buckets_before13 : read_with ((32, 15) ∷ (33, 0) ∷ (35, 0) ∷ (19, 64) ∷ []) ≡ refused 10
  -- 13 of the bones pointer 15 goes before 10 of the inverse pointer
  pub bones_before_inverse : read_with ((32, 15) ∷ (33, 0) ∷ (35, 0) ∷ (43, 64) ∷ []) ≡ refused 13
  -- 10 of the inverse pointer goes before 11 of the local pointer
  pub inverse_before_local : read_with ((43, 64) ∷ (50, 1) ∷ []) ≡ refused 10
  -- 10 of the local pointer goes before 11 of the parents pointer
  pub local_before_parents : read_with ((51, 64) ∷ (58, 1) ∷ []) ≡ refused 10
  -- bone 0's name lies at the skeleton, which is pooled last
  pub name_at_root : check_with ((328, 0) ∷ (329, 0) ∷ []) ≡ done (Some 3)
  -- bone 0's name lies at the bones block, which is pooled behind its bones
  pub name_at_block : check_with ((328, 0) ∷ (329, 1) ∷ []) ≡ done (Some 3)
  -- the last entry links to the bucket array, which is pooled behind its chains: a chain too long
  pub link_at_buckets : check_with ((248, 112) ∷ (251, 80) ∷ []) ≡ refused 21
  -- the bones pointer is 16: no bones, and the matrices of three
  pub matrices_without_bones : inverse_count (read_with ((33, 0) ∷ (35, 0) ∷ [])) ≡ 48
  -- root 0
  pub root_zero : read (control_with []) program_room 0 ≡ done None
