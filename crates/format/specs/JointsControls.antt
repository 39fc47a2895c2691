-- Controls of the joints (see `Controls`): what is written and read back, the rows wanted, the bytes that must stand, the order of the
-- refusals, one record, the fresh limit. Definitions only.
use Rattle.std.specs.Prelude.{◌≡◌, [], ◌∷◌, ◌++◌, map, replicate, drop, ℕ}
use Rattle.std.specs.Prelude.{None, Some}
use Rattle.format.specs.Result.{refused, done}
use Rattle.format.specs.Field.{field, word_bytes}
use Rattle.format.specs.Section.{Section}
use Rattle.format.specs.Bone.{words3}
use Rattle.format.specs.Chains.{up_from}
use Rattle.format.specs.Layout.{base}
use Rattle.format.specs.Joints.{RotationLimit, TranslationLimit, joints_layout, joints_written, read_joints}
use Rattle.format.specs.Joints.{rotation_written, translation_written, fresh_slots, fresh_rotation_limit}
use Rattle.format.specs.Controls.{edited}
use Rattle.format.specs.ReadingControls.{halves}

-- limits whose words are all different, and the first with another id
abbrev pub rotation_of : ℕ → RotationLimit
rotation_of id = record { id = id; second = 6; least = words3 101 102 103; greatest = words3 104 105 106; other = up_from 200 41 }

abbrev pub rotation1 : RotationLimit
rotation1 = rotation_of 5

abbrev pub translation_of : ℕ → TranslationLimit
translation_of id = record { id = id; least = words3 111 112 113; greatest = words3 114 115 116; other = up_from 300 9 }

abbrev pub translation1 : TranslationLimit
translation1 = translation_of 65543

-- limits with no others, so that many are counted in a short time
abbrev pub rotation0 : RotationLimit
rotation0 = record { id = 5; second = 6; least = words3 101 102 103; greatest = words3 104 105 106; other = [] }

abbrev pub translation0 : TranslationLimit
translation0 = record { id = 65543; least = words3 111 112 113; greatest = words3 114 115 116; other = [] }

-- joints of two rotation limits and one translation limit
abbrev pub joints21 : Section
joints21 = halves (joints_layout (rotation1 ∷ rotation1 ∷ []) (translation1 ∷ [])) []

pub record JointsControls : Type 0 where
  -- each of the words that are written, the joints, the rotation limit and the translation limit
  pub laid : joints_layout (rotation1 ∷ []) (translation1 ∷ []) ≡
      word_bytes 4 (0x4061_7C60 ∷ 1 ∷ 0 ∷ 0 ∷ 0x5000_0040 ∷ 0 ∷ 0x5000_0100 ∷ 0 ∷
      0 ∷ 0 ∷ 0 ∷ 0 ∷ 0x1_0001 ∷ 0x1_0000 ∷ 0 ∷ 0 ∷
      200 ∷ 201 ∷ 0x6_0005 ∷ 202 ∷ 203 ∷ 204 ∷ 205 ∷ 206 ∷
      207 ∷ 208 ∷ 209 ∷ 210 ∷ 211 ∷ 212 ∷ 213 ∷ 214 ∷
      215 ∷ 216 ∷ 217 ∷ 218 ∷ 219 ∷ 220 ∷ 221 ∷ 101 ∷
      102 ∷ 103 ∷ 104 ∷ 105 ∷ 106 ∷ 222 ∷ 223 ∷ 224 ∷
      225 ∷ 226 ∷ 227 ∷ 228 ∷ 229 ∷ 230 ∷ 231 ∷ 232 ∷
      233 ∷ 234 ∷ 235 ∷ 236 ∷ 237 ∷ 238 ∷ 239 ∷ 240 ∷
      300 ∷ 301 ∷ 0x1_0007 ∷ 302 ∷ 303 ∷ 304 ∷ 305 ∷ 306 ∷
      111 ∷ 112 ∷ 113 ∷ 307 ∷ 114 ∷ 115 ∷ 116 ∷ 308 ∷ [])
  -- an empty list has the pointer 0
  pub empty_lists : map (field 8 (joints_layout [] [])) (16 ∷ 24 ∷ []) ≡ 0 ∷ 0 ∷ []
  -- two rotation limits and one translation limit read back as they were
  pub limits_back :
      read_joints joints21 2 1 base ≡
      done
      (Some
      (record {
        kind = 0x4061_7C60;
        rotation_count = 2;
        translation_count = 1;
        rotation = Some (rotation1 ∷ rotation1 ∷ []);
        translation = Some (translation1 ∷ []);
      }))
  -- a row short for the rotation limits, and for the translation limit
  pub no_rotation_row : read_joints joints21 1 1 base ≡ refused 1
  pub no_translation_row : read_joints joints21 2 0 base ≡ refused 1
  -- root 0
  pub joints_at_zero : read_joints joints21 2 1 0 ≡ done None
  -- the last field read ends at 52
  pub fifty_two : read_joints (halves (replicate 52 0) []) 0 0 base ≡
      done (Some (record { kind = 0; rotation_count = 0; translation_count = 0; rotation = None; translation = None }))
  pub fifty_one : read_joints (halves (replicate 51 0) []) 0 0 base ≡ refused 11
  -- one rotation limit at the address 1, and no row for it: 10 goes before 1
  pub limit_bytes_first : read_joints (halves (replicate 16 0 ++ 1 ∷ replicate 31 0 ++ 1 ∷ replicate 3 0) []) 0 0 base ≡ refused 10
  -- one rotation limit at the address 1, and one translation limit at the section's end: 10 of the first goes before 11 of the second
  pub rotations_first :
      read_joints (halves (edited ((16, 1) ∷ (24, 52) ∷ (27, 80) ∷ (48, 1) ∷ (50, 1) ∷ []) (replicate 52 0)) []) 1 1 base ≡ refused 10
  -- 65,536 limits and no buffer: 6 goes before 5
  pub six_before_five : joints_written 0 (replicate 65536 rotation1) [] ≡ refused 6
  pub six_of_translations : joints_written 0 [] (replicate 65536 translation1) ≡ refused 6
  -- 65,535 of each kind are not too many: 35 of the first id
  pub most_limits : joints_written 0 (rotation_of 65536 ∷ replicate 65534 rotation0) (replicate 65535 translation0) ≡ refused 35
  -- one limit of each kind wants 320 bytes
  pub joints_fit : joints_written 320 (rotation1 ∷ []) (translation1 ∷ []) ≡ done (joints_layout (rotation1 ∷ []) (translation1 ∷ []))
  pub joints_short : joints_written 319 (rotation1 ∷ []) (translation1 ∷ []) ≡ refused 5
  -- 65,535 is the greatest id of a rotation limit that is written, beside the second number
  pub greatest_id : joints_written 256 (rotation_of 65535 ∷ []) [] ≡ done (joints_layout (rotation_of 65535 ∷ []) [])
  pub greatest_id_laid : field 4 (joints_layout (rotation_of 65535 ∷ []) []) 72 ≡ 0x6_FFFF
  -- 65,536 is too great, also in the second of two
  pub wide_id : joints_written 256 (rotation_of 65536 ∷ []) [] ≡ refused 35
  pub wide_id_second : joints_written 448 (rotation1 ∷ rotation_of 65536 ∷ []) [] ≡ refused 35
  -- of a translation limit every id is written
  pub translation_id : joints_written 128 [] (translation_of 0xFFFF_FFFF ∷ []) ≡ done (joints_layout [] (translation_of 0xFFFF_FFFF ∷ []))
  pub translation_id_laid : field 4 (joints_layout [] (translation_of 0xFFFF_FFFF ∷ [])) 72 ≡ 0xFFFF_FFFF
  -- 6 of either list goes before 35, and 35 before 5
  pub six_before_wide : joints_written 0 (replicate 65536 (rotation_of 65536)) [] ≡ refused 6
  pub six_of_others_before_wide : joints_written 0 (rotation_of 65536 ∷ []) (replicate 65536 translation0) ≡ refused 6
  pub wide_before_five : joints_written 0 (rotation_of 65536 ∷ []) [] ≡ refused 35
  -- one record: 192 bytes, the same as in a section, and one short; 35 goes before 5
  pub rotation_one : rotation_written 192 rotation1 ≡ done (drop 64 (joints_layout (rotation1 ∷ []) []))
  pub rotation_short : rotation_written 191 rotation1 ≡ refused 5
  pub rotation_greatest : rotation_written 191 (rotation_of 65535) ≡ refused 5
  pub rotation_wide : rotation_written 191 (rotation_of 65536) ≡ refused 35
  -- and 64 bytes
  pub translation_one : translation_written 64 translation1 ≡ done (drop 64 (joints_layout [] (translation1 ∷ [])))
  pub translation_short : translation_written 63 translation1 ≡ refused 5
  -- the slots of the fresh rotation limit
  pub fresh : fresh_slots ≡
      0 ∷ 0 ∷ 0 ∷ 1 ∷ 3 ∷ 0 ∷ 0 ∷ 0 ∷
      0 ∷ 0 ∷ 0 ∷ 0x3F80_0000 ∷ 0 ∷ 0 ∷ 0 ∷ 0 ∷
      0x3F80_0000 ∷ 0 ∷ 0 ∷ 0 ∷ 0xC049_0FDB ∷ 0x4049_0FDB ∷ 0x3F80_0000 ∷ 0 ∷
      0 ∷ 0 ∷ 0 ∷ 0 ∷ 0 ∷ 0x4049_0FDB ∷ 0xC049_0FDB ∷ 0x4049_0FDB ∷
      0x4049_0FDB ∷ 0xC049_0FDB ∷ 0x4049_0FDB ∷ 0x4049_0FDB ∷ 0xC049_0FDB ∷ 0x4049_0FDB ∷ 0x4049_0FDB ∷ 0xC049_0FDB ∷
      0x4049_0FDB ∷ 0x4049_0FDB ∷ 0xC049_0FDB ∷ 0x4049_0FDB ∷ 0x4049_0FDB ∷ 0xC049_0FDB ∷ 0x4049_0FDB ∷ 256 ∷ []
  -- and the limit: its named fields are 0
  pub fresh_limit :
      fresh_rotation_limit ≡
      record {
        id = 0;
        second = 0;
        least = words3 0 0 0;
        greatest = words3 0 0 0;
        other =
            0 ∷ 0 ∷ 1 ∷ 3 ∷ 0 ∷ 0 ∷ 0 ∷ 0 ∷
            0 ∷ 0 ∷ 0x3F80_0000 ∷ 0 ∷ 0 ∷ 0 ∷ 0 ∷ 0x3F80_0000 ∷
            0 ∷ 0 ∷ 0 ∷ 0xC049_0FDB ∷ 0x4049_0FDB ∷ 0x3F80_0000 ∷ 0x4049_0FDB ∷ 0xC049_0FDB ∷
            0x4049_0FDB ∷ 0x4049_0FDB ∷ 0xC049_0FDB ∷ 0x4049_0FDB ∷ 0x4049_0FDB ∷ 0xC049_0FDB ∷ 0x4049_0FDB ∷ 0x4049_0FDB ∷
            0xC049_0FDB ∷ 0x4049_0FDB ∷ 0x4049_0FDB ∷ 0xC049_0FDB ∷ 0x4049_0FDB ∷ 0x4049_0FDB ∷ 0xC049_0FDB ∷ 0x4049_0FDB ∷
            256 ∷ [];
      }
