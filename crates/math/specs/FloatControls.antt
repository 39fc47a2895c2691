-- Controls: the four formulas on ordinary numbers, chosen so that any other sign, operation or component shows in a word, and most other
-- orders of rounding. The answers come from the published `src/math.rs`, by `compare/controls`. Definitions only.
use Rattle.std.specs.Prelude.{◌≡◌, ℕ, List, [], ◌∷◌, map}
use Rattle.math.specs.Word.{float_of, word_of}
use Rattle.math.specs.Vector.{vec3, vec4, quat_mul, quat_rotate}
use Rattle.math.specs.Matrix.{from_quat_pos, matrix_words}
use Rattle.math.specs.Inverse.{inverse}
use Rattle.math.specs.declared.Vec3.{Vec3}
use Rattle.math.specs.declared.Vec4.{Vec4}
use Rattle.math.specs.declared.Mat4.{Mat4}

-- floats from their words, and back

abbrev pub vector : (x y z : ℕ) → Vec3
vector x y z = vec3 (float_of x) (float_of y) (float_of z)

abbrev pub quat : (x y z w : ℕ) → Vec4
quat x y z w = vec4 (float_of x) (float_of y) (float_of z) (float_of w)

abbrev pub matrix_of : List ℕ → Mat4
matrix_of words = record { 0 = map float_of words }

abbrev pub vec3_words : Vec3 → List ℕ
vec3_words v = word_of v.x ∷ word_of v.y ∷ word_of v.z ∷ []

abbrev pub vec4_words : Vec4 → List ℕ
vec4_words v = word_of v.x ∷ word_of v.y ∷ word_of v.z ∷ word_of v.w ∷ []

-- (-2.62, 0.43, -0.67, 2.65)
abbrev pub left : Vec4
left = quat 0xC027_AE14 0x3EDC_28F6 0xBF2B_851F 0x4029_999A

-- (-2.4, 1.81, -2.28, -2.3)
abbrev pub right : Vec4
right = quat 0xC019_999A 0x3FE7_AE14 0xC011_EB85 0xC013_3333

-- (1.69, -0.63, 0.72)
abbrev pub point : Vec3
point = vector 0x3FD8_51EC 0xBF21_47AE 0x3F38_51EC

-- 0.74, 0.76, 0.85, 0.96; -2.62, -0.83, 2.73, 2.65; 2.4, 2.17, -2.47, -2.49; 2.01, 2.02, 0.41, 0.49
abbrev pub matrix : Mat4
matrix =
    matrix_of
    (0x3F3D_70A4 ∷ 0x3F42_8F5C ∷ 0x3F59_999A ∷ 0x3F75_C28F ∷ 0xC027_AE14 ∷ 0xBF54_7AE1 ∷ 0x402E_B852 ∷ 0x4029_999A ∷
    0x4019_999A ∷ 0x400A_E148 ∷ 0xC01E_147B ∷ 0xC01F_5C29 ∷ 0x4000_A3D7 ∷ 0x4001_47AE ∷ 0x3ED1_EB85 ∷ 0x3EFA_E148 ∷ [])

pub record FloatControls : Type 0 where
  -- `Vec4::quat_mul`
  pub multiplied : vec4_words (quat_mul left right) ≡ 0xBDD0_48A8 ∷ 0xBF0E_DF94 ∷ 0xC103_6113 ∷ 0xC16B_05BC ∷ []
  -- `Vec4::quat_rotate`
  pub rotated : vec3_words (quat_rotate left point) ≡ 0x4039_85E8 ∷ 0x4105_BD4C ∷ 0x3FE1_8728 ∷ []
  -- `Mat4::from_quat_pos`
  pub placed : matrix_words (from_quat_pos left point) ≡
      0xBE89_02E0 ∷ 0xC0B9_BC02 ∷ 0x3F9D_AB9E ∷ 0 ∷ 0x3FA6_1E50 ∷ 0xC15A_068D ∷ 0xC167_652C ∷ 0 ∷
      0x40B9_460A ∷ 0x4154_F4F0 ∷ 0xC151_93DC ∷ 0 ∷ 0x3FD8_51EC ∷ 0xBF21_47AE ∷ 0x3F38_51EC ∷ 0x3F80_0000 ∷ []
  -- `Mat4::inverse`
  pub inverted : matrix_words (inverse matrix) ≡
      0xBFF8_CD1A ∷ 0xBF31_EC63 ∷ 0xBF94_1258 ∷ 0x3FD8_1F46 ∷ 0x3FAA_1F16 ∷ 0x3F2F_B101 ∷ 0x3F89_1403 ∷ 0xBF5F_9A99 ∷
      0xC1A5_6809 ∷ 0xBF1A_4D32 ∷ 0xC0BC_5D70 ∷ 0x415D_AD89 ∷ 0x419E_5B21 ∷ 0x3F06_AE82 ∷ 0x40A8_2F9F ∷ 0xC14E_09A9 ∷ []
