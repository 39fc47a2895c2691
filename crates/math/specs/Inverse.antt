-- `Mat4::inverse` of `src/math.rs`, operation for operation: sixteen +0 where the determinant compares equal to 0.
-- Definitions only.
use Rattle.std.specs.Prelude.{ℕ, Bool, true, false, get_or, Float}
use Rattle.std.specs.Float.{nan}
use Rattle.math.specs.F32.{◌⊕◌, ◌⊖◌, ◌⊗◌, ◌⊘◌, negated, compares_equal, 0·0, 1·0}
use Rattle.math.specs.Matrix.{mat4}
use Rattle.math.specs.declared.Mat4.{Mat4}

-- one matrix or the other, by a test
unfoldable pub pick_mat : Bool → Mat4 → Mat4 → Mat4
pick_mat true a b = a
pick_mat false a b = b

unfoldable pub inverse : Mat4 → Mat4
inverse self =
    let m : ℕ → Float = λ i. get_or self.0 i nan in
    let m11 = m 0 in let m12 = m 1 in let m13 = m 2 in let m14 = m 3 in
    let m21 = m 4 in let m22 = m 5 in let m23 = m 6 in let m24 = m 7 in
    let m31 = m 8 in let m32 = m 9 in let m33 = m 10 in let m34 = m 11 in
    let m41 = m 12 in let m42 = m 13 in let m43 = m 14 in let m44 = m 15 in
    let b0 = m31 ⊗ m42 ⊖ m32 ⊗ m41 in
    let b1 = m31 ⊗ m43 ⊖ m33 ⊗ m41 in
    let b2 = m34 ⊗ m41 ⊖ m31 ⊗ m44 in
    let b3 = m32 ⊗ m43 ⊖ m33 ⊗ m42 in
    let b4 = m34 ⊗ m42 ⊖ m32 ⊗ m44 in
    let b5 = m33 ⊗ m44 ⊖ m34 ⊗ m43 in
    let d11 = m22 ⊗ b5 ⊕ m23 ⊗ b4 ⊕ m24 ⊗ b3 in
    let d12 = m21 ⊗ b5 ⊕ m23 ⊗ b2 ⊕ m24 ⊗ b1 in
    let d13 = m21 ⊗ negated b4 ⊕ m22 ⊗ b2 ⊕ m24 ⊗ b0 in
    let d14 = m21 ⊗ b3 ⊕ m22 ⊗ negated b1 ⊕ m23 ⊗ b0 in
    let det = m11 ⊗ d11 ⊖ m12 ⊗ d12 ⊕ m13 ⊗ d13 ⊖ m14 ⊗ d14 in
    pick_mat (compares_equal det 0·0) (mat4 0·0 0·0 0·0 0·0 0·0 0·0 0·0 0·0 0·0 0·0 0·0 0·0 0·0 0·0 0·0 0·0)
    (let det = 1·0 ⊘ det in
    let a0 = m11 ⊗ m22 ⊖ m12 ⊗ m21 in
    let a1 = m11 ⊗ m23 ⊖ m13 ⊗ m21 in
    let a2 = m14 ⊗ m21 ⊖ m11 ⊗ m24 in
    let a3 = m12 ⊗ m23 ⊖ m13 ⊗ m22 in
    let a4 = m14 ⊗ m22 ⊖ m12 ⊗ m24 in
    let a5 = m13 ⊗ m24 ⊖ m14 ⊗ m23 in
    let d21 = m12 ⊗ b5 ⊕ m13 ⊗ b4 ⊕ m14 ⊗ b3 in
    let d22 = m11 ⊗ b5 ⊕ m13 ⊗ b2 ⊕ m14 ⊗ b1 in
    let d23 = m11 ⊗ negated b4 ⊕ m12 ⊗ b2 ⊕ m14 ⊗ b0 in
    let d24 = m11 ⊗ b3 ⊕ m12 ⊗ negated b1 ⊕ m13 ⊗ b0 in
    let d31 = m42 ⊗ a5 ⊕ m43 ⊗ a4 ⊕ m44 ⊗ a3 in
    let d32 = m41 ⊗ a5 ⊕ m43 ⊗ a2 ⊕ m44 ⊗ a1 in
    let d33 = m41 ⊗ negated a4 ⊕ m42 ⊗ a2 ⊕ m44 ⊗ a0 in
    let d34 = m41 ⊗ a3 ⊕ m42 ⊗ negated a1 ⊕ m43 ⊗ a0 in
    let d41 = m32 ⊗ a5 ⊕ m33 ⊗ a4 ⊕ m34 ⊗ a3 in
    let d42 = m31 ⊗ a5 ⊕ m33 ⊗ a2 ⊕ m34 ⊗ a1 in
    let d43 = m31 ⊗ negated a4 ⊕ m32 ⊗ a2 ⊕ m34 ⊗ a0 in
    let d44 = m31 ⊗ a3 ⊕ m32 ⊗ negated a1 ⊕ m33 ⊗ a0 in
    mat4
    (d11 ⊗ det) (negated d21 ⊗ det) (d31 ⊗ det) (negated d41 ⊗ det)
    (negated d12 ⊗ det) (d22 ⊗ det) (negated d32 ⊗ det) (d42 ⊗ det)
    (d13 ⊗ det) (negated d23 ⊗ det) (d33 ⊗ det) (negated d43 ⊗ det)
    (negated d14 ⊗ det) (d24 ⊗ det) (negated d34 ⊗ det) (d44 ⊗ det))
