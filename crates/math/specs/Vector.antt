-- Vectors of three and four floats, and quaternions x, y, z, w: `Vec3` and `Vec4` of `src/math.rs`, operation for operation.
-- Definitions only.
use Rattle.std.specs.Prelude.{Float}
use Rattle.math.specs.F32.{◌⊕◌, ◌⊖◌, ◌⊗◌, 1·0, 2·0}
use Rattle.math.specs.declared.Vec3.{Vec3}
use Rattle.math.specs.declared.Vec4.{Vec4}

abbrev pub vec3 : Float → Float → Float → Vec3
vec3 x y z = record { x = x; y = y; z = z }

abbrev pub vec4 : Float → Float → Float → Float → Vec4
vec4 x y z w = record { x = x; y = y; z = z; w = w }

-- `impl Add for Vec3`
unfoldable pub add_vec3 : Vec3 → Vec3 → Vec3
add_vec3 l r = vec3 (l.x ⊕ r.x) (l.y ⊕ r.y) (l.z ⊕ r.z)

-- `Vec4::quat_mul`
unfoldable pub quat_mul : Vec4 → Vec4 → Vec4
quat_mul l r =
    vec4
    (l.x ⊗ r.w ⊕ r.x ⊗ l.w ⊕ (l.y ⊗ r.z ⊖ l.z ⊗ r.y))
    (l.y ⊗ r.w ⊕ r.y ⊗ l.w ⊕ (l.z ⊗ r.x ⊖ l.x ⊗ r.z))
    (l.z ⊗ r.w ⊕ r.z ⊗ l.w ⊕ (l.x ⊗ r.y ⊖ l.y ⊗ r.x))
    (l.w ⊗ r.w ⊖ (l.x ⊗ r.x ⊕ l.y ⊗ r.y ⊕ l.z ⊗ r.z))

-- `Vec4::quat_rotate`
unfoldable pub quat_rotate : Vec4 → Vec3 → Vec3
quat_rotate q v =
    let xx = q.x ⊗ 2·0 ⊗ q.x in
    let yy = q.y ⊗ 2·0 ⊗ q.y in
    let zz = q.z ⊗ 2·0 ⊗ q.z in
    let wx = q.w ⊗ 2·0 ⊗ q.x in
    let wy = q.w ⊗ 2·0 ⊗ q.y in
    let wz = q.w ⊗ 2·0 ⊗ q.z in
    let xy = q.x ⊗ 2·0 ⊗ q.y in
    let xz = q.x ⊗ 2·0 ⊗ q.z in
    let yz = q.y ⊗ 2·0 ⊗ q.z in
    vec3
    (v.x ⊗ ((1·0 ⊖ yy) ⊖ zz) ⊕ v.y ⊗ (xy ⊖ wz) ⊕ v.z ⊗ (xz ⊕ wy))
    (v.x ⊗ (xy ⊕ wz) ⊕ v.y ⊗ ((1·0 ⊖ xx) ⊖ zz) ⊕ v.z ⊗ (yz ⊖ wx))
    (v.x ⊗ (xz ⊖ wy) ⊕ v.y ⊗ (yz ⊕ wx) ⊕ v.z ⊗ ((1·0 ⊖ xx) ⊖ yy))
