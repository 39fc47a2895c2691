-- Matrices of sixteen floats, row by row: `Mat4` of `src/math.rs`, but for its inverse.
-- Definitions only.
use Rattle.std.specs.Prelude.{ℕ, cond, List, [], ◌∷◌, map, eqb, get_or, set, Float}
use Rattle.std.specs.Float.{nan}
use Rattle.math.specs.F32.{◌⊕◌, ◌⊖◌, ◌⊗◌, 0·0, 1·0, 2·0}
use Rattle.math.specs.Word.{word_of}
use Rattle.math.specs.Vector.{vec3, vec4}
use Rattle.math.specs.declared.Vec3.{Vec3}
use Rattle.math.specs.declared.Vec4.{Vec4}
use Rattle.math.specs.declared.Mat4.{Mat4}

-- the sixteen floats of a matrix, row by row
abbrev pub mat4 : (a b c d e f g h i j k l m n o p : Float) → Mat4
mat4 a b c d e f g h i j k l m n o p =
    record { 0 = a ∷ b ∷ c ∷ d ∷ e ∷ f ∷ g ∷ h ∷ i ∷ j ∷ k ∷ l ∷ m ∷ n ∷ o ∷ p ∷ [] }

-- `Mat4::from_quat_pos`
unfoldable pub from_quat_pos : Vec4 → Vec3 → Mat4
from_quat_pos q t =
    let xx = q.x ⊗ q.x in
    let yy = q.y ⊗ q.y in
    let zz = q.z ⊗ q.z in
    let xy = q.x ⊗ q.y in
    let zw = q.z ⊗ q.w in
    let zx = q.z ⊗ q.x in
    let yw = q.y ⊗ q.w in
    let yz = q.y ⊗ q.z in
    let xw = q.x ⊗ q.w in
    mat4
    (1·0 ⊖ 2·0 ⊗ (yy ⊕ zz)) (2·0 ⊗ (xy ⊕ zw)) (2·0 ⊗ (zx ⊖ yw)) 0·0
    (2·0 ⊗ (xy ⊖ zw)) (1·0 ⊖ 2·0 ⊗ (zz ⊕ xx)) (2·0 ⊗ (yz ⊕ xw)) 0·0
    (2·0 ⊗ (zx ⊕ yw)) (2·0 ⊗ (yz ⊖ xw)) (1·0 ⊖ 2·0 ⊗ (yy ⊕ xx)) 0·0
    t.x t.y t.z 1·0

-- `Mat4::scale_vector`: the diagonal, words 0, 5, 10
abbrev pub scale_vector : Mat4 → Vec3
scale_vector m = vec3 (get_or m.0 0 nan) (get_or m.0 5 nan) (get_or m.0 10 nan)

-- `Mat4::column4`: words 3, 7, 11, 15
abbrev pub column4 : Mat4 → Vec4
column4 m = vec4 (get_or m.0 3 nan) (get_or m.0 7 nan) (get_or m.0 11 nan) (get_or m.0 15 nan)

-- The two setters, on sixteen floats or sixteen words: they change the words named and no others.
module _ {A : Type 0} where
  abbrev pub set_diagonal : A → A → A → List A → List A
  set_diagonal x y z m = set (set (set m 0 x) 5 y) 10 z

  abbrev pub set_column4 : A → A → A → A → List A → List A
  set_column4 x y z w m = set (set (set (set m 3 x) 7 y) 11 z) 15 w

  -- Word i after each setter, where a was: the words named are the value's, and every other is a. proofs/Set.antt has it that each setter leaves
  -- just these in sixteen words (`set_diagonal-word`, `set_column4-word`).
  abbrev pub diagonal_word : A → A → A → ℕ → A → A
  diagonal_word x y z i a = cond (eqb i 10) z (cond (eqb i 5) y (cond (eqb i 0) x a))

  abbrev pub column4_word : A → A → A → A → ℕ → A → A
  column4_word x y z w i a = cond (eqb i 15) w (cond (eqb i 11) z (cond (eqb i 7) y (cond (eqb i 3) x a)))

-- the sixteen words of a matrix, a NaN as 7FC00000 hex
abbrev pub matrix_words : Mat4 → List ℕ
matrix_words m = map word_of m.0
