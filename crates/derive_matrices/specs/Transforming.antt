-- `build_transformations`: its sizes, its answer and what it leaves in its tables. Definitions only.
use Rattle.std.specs.Prelude.{ℕ, ◌*◌, ◌≤◌, ◌≡◌, Bool, ◌&&◌, length, map, take, drop, leb}
use mathlib.Core.List.{List, ◌++◌, flat_map}
use Rattle.math.specs.Matrix.{set_column4, matrix_words}
use Rattle.math.specs.Inverse.{inverse}
use Rattle.format.specs.Result.{Res}
use Rattle.format.specs.Section.{Place}
use Rattle.format.specs.Bone.{Bone}
use Rattle.format.specs.Matrices as format
use Rattle.format.specs.Rows.{bone_width, bone_of}
use Rattle.tables.specs.Outcome.{room_for, leaves}

-- whether tables of so many words hold n bones and their matrices
unfoldable pub matrices_hold : ℕ → ℕ → ℕ → ℕ → Bool
matrices_hold n bones inverse local = leb (bone_width * n) bones && leb (16 * n) inverse && leb (16 * n) local

-- what the call gives, by the sizes of its tables
abbrev pub matrices_result : ℕ → ℕ → ℕ → ℕ → Res (Unit {0})
matrices_result n bones inverse local = room_for n (matrices_hold n bones inverse local)

-- what the two tables hold at the end, each from i₀ to i and from l₀ to l
pub record MatrixRows (c : Res (Unit {0})) (bones : List (Bone Place)) (i₀ i l₀ l : List ℕ) : Type 0 where
  pub inverse : i ≡ leaves c (format.inverses bones) (length i₀)
  pub local : l ≡ leaves c (format.locals bones) (length l₀)

-- ---- inside the call

-- the tables have room for n matrices
pub record MatrixRoom (n : ℕ) (i l : List ℕ) : Type 0 where
  pub inverse : 16 * n ≤ length i
  pub local : 16 * n ≤ length l

-- the matrices of n bones stand in front of what the tables held behind
pub record MatricesFirst (n : ℕ) (bones : List (Bone Place)) (i₀ i l₀ l : List ℕ) : Type 0 where
  pub inverse : i ≡ format.inverses bones ++ drop (16 * n) i₀
  pub local : l ≡ format.locals bones ++ drop (16 * n) l₀

-- the inverse matrix of a bone whose walk ends there
unfoldable pub inverse_from : format.Pose → List ℕ
inverse_from s = set_column4 0 0 0 0 (matrix_words (inverse (format.affine s)))

-- what f gives of the first p bones stands in d, and the rest is that of d₀
pub record RowsPlaced (f : Bone Place → List ℕ) (rows : List (List ℕ)) (d₀ d : List ℕ) (p : ℕ) : Type 0 where
  pub same : length d ≡ length d₀
  pub is : d ≡ flat_map f (map bone_of (take p rows)) ++ drop (16 * p) d₀

-- where that of the first p stands in d, that of the first q stands in d'
pub record Continues (f : Bone Place → List ℕ) (rows : List (List ℕ)) (p q : ℕ) (d d' : List ℕ) : Type 0 where
  pub same : length d' ≡ length d
  pub placed : (d₀ : List ℕ) → RowsPlaced f rows d₀ d p → RowsPlaced f rows d₀ d' q
