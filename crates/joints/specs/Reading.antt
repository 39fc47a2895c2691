-- What reading joints answers, and what it leaves in the two tables (docs/FORMAT.md, "Joints and names"). In order: the record; one
-- list; both lists; the answer. Definitions only.
use Rattle.std.specs.Prelude.{ℕ, ◌/◌, length}
use Rattle.std.specs.Prelude.{Option, None, Some}
use mathlib.Core.List.{List, [], flat_map}
use Rattle.format.specs.Result.{Res, refused, done, ◌>>=◌}
use Rattle.format.specs.Field.{field}
use Rattle.format.specs.Section.{Section}
use Rattle.format.specs.Joints as Joints
use Rattle.format.specs.Joints.{rotation_width, rotation_limit, rotation_words, translation_width, translation_limit, translation_words}
use Rattle.format.specs.Joints.{limits, mapped, read_joints}
use Rattle.blocks.specs.Places.{section}
use Rattle.joints.specs.Written.{rotations_of, translations_of}
use Rattle.joints.specs.declared.read.Record.{Record}
use Rattle.joints.specs.declared.read.Joints as declared

-- ---- the record

-- the fields of the bytes of a record
abbrev pub record_of : List ℕ → Record
record_of b =
    record {
      kind = field 4 b 0;
      rotation = field 8 b 16;
      translation = field 8 b 24;
      rotation_count = field 2 b 48;
      translation_count = field 2 b 50;
    }

-- ---- one list

-- whether it is read, or the refusal's number
abbrev pub whether : {A : Type 0} → Res A → Res (Unit {0})
whether (refused n) = refused n
whether (done a) = done tt

-- how many limits it has, or none where it is absent
abbrev pub counted : {A : Type 0} → Res (Option (List A)) → Res (Option ℕ)
counted (refused n) = refused n
counted (done None) = done None
counted (done (Some l)) = done (Some (length l))

-- the words of the rows, where f is the row of a record
abbrev pub table_of : (List ℕ → List ℕ) → Res (Option (List (List ℕ))) → List ℕ
table_of f (refused n) = []
table_of f (done None) = []
table_of f (done (Some l)) = flat_map f l

-- ---- both lists

-- `read_joints` behind the record
unfoldable pub lists_read : Section → ℕ → ℕ → Record → Res (Option Joints.Joints)
lists_read s rroom troom h = do
  rs ← limits s rroom 48 h.rotation h.rotation_count
  ts ← limits s troom 16 h.translation h.translation_count
  done
      (Some
      (record {
        kind = h.kind;
        rotation_count = h.rotation_count;
        translation_count = h.translation_count;
        rotation = mapped rotation_limit rs;
        translation = mapped translation_limit ts;
      }))

-- ---- the answer

-- `read_joints` of a section lent as its two halves, into two tables
abbrev pub table_read : List ℕ → List ℕ → ℕ → List ℕ → List ℕ → Res (Option Joints.Joints)
table_read sys gfx root rotation translation =
    read_joints (section sys gfx) (length rotation / rotation_width) (length translation / translation_width) root

-- the limits of a list that has so many, where f gives those in the first rows of its table
abbrev pub limits_in : {A : Type 0} → (ℕ → List A) → Option ℕ → Option (List A)
limits_in f None = None
limits_in f (Some n) = Some (f n)

-- the joints of an answer whose limits stand in two tables
abbrev pub joints_in : List ℕ → List ℕ → declared.Joints → Joints.Joints
joints_in rotation translation j =
    record {
      kind = j.kind;
      rotation_count = j.rotation_count;
      translation_count = j.translation_count;
      rotation = limits_in (λ n. rotations_of n rotation) j.rotation;
      translation = limits_in (λ n. translations_of n translation) j.translation;
    }

-- the same of an answer that may have none
abbrev pub joints_if : List ℕ → List ℕ → Option declared.Joints → Option Joints.Joints
joints_if rotation translation None = None
joints_if rotation translation (Some j) = Some (joints_in rotation translation j)

-- the words of the rows of a list of limits
abbrev pub words_of : {A : Type 0} → (A → List ℕ) → Option (List A) → List ℕ
words_of f None = []
words_of f (Some l) = flat_map f l

-- what stands in front of the zeros of each table
abbrev pub rotation_table : Res (Option Joints.Joints) → List ℕ
rotation_table (refused n) = []
rotation_table (done None) = []
rotation_table (done (Some j)) = words_of rotation_words j.rotation

abbrev pub translation_table : Res (Option Joints.Joints) → List ℕ
translation_table (refused n) = []
translation_table (done None) = []
translation_table (done (Some j)) = words_of translation_words j.translation
