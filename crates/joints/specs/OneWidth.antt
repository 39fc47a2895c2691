-- Request A7, "One width for limit ids" (docs/changes/A7.md): what was asked, of the definitions and of the calls. A call is taken by its
-- contract: what it is lent, answers and leaves. `proofs/OneWidth.antt` proves it, with cases that each premise is needed. Definitions only.
use Rattle.std.specs.Prelude.{◌≡◌, ◌↔◌, ◌⊎◌, List, [], ◌∷◌, ◌++◌, ℕ, ◌*◌, ◌^◌, ◌≤◌, ◌<◌, length, get_or, take, drop}
use Rattle.std.specs.Prelude.{Option, None, Some, Result, Ok}
use Rattle.format.specs.Result.{refused, done}
use Rattle.format.specs.Refusal.{outcome}
use Rattle.format.specs.declared.Refusal.{Refusal}
use Rattle.format.specs.Field.{Each, words, word_bytes}
use Rattle.format.specs.Section.{Section}
use Rattle.format.specs.Bone.{words3}
use Rattle.format.specs.Layout.{base}
use Rattle.format.specs.Joints.{RotationLimit, rotation_slots, rotation_limit, rotation_width, rotation_words, rotation_row, rotation_written}
use Rattle.format.specs.Joints.{TranslationLimit, translation_slots, translation_limit, translation_width, translation_words}
use Rattle.format.specs.Joints.{translation_row, translation_written, fresh_rotation_limit, joints_layout, joints_written, Joints, read_joints}
use Rattle.tables.specs.Outcome.{size_of}
use Rattle.joints.specs.Reading.{whether, table_read}
use Rattle.joints.specs.Written.{rotations_of, translations_of, table_written, left_in}

-- ---- what a limit must be

-- its second number has 16 bits, and it has as many others as its record
pub record GoodRotation (l : RotationLimit) : Type 0 where
  pub second : l.second ≤ 65535
  pub others : length l.other ≡ 41

pub record GoodTranslation (l : TranslationLimit) : Type 0 where
  pub others : length l.other ≡ 9

-- one of a list
abbrev pub AnyOf : {A : Type 0} → (A → Type 0) → List A → Type 0
AnyOf P [] = ⊥
AnyOf P (x ∷ xs) = P x ⊎ AnyOf P xs

-- ---- what a section of written limits reads as

-- an empty list does not stand
abbrev pub standing : {A : Type 0} → List A → Option (List A)
standing [] = None
standing (x ∷ l) = Some (x ∷ l)

abbrev pub joints_of : List RotationLimit → List TranslationLimit → Joints
joints_of rs ts =
    record {
      kind = 1080130656;
      rotation_count = length rs;
      translation_count = length ts;
      rotation = standing rs;
      translation = standing ts;
    }

pub record OneWidth : Type 0 where
  -- "Hold both as 32 bits in the rows": a limit with any id, put into a row and taken out, is the limit
  pub rotation_held : (l : RotationLimit) → GoodRotation l → rotation_row (rotation_words l) ≡ l
  pub translation_held : (l : TranslationLimit) → GoodTranslation l → translation_row (translation_words l) ≡ l
  -- "Nothing read is lost, and a record read and written gives the 192 bytes it gave before": for any 48 words, and for any 16
  pub rotation_back : (w : List ℕ) → length w ≡ 48 → Each (λ v. v < 2 ^ 32) w → rotation_slots (rotation_limit w) ≡ w
  pub translation_back : (w : List ℕ) → length w ≡ 16 → translation_slots (translation_limit w) ≡ w
  -- so that rows that were read are equal exactly when their records are
  pub rotation_same :
      (w w' : List ℕ) → length w ≡ 48 → length w' ≡ 48 → Each (λ v. v < 2 ^ 32) w → Each (λ v. v < 2 ^ 32) w' →
      rotation_words (rotation_limit w) ≡ rotation_words (rotation_limit w') → w ≡ w'
  pub translation_same :
      (w w' : List ℕ) → length w ≡ 16 → length w' ≡ 16 →
      translation_words (translation_limit w) ≡ translation_words (translation_limit w') → w ≡ w'
  -- of the calls: what `Rotation::from_record` gives for 192 bytes, `Rotation::write` writes as these bytes; so of translation limits
  pub rotation_calls :
      (b row out out' : List ℕ) (a : Result (Unit {0}) Refusal) → length b ≡ 192 → ((i : ℕ) → get_or b i 0 < 256) → 192 ≤ length out →
      row ≡ rotation_words (rotation_limit (words 4 48 b)) →
      outcome a ≡ whether (rotation_written (length out) (rotation_row row)) →
      out' ≡ left_in (rotation_written (length out) (rotation_row row)) out → (a ≡ Ok tt) × (out' ≡ b ++ drop 192 out)
  pub translation_calls :
      (b row out out' : List ℕ) (a : Result (Unit {0}) Refusal) → length b ≡ 64 → ((i : ℕ) → get_or b i 0 < 256) → 64 ≤ length out →
      row ≡ translation_words (translation_limit (words 4 16 b)) →
      outcome a ≡ whether (translation_written (length out) (translation_row row)) →
      out' ≡ left_in (translation_written (length out) (translation_row row)) out → (a ≡ Ok tt) × (out' ≡ b ++ drop 64 out)
  -- a limit written and read is the limit
  pub rotation_again : (l : RotationLimit) → l.id ≤ 65535 → GoodRotation l → rotation_limit (rotation_slots l) ≡ l
  pub translation_again : (l : TranslationLimit) → GoodTranslation l → translation_limit (translation_slots l) ≡ l
  -- of the calls: what `write` writes of the limits in two tables, `read` reads as these limits, whatever graphics bytes stand beside it
  pub joints_calls :
      (rotation : List ℕ) (r : ℕ) (translation : List ℕ) (t : ℕ) (out out' : List ℕ) (n : ℕ) →
      ((i : ℕ) → get_or rotation i 0 < 2 ^ 32) → ((i : ℕ) → get_or translation i 0 < 2 ^ 32) →
      outcome (Ok n) ≡ size_of (table_written (length out) rotation r translation t) →
      out' ≡ left_in (table_written (length out) rotation r translation t) out →
      (graphics rotation₀ translation₀ : List ℕ) → rotation_width * r ≤ length rotation₀ → translation_width * t ≤ length translation₀ →
      table_read (take n out') graphics base rotation₀ translation₀ ≡
      done (Some (joints_of (rotations_of r rotation) (translations_of t translation)))
  -- "35, writing a rotation limit whose id is above 65,535": exactly then, whatever the buffer and the other list; 6 goes before it
  pub wide_refused :
      (size : ℕ) (rs : List RotationLimit) (ts : List TranslationLimit) → length rs ≤ 65535 → length ts ≤ 65535 →
      (joints_written size rs ts ≡ refused 35) ↔ AnyOf (λ l. 65535 < l.id) rs
  pub six_first :
      (size : ℕ) (rs : List RotationLimit) (ts : List TranslationLimit) → (65535 < length rs) ⊎ (65535 < length ts) →
      joints_written size rs ts ≡ refused 6
  pub wide_record : (size : ℕ) (l : RotationLimit) → (rotation_written size l ≡ refused 35) ↔ (65535 < l.id)
  -- of the calls: an answer of `write` that asks for rows which are there, and one of `Rotation::write`; then the buffer is as it was
  pub wide_calls :
      (rotation : List ℕ) (r : ℕ) (translation : List ℕ) (t : ℕ) (out out' : List ℕ) (a : Result ℕ Refusal) → r ≤ 65535 → t ≤ 65535 →
      rotation_width * r ≤ length rotation → translation_width * t ≤ length translation →
      outcome a ≡ size_of (table_written (length out) rotation r translation t) →
      out' ≡ left_in (table_written (length out) rotation r translation t) out →
      ((outcome a ≡ refused 35) ↔ AnyOf (λ l. 65535 < l.id) (rotations_of r rotation)) × (outcome a ≡ refused 35 → out' ≡ out)
  pub wide_record_calls :
      (row out out' : List ℕ) (a : Result (Unit {0}) Refusal) →
      outcome a ≡ whether (rotation_written (length out) (rotation_row row)) →
      out' ≡ left_in (rotation_written (length out) (rotation_row row)) out →
      ((outcome a ≡ refused 35) ↔ (65535 < get_or row 0 0)) × (outcome a ≡ refused 35 → out' ≡ out)
  -- an id that was read is never refused
  pub id_read : (w : List ℕ) → (rotation_limit w).id ≤ 65535

-- ---- the premises are met, and each is needed

-- a limit made fresh, given an id and bounds, and the same with other numbers
abbrev pub fresh_with : ℕ → ℕ → RotationLimit
fresh_with id second =
    record { id = id; second = second; least = words3 1 2 3; greatest = words3 4 5 6; other = fresh_rotation_limit.other }

abbrev pub bare : RotationLimit
bare = record { id = 7; second = 8; least = words3 1 2 3; greatest = words3 4 5 6; other = [] }

abbrev pub bare_translation : TranslationLimit
bare_translation = record { id = 7; least = words3 1 2 3; greatest = words3 4 5 6; other = [] }

abbrev pub alone : List ℕ → Section
alone s = record { system = s; graphics = [] }

pub record OneWidthCases : Type 0 where
  -- written and read it is equal to itself, as a record and in a section
  pub fresh_good : GoodRotation (fresh_with 31086 9)
  pub fresh_again : rotation_limit (rotation_slots (fresh_with 31086 9)) ≡ fresh_with 31086 9
  pub fresh_read :
      read_joints (alone (joints_layout (fresh_with 31086 9 ∷ []) [])) 1 0 base ≡ done (Some (joints_of (fresh_with 31086 9 ∷ []) []))
  -- an id of 65,536 would be read as 0, and a second number of 65,536 too, from a record and from a row
  pub wide_lost : (rotation_limit (rotation_slots (fresh_with 65536 9))).id ≡ 0
  pub second_lost : (rotation_limit (rotation_slots (fresh_with 31086 65536))).second ≡ 0
  pub second_not_held : (rotation_row (rotation_words (fresh_with 31086 65536))).second ≡ 0
  -- without its others a limit has slots in other places, and a row too
  pub bare_misread : (rotation_limit (rotation_slots bare)).id ≡ 2
  pub bare_not_held : (rotation_row (rotation_words bare)).other ≡ 8 ∷ []
  -- no words are not the 7 that come of them, and a word of 2 ^ 32 at slot 2 is lost
  pub no_words : length (rotation_slots (rotation_limit [])) ≡ 7
  pub great_word : get_or (rotation_slots (rotation_limit (0 ∷ 0 ∷ 2 ^ 32 ∷ []))) 2 1 ≡ 0
  -- so of translation limits
  pub bare_translation_misread : (translation_limit (translation_slots bare_translation)).id ≡ 2
  pub bare_translation_held : (translation_row (translation_words bare_translation ++ 8 ∷ [])).other ≡ 8 ∷ []
  pub no_translation_words : length (translation_slots (translation_limit [])) ≡ 7
  -- a number above 32 bits, or a byte above 8, is not what its bytes are read as
  pub great_not_read : words 4 1 (word_bytes 4 (2 ^ 32 ∷ [])) ≡ 0 ∷ []
  pub great_byte : word_bytes 4 (words 4 1 (256 ∷ 0 ∷ 0 ∷ 0 ∷ [])) ≡ 0 ∷ 1 ∷ 0 ∷ 0 ∷ []
