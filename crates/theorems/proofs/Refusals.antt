-- Demand 1 of the calls: the contracts make each answer the format's, and `format` has what those refuse. Assumes nothing.
use mathlib.Core.Path.{◌≡◌, refl, sym, subst}
use Prim.Native.Nat.{ℕ, ◌*◌}
use mathlib.Core.Bool.{Bool}
use mathlib.Core.List.{List}
use Rattle.std.specs.Prelude.{Option}
use lib.ListN.{length}
use lib.Dec.{leb}
use Rattle.format.specs.Result.{Res, refused, done}
use Rattle.format.specs.Section.{Section}
use Rattle.format.specs.Bone.{Words4}
use Rattle.format.specs.Rows.{bone_width, bones_of}
use Rattle.format.specs.Tables.{SkeletonRow, no_rows}
use Rattle.format.specs.Deriving.{DeriveRoom}
use Rattle.format.specs.Read.{Step}
use Rattle.format.specs.CallRefusals.{deriving_refusals, writing_refusals, reading_refusals, joints_written_refusals, RefusesOnly}
use Rattle.format.specs.Joints.{rotation_width, rotation_row, rotation_written, translation_width, translation_row, translation_written}
use Rattle.format.proofs.CallRefusals.{call_refusals}
use Rattle.format.proofs.Refusing.{only-done, only-refused, only_then, only-need}
use Rattle.tables.specs.Outcome.{derived, size_of}
use Rattle.read.specs.Reads.{answer_of}
use Rattle.write.specs.Outcome.{outcome}
use Rattle.joints.specs.Reading.{whether}
use Rattle.joints.specs.Written.{rotations_of, translations_of, table_written}
use Rattle.theorems.specs.Refusals.{Refusals}

-- an answer that is the format's refuses what the format's does
answers_only : {A : Type 0} {ns : List ℕ} {a w : Res A} → a ≡ w → RefusesOnly ns w → RefusesOnly ns a
answers_only {ns = ns} e h = subst (RefusesOnly ns) (sym e) h

-- ---- outcomes that the calls' contracts have beyond the format's

pub deriving_only : {A : Type 0} (n : ℕ) (hold : Bool) (a : A) → RefusesOnly deriving_refusals (derived n hold a)
unfolding derived
deriving_only n hold a = only_then (only-need 2 (leb n 65535) tt) λ u. only_then (only-need 1 hold tt) λ v. only-done a

pub size-only : {ns : List ℕ} (w : Res (List ℕ)) → RefusesOnly ns w → RefusesOnly ns (size_of w)
size-only (done b) h = only-done (length b)
size-only (refused c) h = only-refused c (h.only c refl)

pub outcome-only :
    (lent : Section) (room : DeriveRoom) (size n : ℕ) (bones : List ℕ) (free : Words4) →
    RefusesOnly writing_refusals (outcome lent room size n bones free)
unfolding outcome
outcome-only lent room size n bones free =
    only_then (only-need 2 (leb n 65535) tt) λ u.
    only_then (only-need 1 (leb (bone_width * n) (length bones)) tt) λ v.
    call_refusals.writing lent room size (bones_of n bones) free

pub answer-only : (g : Step (Option SkeletonRow)) → RefusesOnly reading_refusals g → RefusesOnly reading_refusals (answer_of g)
answer-only (refused c) h = only-refused c (h.only c refl)
answer-only (done p) h = only-done p.0

pub joints_written-only :
    (size : ℕ) (rotation : List ℕ) (r : ℕ) (translation : List ℕ) (t : ℕ) →
    RefusesOnly joints_written_refusals (table_written size rotation r translation t)
unfolding table_written
joints_written-only size rotation r translation t =
    only_then (only-need 6 (leb r 65535) tt) λ u.
    only_then (only-need 6 (leb t 65535) tt) λ v.
    only_then (only-need 1 (leb (rotation_width * r) (length rotation)) tt) λ x.
    only_then (only-need 1 (leb (translation_width * t) (length translation)) tt) λ y.
    call_refusals.joints_written size (rotations_of r rotation) (translations_of t translation)

whether-only : {A : Type 0} {ns : List ℕ} (g : Res A) → RefusesOnly ns g → RefusesOnly ns (whether g)
whether-only (refused c) h = only-refused c (h.only c refl)
whether-only (done a) h = only-done tt

-- ---- the statement

pub refusals : Refusals
refusals =
    record {
      bone_tags = λ n bones buckets entries r e. answers_only e (deriving_only n _ _);
      indices = λ n bones parents children pending r e. answers_only e (deriving_only n _ _);
      transformations = λ n bones inverse local r e. answers_only e (deriving_only n _ _);
      writing =
          λ lent room n bones free out out' r w.
          answers_only w.answer (size-only _ (outcome-only lent room (length out) n bones free));
      reading = λ sec root t₀ t r w. answers_only w.answer (answer-only _ (call_refusals.reading sec _ root no_rows));
      searching = λ sec room root key r e. answers_only e (call_refusals.search sec room root key);
      checking = λ sec root t₀ t x₀ x r c. answers_only c.answer (call_refusals.check sec _ _ root);
      looking_up = λ sec root tag r e. answers_only e (call_refusals.lookup sec root tag);
      joints_reading =
          λ sys gfx root rotation₀ translation₀ rotation translation r e.
          answers_only e (call_refusals.joints_read _ _ _ root);
      joints_writing =
          λ size rotation r translation t w e. answers_only e (size-only _ (joints_written-only size rotation r translation t));
      rotation_writing =
          λ size row w e. answers_only e (whether-only (rotation_written size (rotation_row row)) (call_refusals.rotation_written size _));
      translation_writing =
          λ size row w e.
          answers_only e (whether-only (translation_written size (translation_row row)) (call_refusals.translation_written size _));
    }
