-- Request A7 (`specs/OneWidth.antt`). In order: the refusals; 35 of the calls; the statement; the cases. Assumes nothing.
use mathlib.Core.Path.{◌≡◌, refl, sym, ap, ◌∙◌}
use mathlib.Core.Bool.{Bool, true, false, ◌&&◌}
use mathlib.Core.Logic.{◌↔◌, ◌⊎◌, inl, inr}
use mathlib.Core.List.{List, [], ◌∷◌, append-nil, flat_map}
use Prim.Native.Nat.{ℕ, ◌*◌, ◌≤◌, ◌<◌}
use native.Mathlib.Omega.{arith}
use borrow.Author.Tests.{le-leb, lt-leb, leb-false}
use lib.Dec.{leb}
use lib.ListN.{length, get_or}
use Rattle.format.specs.Result.{Res, refused, done, ◌>>=◌, need}
use Rattle.format.specs.Field.{value_of, bytes, words, word_bytes, lay}
use Rattle.format.specs.Section.{spot, part, array}
use Rattle.format.specs.Layout.{pointer}
use Rattle.format.specs.Joints.{RotationLimit, rotation_slots, rotation_words, rotation_row, rotation_written}
use Rattle.format.specs.Joints.{TranslationLimit, translation_slots, translation_words, translation_row}
use Rattle.format.specs.Joints.{ids_fit, joints_items, joints_layout, joints_written, limit_rows}
use Rattle.format.specs.Joints.{limits, read_joints}
use Rattle.fields.proofs.WordLists.{length-words}
use Rattle.tables.specs.Outcome.{size_of}
use Rattle.joints.specs.Reading.{whether}
use Rattle.joints.specs.Written.{rotations_of, translations_of, table_written, left_in}
use Rattle.joints.specs.OneWidth.{AnyOf, OneWidth, OneWidthCases}
use Rattle.joints.proofs.Chunks.{length-rotations_of, length-translations_of}
use Rattle.joints.proofs.BothKinds.{rotation_back_lem, translation_back_lem}
use Rattle.joints.proofs.Codecs.{rotation-store-load, translation-store-load, rotation-load-store, translation-load-store}
use Rattle.joints.proofs.Codecs.{rotation_row_back_lem, translation_row_back_lem}
use Rattle.joints.proofs.CallsBack.{done_apart, fit_at, fit-each, record_left, rotation-read-written}
use Rattle.joints.proofs.CallsBack.{translation-read-written, joints_calls_lem}

-- ---- the refusals

ids_some : (rs : List RotationLimit) → ids_fit rs ≡ false → AnyOf (λ l. 65535 < l.id) rs
unfolding ids_fit
ids_some [] e = let z : ◌≡◌ {A = ℕ} 0 1 = cc e in absurd (omega arith)
ids_some (l ∷ rs) e = by (leb l.id 65535) refl e (ids_some rs)
  where
    by :
        (q : Bool) → leb l.id 65535 ≡ q → (q && ids_fit rs) ≡ false → (ids_fit rs ≡ false → AnyOf (λ l. 65535 < l.id) rs) →
        (65535 < l.id) ⊎ AnyOf (λ l. 65535 < l.id) rs
    by true h e more = inr (more e)
    by false h e more = inl (leb-false l.id 65535 h)

some_ids : (rs : List RotationLimit) → AnyOf (λ l. 65535 < l.id) rs → ids_fit rs ≡ false
unfolding ids_fit
some_ids [] s = absurd s
some_ids (l ∷ rs) (inl h) = rw (lt-leb l.id 65535 h) refl
some_ids (l ∷ rs) (inr s) = by (leb l.id 65535) (some_ids rs s)
  where
    by : (q : Bool) {p : Bool} → p ≡ false → (q && p) ≡ false
    by true e = e
    by false e = refl

-- 35 and then 5
from_35 : {A : Type 0} (p q : Bool) (a : A) → (need 35 p >>= λ u. need 5 q >>= λ v. done a) ≡ refused 35 → p ≡ false
from_35 false q a e = refl
from_35 true true a e = absurd (done_apart e)
from_35 true false a e = let z : ◌≡◌ {A = ℕ} 5 35 = cc e in absurd (omega arith)

module _ (size : ℕ) (rs : List RotationLimit) (ts : List TranslationLimit) where
  after_six :
      length rs ≤ 65535 → length ts ≤ 65535 →
      joints_written size rs ts
      ≡ (need 35 (ids_fit rs) >>= λ u. need 5 (leb (length (joints_layout rs ts)) size) >>= λ v. done (joints_layout rs ts))
  unfolding joints_written
  after_six hr ht = rw (le-leb (length rs) 65535 hr, le-leb (length ts) 65535 ht) refl

  wide_refused_lem : length rs ≤ 65535 → length ts ≤ 65535 → (joints_written size rs ts ≡ refused 35) ↔ AnyOf (λ l. 65535 < l.id) rs
  wide_refused_lem hr ht = (
    λ e.
        ids_some rs
        (from_35 (ids_fit rs) (leb (length (joints_layout rs ts)) size) (joints_layout rs ts) (sym (after_six hr ht) ∙ e)),
    λ s. after_six hr ht ∙ rw (some_ids rs s) refl,
  )

  six_first_lem : (65535 < length rs) ⊎ (65535 < length ts) → joints_written size rs ts ≡ refused 6
  unfolding joints_written
  six_first_lem (inl h) = rw (lt-leb (length rs) 65535 h) refl
  six_first_lem (inr h) = by (leb (length rs) 65535)
    where
      by :
          (q : Bool) →
          (need 6 q >>= λ u. need 6 (leb (length ts) 65535) >>= λ v. need 35 (ids_fit rs) >>= λ w.
          need 5 (leb (length (joints_layout rs ts)) size) >>= λ x. done (joints_layout rs ts)) ≡ refused 6
      by true = rw (lt-leb (length ts) 65535 h) refl
      by false = refl

wide_record_lem : (size : ℕ) (l : RotationLimit) → (rotation_written size l ≡ refused 35) ↔ (65535 < l.id)
unfolding rotation_written
wide_record_lem size l = (
  λ e. leb-false l.id 65535 (from_35 (leb l.id 65535) (leb 192 size) _ e),
  λ h. rw (lt-leb l.id 65535 h) refl,
)

-- ---- 35 of the calls

size-refused : (g : Res (List ℕ)) {n : ℕ} → (size_of g ≡ refused n) ↔ (g ≡ refused n)
size-refused (refused m) = (λ e. ap refused (cc e), λ e. ap refused (cc e))
size-refused (done b) = (λ e. absurd (done_apart e), λ e. absurd (done_apart e))

whether-refused : (g : Res (List ℕ)) {n : ℕ} → (whether g ≡ refused n) ↔ (g ≡ refused n)
whether-refused (refused m) = (λ e. ap refused (cc e), λ e. ap refused (cc e))
whether-refused (done b) = (λ e. absurd (done_apart e), λ e. absurd (done_apart e))

-- a refusal leaves the buffer
refused-left : (g : Res (List ℕ)) (out : List ℕ) {n : ℕ} → g ≡ refused n → left_in g out ≡ out
refused-left g out e = ap (λ (h : Res (List ℕ)). left_in h out) e

module _ (rotation : List ℕ) (r : ℕ) (translation : List ℕ) (t : ℕ) (out : List ℕ) (hr : r ≤ 65535) (ht : t ≤ 65535)
    (rr : 49 * r ≤ length rotation) (rt : 16 * t ≤ length translation) where
  abbrev whole : Res (List ℕ)
  whole = table_written (length out) rotation r translation t

  asked : whole ≡ joints_written (length out) (rotations_of r rotation) (translations_of t translation)
  unfolding table_written
  asked =
      rw (
        le-leb r 65535 hr,
        le-leb t 65535 ht,
        le-leb (49 * r) (length rotation) rr,
        le-leb (16 * t) (length translation) rt,
      ) refl

  wide_calls_lem :
      {out' : List ℕ} {a : Res ℕ} → a ≡ size_of whole → out' ≡ left_in whole out →
      ((a ≡ refused 35) ↔ AnyOf (λ l. 65535 < l.id) (rotations_of r rotation)) × (a ≡ refused 35 → out' ≡ out)
  wide_calls_lem e o =
      let rs : List RotationLimit = rotations_of r rotation in
      let ts : List TranslationLimit = translations_of t translation in
      let wide = wide_refused_lem (length out) rs ts (rw (length-rotations_of r rotation) hr) (rw (length-translations_of t translation) ht) in (
        (
          λ h. wide.0 (sym asked ∙ (size-refused whole).0 (sym e ∙ h)),
          λ s. e ∙ (size-refused whole).1 (asked ∙ wide.1 s),
        ),
        λ h. o ∙ refused-left whole out ((size-refused whole).0 (sym e ∙ h)),
      )

wide_record_calls_lem :
    (row out : List ℕ) {out' : List ℕ} {a : Res (Unit {0})} →
    a ≡ whether (rotation_written (length out) (rotation_row row)) →
    out' ≡ left_in (rotation_written (length out) (rotation_row row)) out →
    ((a ≡ refused 35) ↔ (65535 < get_or row 0 0)) × (a ≡ refused 35 → out' ≡ out)
wide_record_calls_lem row out e o =
    let g : Res (List ℕ) = rotation_written (length out) (rotation_row row) in
    let wide = wide_record_lem (length out) (rotation_row row) in (
      (λ h. wide.0 ((whether-refused g).0 (sym e ∙ h)), λ s. e ∙ (whether-refused g).1 (wide.1 s)),
      λ h. o ∙ refused-left g out ((whether-refused g).0 (sym e ∙ h)),
    )

-- ---- the statement

pub one_width : OneWidth
one_width =
    record {
      rotation_held = λ l g. ap rotation_row (sym (append-nil (rotation_words l))) ∙ rotation_row_back_lem l [] g;
      translation_held = λ l g. ap translation_row (sym (append-nil (translation_words l))) ∙ translation_row_back_lem l [] g;
      rotation_back = λ w e f. rotation-store-load w e (fit_at w 2 (fit-each w f));
      translation_back = translation-store-load;
      rotation_same =
          λ w w' e e' f f' h.
          let same = sym (rotation_back_lem w e) ∙ ap rotation_row h ∙ rotation_back_lem w' e' in
          sym (rotation-store-load w e (fit_at w 2 (fit-each w f)))
          ∙ ap rotation_slots same
          ∙ rotation-store-load w' e' (fit_at w' 2 (fit-each w' f'));
      translation_same =
          λ w w' e e' h.
          let same = sym (translation_back_lem w e) ∙ ap translation_row h ∙ translation_back_lem w' e' in
          sym (translation-store-load w e) ∙ ap translation_slots same ∙ translation-store-load w' e';
      rotation_calls =
          λ b row out out' a e f h er.
          rw (er, rotation_back_lem (words 4 48 b) (length-words 4 48 b))
          (λ em eo. record_left b out 192 e (rotation-read-written b out e f h) em eo);
      translation_calls =
          λ b row out out' a e f h er.
          rw (er, translation_back_lem (words 4 16 b) (length-words 4 16 b))
          (λ em eo. record_left b out 64 e (translation-read-written b out e f h) em eo);
      rotation_again = rotation-load-store;
      translation_again = translation-load-store;
      joints_calls = λ rotation r translation t out out' n fr ft e o. joints_calls_lem rotation r translation t out n fr ft e o;
      wide_refused = wide_refused_lem;
      six_first = six_first_lem;
      wide_record = wide_record_lem;
      wide_calls =
          λ rotation r translation t out out' a hr ht rr rt e o. wide_calls_lem rotation r translation t out hr ht rr rt e o;
      wide_record_calls = λ row out out' a e o. wide_record_calls_lem row out e o;
      id_read = λ w. omega arith;
    }

-- ---- the cases

pub one_width_cases : OneWidthCases
unfolding value_of bytes words word_bytes lay spot part array pointer joints_items joints_layout limit_rows limits read_joints flat_map
one_width_cases =
    record {
      fresh_good = record { second = omega arith; others = refl };
      fresh_again = refl;
      fresh_read = refl;
      wide_lost = refl;
      second_lost = refl;
      second_not_held = refl;
      bare_misread = refl;
      bare_not_held = refl;
      no_words = refl;
      great_word = refl;
      bare_translation_misread = refl;
      bare_translation_held = refl;
      no_translation_words = refl;
      great_not_read = refl;
      great_byte = refl;
    }
