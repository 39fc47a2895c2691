-- What is written reads back, of the calls (docs/FORMAT.md, "Joints and names"). In order: a result is no refusal; numbers of 32 bits; the
-- limits of a table; one record; a section. Assumes nothing.
use mathlib.Core.Path.{◌≡◌, refl, sym, ap, ◌∙◌}
use mathlib.Core.Bool.{Bool, true, false, ◌&&◌}
use mathlib.Core.Logic.{◌⊎◌, inl, inr}
use Rattle.std.specs.Prelude.{Some, Result, Ok, Err}
use Rattle.format.specs.Refusal.{outcome}
use Rattle.format.specs.declared.Refusal.{Refusal}
use mathlib.Core.List.{List, [], ◌∷◌, ◌++◌}
use Prim.Native.Nat.{ℕ, zero, suc, ◌+◌, ◌*◌, ◌/◌, ◌^◌, ◌≤◌, ◌<◌}
use native.Mathlib.Nat.{mul_comm, le-div_iff_mul-le}
use native.Mathlib.Omega.{arith}
use borrow.Author.Tests.{le-leb, leb-true}
use lib.Dec.{leb}
use lib.ListN.{length, get_or, take, drop, length-drop, take-append-drop}
use lib.Seq.{get_or-drop, length-take-le, take_at}
use Rattle.format.specs.Result.{Res, refused, done}
use Rattle.format.specs.Field.{Each, words, word_bytes}
use Rattle.format.specs.Bone.{Words3}
use Rattle.format.specs.Rows.{lower}
use Rattle.format.specs.Layout.{base}
use Rattle.format.specs.Joints.{rotation_slots, rotation_limit, rotation_row, rotation_written}
use Rattle.format.specs.Joints.{translation_slots, translation_limit, translation_row}
use Rattle.format.specs.Joints.{translation_written, three_words, three_at, placed, ids_fit, joints_layout, limit_rows}
use Rattle.format.proofs.Fields.{value_of_lt, bytes-value_of}
use Rattle.fields.proofs.Laws.{le-or-lt}
use Rattle.fields.proofs.WordLists.{Fit, length-words}
use Rattle.tables.specs.Outcome.{size_of}
use Rattle.joints.specs.Reading.{whether, table_read}
use Rattle.joints.specs.Written.{rotations_of, translations_of, table_written, left_in}
use Rattle.joints.specs.OneWidth.{GoodRotation, joints_of}
use Rattle.joints.proofs.BothKinds.{length_part, rotation_size, translation_size}
use Rattle.joints.proofs.Chunks.{length-rotations_of, length-translations_of}
use Rattle.joints.proofs.Laying.{length-layout, many_limits, short_rotations, short_translations, wide_id, short_buffer, all_written}
use Rattle.joints.proofs.Codecs.{rotation-store-load, translation-store-load, rotation-load-store, translation-load-store}
use Rattle.joints.proofs.Back.{fit_append, EachBack, joints_back}

-- ---- a result is no refusal

pub done_apart : {A : Type 0} {a : A} {n : ℕ} → ◌≡◌ {A = Res A} (done a) (refused n) → ⊥
done_apart e = let z : ◌≡◌ {A = ℕ} 0 1 = cc e in absurd (omega arith)

-- ---- numbers of 32 bits

fit-take : (n : ℕ) (w : List ℕ) → Fit 4 w → Fit 4 (take n w)
fit-take zero w f = tt
fit-take (suc n) [] f = tt
fit-take (suc n) (x ∷ w) f = (f.0, fit-take n w f.1)

fit-drop : (n : ℕ) (w : List ℕ) → Fit 4 w → Fit 4 (drop n w)
fit-drop zero w f = f
fit-drop (suc n) [] f = tt
fit-drop (suc n) (x ∷ w) f = fit-drop n w f.1

pub fit_at : (w : List ℕ) (i : ℕ) → Fit 4 w → get_or w i 0 < 2 ^ 32
fit_at [] i f = omega arith
fit_at (x ∷ w) zero f = f.0
fit_at (x ∷ w) (suc i) f = fit_at w i f.1

pub fit-each : (w : List ℕ) → Each (λ v. v < 2 ^ 32) w → Fit 4 w
fit-each [] f = tt
fit-each (x ∷ w) f = (f.0, fit-each w f.1)

fit_all : (w : List ℕ) → ((i : ℕ) → get_or w i 0 < 2 ^ 32) → Fit 4 w
fit_all [] f = tt
fit_all (x ∷ w) f = (f 0, fit_all w (λ i. f (suc i)))

-- ---- the limits of a table

fit-placed :
    (i j v : ℕ) (a b : Words3) (o : List ℕ) → v < 2 ^ 32 → Fit 4 (three_words a) → Fit 4 (three_words b) → Fit 4 o →
    Fit 4 (placed i j v a b o)
fit-placed i j v a b o h fa fb f =
    let x₂ : List ℕ = take 2 o ++ (v ∷ take i (drop 2 o)) in
    let x₃ : List ℕ = x₂ ++ three_words a in
    let x₄ : List ℕ = x₃ ++ take j (drop (2 + i) o) in
    let x₅ : List ℕ = x₄ ++ three_words b in
    let f₂ = fit_append (take 2 o) (v ∷ take i (drop 2 o)) (fit-take 2 o f) (h, fit-take i (drop 2 o) (fit-drop 2 o f)) in
    let f₃ = fit_append x₂ (three_words a) f₂ fa in
    let f₄ = fit_append x₃ (take j (drop (2 + i) o)) f₃ (fit-take j (drop (2 + i) o) (fit-drop (2 + i) o f)) in
    let f₅ = fit_append x₄ (three_words b) f₄ fb in
    fit_append x₅ (drop (2 + i + j) o) f₅ (fit-drop (2 + i + j) o f)

fit-three : (w : List ℕ) (k : ℕ) → Fit 4 w → Fit 4 (three_words (three_at w k))
fit-three w k f = (fit_at w k f, (fit_at w (k + 1) f, (fit_at w (k + 2) f, tt)))

rotation-good : (w : List ℕ) → 49 ≤ length w → GoodRotation (rotation_row w)
rotation-good w h = record { second = omega arith; others = length_part 41 7 w (omega arith) }

rotation-fits : (w : List ℕ) → Fit 4 w → Fit 4 (rotation_slots (rotation_row w))
rotation-fits w f =
    fit-placed 20 0 _ _ _ (take 41 (drop 7 w)) (omega arith) (fit-three w 1 f) (fit-three w 4 f)
    (fit-take 41 (drop 7 w) (fit-drop 7 w f))

translation-fits : (w : List ℕ) → Fit 4 w → Fit 4 (translation_slots (translation_row w))
translation-fits w f =
    fit-placed 5 1 _ _ _ (take 9 (drop 7 w)) (fit_at w 0 f) (fit-three w 1 f) (fit-three w 4 f)
    (fit-take 9 (drop 7 w) (fit-drop 7 w f))

and-true : (a b : Bool) → (a && b) ≡ true → (a ≡ true) × (b ≡ true)
and-true true b e = (refl, e)
and-true false b e = let z : ◌≡◌ {A = ℕ} 0 1 = cc e in absurd (omega arith)

rotations-back :
    (n : ℕ) (t : List ℕ) → 49 * n ≤ length t → Fit 4 t → ids_fit (rotations_of n t) ≡ true →
    EachBack rotation_slots rotation_limit 48 (rotations_of n t)
unfolding limit_rows ids_fit
rotations-back zero t h f e = tt
rotations-back (suc n) t h f e =
    let w : List ℕ = take 49 t in
    let size : length w ≡ 49 = length-take-le 49 t (omega arith) in
    let ids = and-true (leb (get_or w 0 0) 65535) (ids_fit (rotations_of n (drop 49 t))) e in (
      rotation_size w (omega arith),
      (
        rotation-fits w (fit-take 49 t f),
        (
          rotation-load-store (rotation_row w) (leb-true (get_or w 0 0) 65535 ids.0) (rotation-good w (omega arith)),
          rotations-back n (drop 49 t) (simp length-drop (omega arith)) (fit-drop 49 t f) ids.1,
        ),
      ),
    )

translations-back :
    (n : ℕ) (t : List ℕ) → 16 * n ≤ length t → Fit 4 t → EachBack translation_slots translation_limit 16 (translations_of n t)
unfolding limit_rows
translations-back zero t h f = tt
translations-back (suc n) t h f =
    let w : List ℕ = take 16 t in
    let size : length w ≡ 16 = length-take-le 16 t (omega arith) in (
      translation_size w (omega arith),
      (
        translation-fits w (fit-take 16 t f),
        (
          translation-load-store (translation_row w) (record { others = length_part 9 7 w (omega arith) }),
          translations-back n (drop 16 t) (simp length-drop (omega arith)) (fit-drop 16 t f),
        ),
      ),
    )

-- ---- one record

-- the words of bytes fit, and are the bytes again
words-bytes :
    (m : ℕ) (b : List ℕ) → length b ≡ 4 * m → ((i : ℕ) → get_or b i 0 < 256) → (word_bytes 4 (words 4 m b) ≡ b) × Fit 4 (words 4 m b)
unfolding words word_bytes
words-bytes zero [] e f = (refl, tt)
words-bytes zero (x ∷ b) e f = absurd (omega arith)
words-bytes (suc m) b e f =
    let t = bytes-value_of 4 b (omega arith) f in
    let g : (i : ℕ) → get_or (drop 4 b) i 0 < 256 = λ i. rw (get_or-drop 4 b i 0) (f (4 + i)) in
    let rest = words-bytes m (drop 4 b) (simp length-drop (omega arith)) g in
    (rw (t, rest.0) (take-append-drop 4 b), (value_of_lt 4 b f, rest.1))

record_done : (a : Result (Unit {0}) Refusal) → outcome a ≡ done tt → a ≡ Ok tt
record_done (Ok u) e = refl
record_done (Err r) e = absurd (done_apart (sym e))

-- a record written as the bytes b
pub record_left :
    (b out : List ℕ) (n : ℕ) {out' : List ℕ} {a : Result (Unit {0}) Refusal} {g : Res (List ℕ)} →
    length b ≡ n →
    g ≡ done b →
    outcome a ≡ whether g →
    out' ≡ left_in g out →
    (a ≡ Ok tt) × (out' ≡ b ++ drop n out)
record_left b out n {out'} {a} e h m o = (record_done a (m ∙ ap whether h), o ∙ ap (λ (g : Res (List ℕ)). left_in g out) h ∙ rw e refl)

pub rotation-read-written :
    (b out : List ℕ) → length b ≡ 192 → ((i : ℕ) → get_or b i 0 < 256) → 192 ≤ length out →
    rotation_written (length out) (rotation_limit (words 4 48 b)) ≡ done b
unfolding rotation_written
rotation-read-written b out e f h =
    let w : List ℕ = words 4 48 b in
    let wb = words-bytes 48 b e f in
    let i : lower (get_or w 2 0) ≤ 65535 = omega arith in
    let s = rotation-store-load w (length-words 4 48 b) (fit_at w 2 wb.1) in
    rw (le-leb (lower (get_or w 2 0)) 65535 i, le-leb 192 (length out) h) (ap done (ap (word_bytes 4) s ∙ wb.0))

pub translation-read-written :
    (b out : List ℕ) → length b ≡ 64 → ((i : ℕ) → get_or b i 0 < 256) → 64 ≤ length out →
    translation_written (length out) (translation_limit (words 4 16 b)) ≡ done b
unfolding translation_written
translation-read-written b out e f h =
    let s = translation-store-load (words 4 16 b) (length-words 4 16 b) in
    rw (le-leb 64 (length out) h) (ap done (ap (word_bytes 4) s ∙ (words-bytes 16 b e f).0))

-- ---- a section

-- a table of m words has n rows of w
room-rows : (w n m : ℕ) → 0 < w → w * n ≤ m → n ≤ m / w
room-rows w n m p h = (le-div_iff_mul-le p).1 (rw mul_comm h)

-- what a writing that is done has passed
module _ (rotation : List ℕ) (r : ℕ) (translation : List ℕ) (t : ℕ) (out : List ℕ) where
  abbrev wrote : Res (List ℕ)
  wrote = table_written (length out) rotation r translation t

  abbrev laid_out : List ℕ
  laid_out = joints_layout (rotations_of r rotation) (translations_of t translation)

  pub record Passed (n : ℕ) : Type 0 where
    pub few_r : r ≤ 65535
    pub few-t : t ≤ 65535
    pub rows_r : 49 * r ≤ length rotation
    pub rows-t : 16 * t ≤ length translation
    pub ids : ids_fit (rotations_of r rotation) ≡ true
    pub size : n ≡ length laid_out
    pub left : left_in wrote out ≡ laid_out ++ drop n out

  passed :
      (n : ℕ) → done n ≡ size_of wrote → (r ≤ 65535) ⊎ (65535 < r) → (t ≤ 65535) ⊎ (65535 < t) →
      (49 * r ≤ length rotation) ⊎ (length rotation < 49 * r) → (16 * t ≤ length translation) ⊎ (length translation < 16 * t) →
      (q : Bool) → ids_fit (rotations_of r rotation) ≡ q → (64 + 192 * r + 64 * t ≤ length out) ⊎ (length out < 64 + 192 * r + 64 * t) →
      Passed n
  passed n e (inr h) b c d q i s = absurd (done_apart (e ∙ sym (many_limits rotation r translation t out (inl h)).0))
  passed n e (inl a) (inr h) c d q i s = absurd (done_apart (e ∙ sym (many_limits rotation r translation t out (inr (a, h))).0))
  passed n e (inl a) (inl b) (inr h) d q i s =
      absurd (done_apart (e ∙ sym (short_rotations rotation r translation t out a b h).0))
  passed n e (inl a) (inl b) (inl c) (inr h) q i s =
      absurd (done_apart (e ∙ sym (short_translations rotation r translation t out a b c h).0))
  passed n e (inl a) (inl b) (inl c) (inl d) false i s =
      absurd (done_apart (e ∙ sym (wide_id rotation r translation t out a b c d i).0))
  passed n e (inl a) (inl b) (inl c) (inl d) true i (inr h) =
      absurd (done_apart (e ∙ sym (short_buffer rotation r translation t out a b c d i h).0))
  passed n e (inl a) (inl b) (inl c) (inl d) true i (inl h) =
      let w = all_written rotation r translation t out a b c d i h in
      let z = length-layout rotation r translation t c d in
      let m : n ≡ 64 + 192 * r + 64 * t = cc (e ∙ sym w.0) in
      record {
        few_r = a;
        few-t = b;
        rows_r = c;
        rows-t = d;
        ids = i;
        size = m ∙ sym z;
        left = sym w.1 ∙ rw m refl;
      }

  pub passed-all : (n : ℕ) → done n ≡ size_of wrote → Passed n
  passed-all n e =
      passed n e (le-or-lt r 65535) (le-or-lt t 65535) (le-or-lt (49 * r) (length rotation)) (le-or-lt (16 * t) (length translation))
      (ids_fit (rotations_of r rotation)) refl (le-or-lt (64 + 192 * r + 64 * t) (length out))

  pub joints_calls_lem :
      (n : ℕ) {out' : List ℕ} → ((i : ℕ) → get_or rotation i 0 < 2 ^ 32) → ((i : ℕ) → get_or translation i 0 < 2 ^ 32) →
      done n ≡ size_of wrote → out' ≡ left_in wrote out → (gfx rt₀ st₀ : List ℕ) → 49 * r ≤ length rt₀ → 16 * t ≤ length st₀ →
      table_read (take n out') gfx base rt₀ st₀ ≡ done (Some (joints_of (rotations_of r rotation) (translations_of t translation)))
  joints_calls_lem n {out'} fr ft e o gfx rt₀ st₀ hr ht =
      let p = passed-all n e in
      let nr = length-rotations_of r rotation in
      let nt = length-translations_of t translation in
      let sys : take n out' ≡ laid_out = ap (take n) (o ∙ p.left) ∙ take_at laid_out (drop n out) n (sym p.size) in
      ap (λ (s : List ℕ). table_read s gfx base rt₀ st₀) sys
      ∙ joints_back (rotations_of r rotation) (translations_of t translation) gfx (length rt₀ / 49) (length st₀ / 16)
      (rw nr p.few_r) (rw nt p.few-t) (rw nr (room-rows 49 r (length rt₀) (omega arith) hr))
      (rw nt (room-rows 16 t (length st₀) (omega arith) ht))
      (rotations-back r rotation p.rows_r (fit_all rotation fr) p.ids)
      (translations-back t translation p.rows-t (fit_all translation ft))
