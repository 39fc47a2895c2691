-- The written section by its parts (docs/FORMAT.md, "Joints and names"). In order: the record as words; rows of a table; ids; the section; the
-- ways out of `write`. Assumes nothing.
use mathlib.Core.Path.{◌≡◌, refl, sym, ap, ◌∙◌}
use mathlib.Core.Bool.{Bool, true, false, ◌&&◌}
use mathlib.Core.List.{List, [], ◌∷◌, ◌++◌, map, flat_map, append_assoc}
use Prim.Native.Nat.{ℕ, zero, suc, ◌+◌, ◌*◌, ◌/◌, ◌%◌, ◌^◌, ◌≤◌, ◌<◌}
use native.Mathlib.Nat.{zero-add, mul_comm, mul-zero, mul-suc, mod-eq_of_lt, div-eq_of_lt, add-mul-mod_self_left, add-mul-div_left}
use native.Mathlib.Nat.{le-div_iff_mul-le, div-lt_iff_lt-mul}
use native.Mathlib.Omega.{arith}
use mathlib.Core.Logic.{◌⊎◌, inl, inr}
use borrow.Author.Tests.{le-leb, lt-leb, leb-true, leb-false}
use lib.Dec.{leb}
use lib.ListN.{length, get_or, take, drop, length-append, length-drop, length-map}
use lib.Seq.{length-take-le}
use Rattle.std.specs.List.{list_all}
use Rattle.std.specs.Simd.{first_chunks}
use Rattle.format.specs.Result.{Res, refused, done, ◌>>=◌, need}
use Rattle.format.specs.Field.{bytes, word_bytes, lay}
use Rattle.format.specs.Layout.{pointer}
use Rattle.format.specs.Joints.{rotation_slots, rotation_row, translation_slots, translation_row}
use Rattle.format.specs.Joints.{ids_fit, joints_items, joints_layout, joints_written, limit_rows}
use Rattle.format.proofs.Fields.{length-bytes, bytes-add, bytes-mod, pow_pos}
use Rattle.fields.proofs.WordLists.{length-word_bytes}
use Rattle.tables.specs.Outcome.{size_of}
use Rattle.joints.specs.Written.{rotations_of, translations_of, rows_got, table_written, left_in}
use Rattle.joints.proofs.BothKinds.{rotation_size, translation_size}
use Rattle.joints.proofs.Chunks.{chunks-rows, length-rotations_of, length-translations_of, flat_map-map}

-- ---- the record as words

-- two fields of k bytes in one of k + k, the first in the lower half
bytes_pair : (k a b : ℕ) → a < 256 ^ k → bytes (k + k) (a + 256 ^ k * b) ≡ bytes k a ++ bytes k b
bytes_pair k a b h =
    let m : (a + 256 ^ k * b) % 256 ^ k ≡ a = add-mul-mod_self_left a (256 ^ k) b ∙ mod-eq_of_lt h in
    let d : (a + 256 ^ k * b) / 256 ^ k ≡ b = add-mul-div_left a b (pow_pos k) ∙ simp (div-eq_of_lt h, zero-add) in
    bytes-add k k (a + 256 ^ k * b)
    ∙ simp d (ap (λ (x : List ℕ). x ++ bytes k b) (sym (bytes-mod k (a + 256 ^ k * b)) ∙ ap (bytes k) m))

-- a field of 8 bytes whose upper half is 0
bytes_low : (v : ℕ) → v < 256 ^ 4 → bytes 8 v ≡ bytes 4 v ++ bytes 4 0
bytes_low v h = let e : v + 256 ^ 4 * 0 ≡ v = omega arith in rw e at (bytes_pair 4 v 0 h)

pub pointer_lt : (m at n : ℕ) → at < m → pointer at n < m
unfolding pointer
pointer_lt m at zero h = omega arith
pointer_lt m at (suc n) h = h

pub header-bytes :
    (r t : ℕ) {p q : ℕ} →
    r ≤ 65535 →
    t ≤ 65535 →
    p ≡ pointer 0x5000_0040 r →
    q ≡ pointer (0x5000_0040 + 192 * r) t →
    word_bytes 4 (1080130656 ∷ 1 ∷ 0 ∷ 0 ∷ p ∷ 0 ∷ q ∷ 0 ∷ 0 ∷ 0 ∷ 0 ∷ 0 ∷ (r + 65536 * t) ∷ 65536 ∷ 0 ∷ 0 ∷ []) ≡ lay
    (joints_items r t)
unfolding word_bytes lay joints_items
header-bytes r t {p} {q} hr ht ep eq =
    let hp : pointer 0x5000_0040 r < 256 ^ 4 = pointer_lt (256 ^ 4) 0x5000_0040 r (omega arith) in
    let hq : pointer (0x5000_0040 + 192 * r) t < 256 ^ 4 = pointer_lt (256 ^ 4) (0x5000_0040 + 192 * r) t (omega arith) in
    simp (
      ep,
      eq,
      bytes_low 0 (omega arith),
      bytes_low _ hp,
      bytes_low _ hq,
      bytes_pair 2 r t (omega arith),
      bytes_pair 2 0 1
          (omega arith),
      append_assoc,
    )

pub length-header : (r t : ℕ) → length (lay (joints_items r t)) ≡ 64
unfolding lay joints_items
length-header r t = simp (length-append, length-bytes)

-- ---- rows of a table

module _ (w n : ℕ) (t : List ℕ) (some : 0 < w) where
  -- the code's test of the room in a table, by rows of w
  pub rows_short : length t / w < n → refused 1 ≡ rows_got w n t
  unfolding rows_got
  rows_short h =
      let s : length t < n * w = (div-lt_iff_lt-mul some).0 h in
      let l : leb (w * n) (length t) ≡ false = lt-leb (w * n) (length t) (rw (mul_comm w n) s) in
      rw l refl

  pub rows_first : n ≤ length t / w → done (take n (first_chunks w (length t / w) t)) ≡ rows_got w n t
  unfolding rows_got
  rows_first h =
      let s : n * w ≤ length t = (le-div_iff_mul-le some).0 h in
      let l : leb (w * n) (length t) ≡ true = le-leb (w * n) (length t) (rw (mul_comm w n) s) in
      rw l (ap done (chunks-rows w n (length t / w) t h))

-- ---- ids

pub ids_all : (rows : List (List ℕ)) → list_all (λ w. leb (get_or w 0 0) 65535) rows ≡ ids_fit (map rotation_row rows)
unfolding ids_fit
ids_all [] = refl
ids_all (w ∷ rows) = ap (λ (q : Bool). leb (get_or w 0 0) 65535 && q) (ids_all rows)

-- ---- the section

pub section_laid :
    (r t : List (List ℕ)) {h a b : List ℕ} →
    h ≡ lay (joints_items (length r) (length t)) →
    a ≡ word_bytes 4 (flat_map (λ w. rotation_slots (rotation_row w)) r) →
    b ≡ word_bytes 4 (flat_map (λ w. translation_slots (translation_row w)) t) →
    h ++ (a ++ b) ≡ joints_layout (map rotation_row r) (map translation_row t)
unfolding joints_layout
section_laid r t eh ea eb =
    let fr = flat_map-map rotation_slots rotation_row (λ w. rotation_slots (rotation_row w)) (λ w. refl) r in
    let ft = flat_map-map translation_slots translation_row (λ w. translation_slots (translation_row w)) (λ w. refl) t in
    simp (eh, ea, eb, fr, ft, length-map, append_assoc)

made_size :
    (f : List ℕ → List ℕ) (k m n : ℕ) (w : List ℕ) →
    ((x : List ℕ) → length x ≡ k → length (f x) ≡ m) →
    k * n ≤ length w →
    length (flat_map f (limit_rows k n w)) ≡ m * n
unfolding flat_map limit_rows
made_size f k m zero w each h = sym (mul-zero m)
made_size f k m (suc n) w each h =
    let e : k * suc n ≡ k + k * n = simp mul-suc (omega arith) in
    let one : length (f (take k w)) ≡ m = each (take k w) (length-take-le k w (omega arith)) in
    let rest = made_size f k m n (drop k w) each (simp length-drop (omega arith)) in
    simp (length-append, one, rest, mul-suc) (omega arith)

-- ---- the ways out of `write`

module _ (rotation : List ℕ) (r : ℕ) (translation : List ℕ) (t : ℕ) where
  abbrev layout : List ℕ
  layout = joints_layout (rotations_of r rotation) (translations_of t translation)

  pub length-layout : 49 * r ≤ length rotation → 16 * t ≤ length translation → length layout ≡ 64 + 192 * r + 64 * t
  unfolding joints_layout
  length-layout hr ht =
      let fr = flat_map-map rotation_slots rotation_row (λ w. rotation_slots (rotation_row w)) (λ w. refl) (limit_rows 49 r rotation) in
      let ft =
      flat_map-map translation_slots translation_row (λ w. translation_slots (translation_row w)) (λ w. refl) (limit_rows 16 t translation) in
      let nr =
      made_size (λ w. rotation_slots (rotation_row w)) 49 48 r rotation (λ x e. rotation_size x (omega arith)) hr in
      let nt =
      made_size (λ w. translation_slots (translation_row w)) 16 16 t translation (λ x e. translation_size x (omega arith)) ht in
      simp (length-append, length-header, length-word_bytes, fr, ft, nr, nt) (omega arith)

-- what rows got tell
got_by :
    (w n : ℕ) (t : List ℕ) (q : Bool) {g : Res (List (List ℕ))} → g ≡ (need 1 q >>= λ u. done (limit_rows w n t)) →
    ((x : ℕ) → g ≡ refused x → (q ≡ false) × (x ≡ 1)) × ((a : List (List ℕ)) → g ≡ done a → (q ≡ true) × (a ≡ limit_rows w n t))
got_by w n t true e = (λ x f. let z : ◌≡◌ {A = ℕ} 0 1 = cc in absurd (omega arith), λ a f. (refl, cc))
got_by w n t false e = (λ x f. (refl, cc), λ a f. let z : ◌≡◌ {A = ℕ} 0 1 = cc in absurd (omega arith))

pub got_refused : (w n : ℕ) (t : List ℕ) {x : ℕ} → refused x ≡ rows_got w n t → (length t < w * n) × (x ≡ 1)
unfolding rows_got
got_refused w n t {x} e =
    let b = (got_by w n t (leb (w * n) (length t)) {g = rows_got w n t} refl).0 x (sym e) in
    (leb-false (w * n) (length t) b.0, b.1)

pub got_done : (w n : ℕ) (t : List ℕ) {a : List (List ℕ)} → done a ≡ rows_got w n t → (w * n ≤ length t) × (a ≡ limit_rows w n t)
unfolding rows_got
got_done w n t {a} e =
    let b = (got_by w n t (leb (w * n) (length t)) {g = rows_got w n t} refl).1 a (sym e) in
    (leb-true (w * n) (length t) b.0, b.1)

-- what `write` promises of its answer and of the buffer
abbrev pub Writes : Res (List ℕ) → Res ℕ → List ℕ → List ℕ → Type 0
Writes w a out₀ out = (a ≡ size_of w) × (out ≡ left_in w out₀)

module _ (rotation : List ℕ) (r : ℕ) (translation : List ℕ) (t : ℕ) (out : List ℕ) where
  pub many_limits :
      (65535 < r) ⊎ ((r ≤ 65535) × (65535 < t)) → Writes (table_written (length out) rotation r translation t) (refused 6) out out
  unfolding table_written
  many_limits (inl h) = rw (lt-leb r 65535 h) (refl, refl)
  many_limits (inr h) = rw (le-leb r 65535 h.0, lt-leb t 65535 h.1) (refl, refl)

  module _ (hr : r ≤ 65535) (ht : t ≤ 65535) where
    pub short_rotations : length rotation < 49 * r → Writes (table_written (length out) rotation r translation t) (refused 1) out out
    unfolding table_written
    short_rotations h = rw (le-leb r 65535 hr, le-leb t 65535 ht, lt-leb (49 * r) (length rotation) h) (refl, refl)

    module _ (rr : 49 * r ≤ length rotation) where
      pub short_translations :
          length translation < 16 * t → Writes (table_written (length out) rotation r translation t) (refused 1) out out
      unfolding table_written
      short_translations h =
          rw (
            le-leb r 65535 hr,
            le-leb t 65535 ht,
            le-leb (49 * r) (length rotation) rr,
            lt-leb (16 * t) (length translation) h,
          ) (refl, refl)

      module _ (rt : 16 * t ≤ length translation) where
        size : length (layout rotation r translation t) ≡ 64 + 192 * r + 64 * t
        size = length-layout rotation r translation t rr rt

        passed :
            (n : ℕ) →
            table_written n rotation r translation t
            ≡ (need 35 (ids_fit (rotations_of r rotation)) >>= λ u. need 5 (leb (64 + 192 * r + 64 * t) n) >>= λ v. done
            (joints_layout (rotations_of r rotation) (translations_of t translation)))
        unfolding table_written joints_written
        passed n =
            simp (
              le-leb r 65535 hr,
              le-leb t 65535 ht,
              le-leb (49 * r) (length rotation) rr,
              le-leb (16 * t) (length translation) rt,
              length-rotations_of,
              length-translations_of,
              size,
            )

        pub wide_id :
            ids_fit (rotations_of r rotation) ≡ false → Writes (table_written (length out) rotation r translation t) (refused 35) out out
        wide_id e = rw (passed (length out), e) (refl, refl)

        module _ (ids : ids_fit (rotations_of r rotation) ≡ true) where
          pub short_buffer :
              length out < 64 + 192 * r + 64 * t → Writes (table_written (length out) rotation r translation t) (refused 5) out out
          short_buffer h = rw (passed (length out), ids, lt-leb (64 + 192 * r + 64 * t) (length out) h) (refl, refl)

          pub all_written :
              64 + 192 * r + 64 * t ≤ length out →
              Writes (table_written (length out) rotation r translation t) (done (64 + 192 * r + 64 * t)) out
              (joints_layout (rotations_of r rotation) (translations_of t translation) ++ drop (64 + 192 * r + 64 * t) out)
          all_written h =
              rw (passed (length out), ids, le-leb (64 + 192 * r + 64 * t) (length out) h) (ap done (sym size), rw size refl)
