-- A written section reads back (docs/FORMAT.md, "Joints and names"). In order: bytes in the system half; fields of a laid record; one list
-- of either kind; the theorem. Assumes nothing.
use mathlib.Core.Path.{◌≡◌, refl, sym, ap, ◌∙◌}
use Rattle.std.specs.Prelude.{Some}
use mathlib.Core.List.{List, [], ◌∷◌, ◌++◌, map, flat_map, append-nil, append_assoc}
use Prim.Native.Nat.{ℕ, zero, suc, ◌+◌, ◌-◌, ◌*◌, ◌/◌, ◌%◌, ◌^◌, ◌≤◌, ◌<◌}
use native.Mathlib.Nat.{mul-zero, mul-suc, mul_assoc, mul-le-mul_right, mod-eq_of_lt}
use native.Mathlib.Omega.{arith}
use borrow.Author.Tests.{le-leb}
use lib.ListN.{length, take, drop, length-append}
use lib.Seq.{take_at, drop_at, drop-drop, take-take}
use Rattle.format.specs.Result.{Res, done, ◌>>=◌}
use Rattle.format.specs.Field.{field, bytes, words, word_bytes, Item, ◌⊳◌, lay}
use Rattle.format.specs.Section.{Section, window, spot, part, array}
use Rattle.format.specs.Layout.{base, pointer}
use Rattle.format.specs.Joints.{RotationLimit, rotation_slots, rotation_limit, TranslationLimit, translation_slots, translation_limit}
use Rattle.format.specs.Joints.{joints_items, joints_layout, limit_rows, limits, mapped, read_joints}
use Rattle.format.proofs.Fields.{length-bytes, value_of-bytes}
use Rattle.joints.specs.Reading.{record_of, lists_read}
use Rattle.joints.specs.OneWidth.{standing, joints_of}
use Rattle.fields.proofs.WordLists.{Fit, length-word_bytes, words-word_bytes, words_take, drop-take}
use Rattle.joints.proofs.Reading.{limits_absent, limits_stand, read_found}
use Rattle.joints.proofs.Laying.{pointer_lt, length-header}

-- ---- bytes in the system half

part-system :
    (sec :
    Section) (o n : ℕ) → o < window → o + n ≤ length sec.system → part sec (base + o) n ≡ done (take n (drop o sec.system))
unfolding part spot
part-system sec o n h l =
    let d : (base + o) / window ≡ 5 = omega arith in
    let m : (base + o) % window ≡ o = omega arith in
    simp (d, m, le-leb (o + n) (length sec.system) l)

pub array-part : (sec : Section) (va n : ℕ) → (n ≡ 0 → ⊥) → array sec va n ≡ part sec va n
unfolding array
array-part sec va zero h = absurd (h refl)
array-part sec va (suc n) h = refl

-- the bytes of some limits are some
pub bytes-some : (k n : ℕ) → 3 ≤ k → (n ≡ 0 → ⊥) → 4 * k * n ≡ 0 → ⊥
bytes-some k n h l e =
    let a : 12 * n ≤ 4 * k * n = mul-le-mul_right n (omega arith) in
    omega arith

-- a field inside a part is the field of the whole
pub field-part : (k n j at : ℕ) (s : List ℕ) → j + k ≤ n → field k (take n (drop at s)) j ≡ field k s (at + j)
field-part k n j at s h =
    let e : j + (n - j) ≡ n = omega arith in
    let d : drop j (take n (drop at s)) ≡ take (n - j) (drop j (drop at s)) = rw e at (drop-take j (n - j) (drop at s)) in
    rw (d, take-take k (n - j) (drop j (drop at s)) (omega arith), drop-drop)

-- ---- fields of a laid record

lay-append : (is js : List Item) → lay (is ++ js) ≡ lay is ++ lay js
unfolding lay
lay-append [] js = refl
lay-append (k ⊳ v ∷ is) js = simp (lay-append is js, append_assoc)

field-laid :
    (is : List Item) (k v : ℕ) (js : List Item) (rest : List ℕ) (at : ℕ) →
    length (lay is) ≡ at →
    v < 256 ^ k →
    field k (lay (is ++ (k ⊳ v ∷ js)) ++ rest) at ≡ v
unfolding lay
field-laid is k v js rest at e h =
    let own : List ℕ = bytes k v in
    let behind : List ℕ = lay js ++ rest in
    let whole : lay (is ++ (k ⊳ v ∷ js)) ++ rest ≡ lay is ++ (own ++ behind) = simp (lay-append is (k ⊳ v ∷ js), append_assoc) in
    let d : drop at (lay is ++ (own ++ behind)) ≡ own ++ behind = drop_at (lay is) (own ++ behind) at e in
    let t : take k (own ++ behind) ≡ own = take_at own behind k (length-bytes k v) in
    rw (whole, d, t) (value_of-bytes k v ∙ mod-eq_of_lt h)

-- ---- one list

-- n numbers of 32 bits behind others
pub fit_append : (a b : List ℕ) → Fit 4 a → Fit 4 b → Fit 4 (a ++ b)
fit_append [] b f g = g
fit_append (x ∷ a) b f g = (f.0, fit_append a b f.1 g)

module _ {L : Type 0} (slots : L → List ℕ) (limit : List ℕ → L) (k : ℕ) where
  -- each limit has k slots of 32 bits, which are read as the limit
  abbrev pub EachBack : List L → Type 0
  EachBack [] = Unit {0}
  EachBack (l ∷ ls) = (length (slots l) ≡ k) × (Fit 4 (slots l) × ((limit (slots l) ≡ l) × EachBack ls))

  length_slots : (ls : List L) → EachBack ls → length (flat_map slots ls) ≡ k * length ls
  unfolding flat_map
  length_slots [] f = sym (mul-zero k)
  length_slots (l ∷ ls) f = simp (length-append, f.0, length_slots ls f.1.1.1, mul-suc) (omega arith)

  fit_slots : (ls : List L) → EachBack ls → Fit 4 (flat_map slots ls)
  unfolding flat_map
  fit_slots [] f = tt
  fit_slots (l ∷ ls) f = fit_append (slots l) (flat_map slots ls) f.1.0 (fit_slots ls f.1.1.1)

  rows_slots : (ls : List L) → EachBack ls → limit_rows k (length ls) (flat_map slots ls) ≡ map slots ls
  unfolding limit_rows flat_map
  rows_slots [] f = refl
  rows_slots (l ∷ ls) f =
      let t : take k (slots l ++ flat_map slots ls) ≡ slots l = take_at (slots l) (flat_map slots ls) k f.0 in
      let d : drop k (slots l ++ flat_map slots ls) ≡ flat_map slots ls = drop_at (slots l) (flat_map slots ls) k f.0 in
      simp (t, d, rows_slots ls f.1.1.1)

  -- what is read of them
  pub mapped-back : (ls : List L) → EachBack ls → mapped limit (standing (map slots ls)) ≡ standing ls
  mapped-back [] f = refl
  mapped-back (l ∷ ls) f = ap Some (all_back (l ∷ ls) f)
    where
      all_back : (ls : List L) → EachBack ls → map limit (map slots ls) ≡ ls
      all_back [] f = refl
      all_back (l ∷ ls) f = simp (f.1.1.0, all_back ls f.1.1.1)

  -- the list laid behind `front`
  limits_back_lem :
      (front : List ℕ) (ls : List L) (rest gfx : List ℕ) (room o : ℕ) →
      EachBack ls →
      length ls ≤ room →
      length front ≡ o →
      o < window →
      3 ≤ k →
      limits (record { system = front ++ (word_bytes 4 (flat_map slots ls) ++ rest); graphics = gfx }) room k
      (pointer (base + o) (length ls))
      (length ls)
      ≡ done (standing (map slots ls))
  unfolding pointer
  limits_back_lem front [] rest gfx room o f h e l m = limits_absent _ _ _ _ refl
  limits_back_lem front (x ∷ ls) rest gfx room o f h e l m =
      let n : ℕ = suc (length ls) in
      let own : List ℕ = word_bytes 4 (flat_map slots (x ∷ ls)) in
      let sec : Section = record { system = front ++ (own ++ rest); graphics = gfx } in
      let size : length own ≡ 4 * (k * n) =
      length-word_bytes 4 (flat_map slots (x ∷ ls)) ∙ ap (λ (y : ℕ). 4 * y) (length_slots (x ∷ ls) f) in
      let all : length (front ++ (own ++ rest)) ≡ o + (4 * (k * n) + length rest) = simp (length-append, e, size) in
      let fits : o + 4 * k * n ≤ length (front ++ (own ++ rest)) = rw (mul_assoc 4 k n) (omega arith) in
      let p = part-system sec o (4 * k * n) l fits in
      let a : array sec (base + o) (4 * k * n) ≡ done (take (4 * k * n) (own ++ rest)) =
      array-part sec (base + o) (4 * k * n) (bytes-some k n m (omega arith)) ∙ p
      ∙ ap (λ (s : List ℕ). done (take (4 * k * n) s)) (drop_at front (own ++ rest) o e) in
      let w₁ : words 4 (k * n) (take (4 * k * n) (own ++ rest)) ≡ words 4 (k * n) (own ++ rest) =
      rw (mul_assoc 4 k n) (words_take 4 (k * n) (own ++ rest)) in
      let w₂ : words 4 (k * n) (own ++ rest) ≡ flat_map slots (x ∷ ls) =
      rw (← length_slots (x ∷ ls) f) (words-word_bytes 4 (flat_map slots (x ∷ ls)) rest (fit_slots (x ∷ ls) f)) in
      limits_stand sec room k (base + o) n (omega arith) ∙ rw (a, le-leb n room h, w₁, w₂, rows_slots (x ∷ ls) f) refl

-- ---- the record

-- the fields of the record for r and t limits, whatever lies behind it
module _ (r t : ℕ) (hr : r ≤ 65535) (ht : t ≤ 65535) (rest : List ℕ) where
  -- one field, the items before and behind it
  header-field :
      (is : List Item) (k v : ℕ) (js : List Item) (at : ℕ) →
      is ++ (k ⊳ v ∷ js) ≡ joints_items r t →
      length (lay is) ≡ at →
      at + k ≤ 52 →
      v < 256 ^ k →
      field k (take 52 (lay (joints_items r t) ++ rest)) at ≡ v
  header-field is k v js at e n h l =
      let z : 0 + at ≡ at = omega arith in
      rw z at (field-part k 52 at 0 (lay (joints_items r t) ++ rest) h) ∙ rw (← e) (field-laid is k v js rest at n l)

  pub header-back :
      record_of (take 52 (lay (joints_items r t) ++ rest))
      ≡ record {
        kind = 1080130656;
        rotation = pointer (base + 64) r;
        translation = pointer (base + 64 + 192 * r) t;
        rotation_count = r;
        translation_count = t;
      }
  unfolding lay bytes joints_items
  header-back =
      let p : ℕ = pointer (base + 64) r in
      let q : ℕ = pointer (base + 64 + 192 * r) t in
      let is₁ : List Item = 4 ⊳ 1080130656 ∷ 4 ⊳ 1 ∷ 8 ⊳ 0 ∷ [] in
      let is₂ : List Item = is₁ ++ (8 ⊳ p ∷ []) in
      let is₃ : List Item = is₂ ++ (8 ⊳ q ∷ 8 ⊳ 0 ∷ 8 ⊳ 0 ∷ []) in
      let js₃ : List Item = 2 ⊳ 0 ∷ 2 ⊳ 1 ∷ 8 ⊳ 0 ∷ [] in
      let js₂ : List Item = 8 ⊳ 0 ∷ 8 ⊳ 0 ∷ 2 ⊳ r ∷ 2 ⊳ t ∷ js₃ in
      let hp : p < 256 ^ 8 = pointer_lt (256 ^ 8) (base + 64) r (omega arith) in
      let hq : q < 256 ^ 8 = pointer_lt (256 ^ 8) (base + 64 + 192 * r) t (omega arith) in
      let a = header-field [] 4 1080130656 (4 ⊳ 1 ∷ 8 ⊳ 0 ∷ 8 ⊳ p ∷ 8 ⊳ q ∷ js₂) 0 refl refl (omega arith) (omega arith) in
      let b = header-field is₁ 8 p (8 ⊳ q ∷ js₂) 16 refl refl (omega arith) hp in
      let c = header-field is₂ 8 q js₂ 24 refl refl (omega arith) hq in
      let d = header-field is₃ 2 r (2 ⊳ t ∷ js₃) 48 refl refl (omega arith) (omega arith) in
      let e = header-field (is₃ ++ (2 ⊳ r ∷ [])) 2 t js₃ 50 refl refl (omega arith) (omega arith) in
      λ i. record { kind = a i; rotation = b i; translation = c i; rotation_count = d i; translation_count = e i }

-- ---- the section

-- Whatever graphics bytes stand beside it, a written section reads back the counts and every limit; an empty list does not stand.
module _
    (rs : List RotationLimit) (ts : List TranslationLimit) (gfx : List ℕ) (rroom troom : ℕ)
    (few_r : length rs ≤ 65535) (few-t : length ts ≤ 65535) (room_r : length rs ≤ rroom) (room-t : length ts ≤ troom)
    (fit_r : EachBack rotation_slots rotation_limit 48 rs) (fit-t : EachBack translation_slots translation_limit 16 ts)
  where
    abbrev head : List ℕ
    head = lay (joints_items (length rs) (length ts))

    abbrev rotations : List ℕ
    rotations = word_bytes 4 (flat_map rotation_slots rs)

    abbrev translations : List ℕ
    translations = word_bytes 4 (flat_map translation_slots ts)

    abbrev whole : Section
    whole = record { system = joints_layout rs ts; graphics = gfx }

    laid_in : joints_layout rs ts ≡ head ++ (rotations ++ translations)
    unfolding joints_layout
    laid_in = append_assoc head rotations translations

    rotations-back :
        limits whole rroom 48 (pointer (base + 64) (length rs)) (length rs) ≡ done (standing (map rotation_slots rs))
    rotations-back =
        rw laid_in
        (limits_back_lem rotation_slots rotation_limit 48 head rs translations gfx rroom 64 fit_r room_r (length-header (length rs) (length ts))
        (omega arith) (omega arith))

    translations-back :
        limits whole troom 16 (pointer (base + 64 + 192 * length rs) (length ts)) (length ts) ≡ done
        (standing (map translation_slots ts))
    translations-back =
        let n = length-word_bytes 4 (flat_map rotation_slots rs) in
        let k = length_slots rotation_slots rotation_limit 48 rs fit_r in
        let front : length (head ++ rotations) ≡ 64 + 192 * length rs =
        simp (length-append, length-header, n, k) (omega arith) in
        let again : joints_layout rs ts ≡ (head ++ rotations) ++ (translations ++ []) = laid_in ∙ simp
        (append_assoc, append-nil) in
        let at : base + 64 + 192 * length rs ≡ base + (64 + 192 * length rs) = omega arith in
        rw (again, at)
        (limits_back_lem translation_slots translation_limit 16 (head ++ rotations) ts [] gfx troom (64 + 192 * length rs) fit-t room-t front
        (omega arith) (omega arith))

    lists_back :
        lists_read whole rroom troom
        (record {
          kind = 1080130656;
          rotation = pointer (base + 64) (length rs);
          translation = pointer (base + 64 + 192 * length rs) (length ts);
          rotation_count = length rs;
          translation_count = length ts;
        })
        ≡ done (Some (joints_of rs ts))
    unfolding lists_read
    lists_back =
        rw (
          rotations-back,
          translations-back,
          mapped-back rotation_slots rotation_limit 48 rs fit_r,
          mapped-back translation_slots translation_limit 16 ts fit-t,
        ) refl

    pub joints_back : read_joints whole rroom troom base ≡ done (Some (joints_of rs ts))
    joints_back =
        let size : 64 ≤ length (joints_layout rs ts) =
        rw laid_in (simp (length-append, length-header) (omega arith)) in
        let found = part-system whole 0 52 (omega arith) (omega arith) in
        let fields = ap (λ (s : List ℕ). record_of (take 52 s)) laid_in ∙ header-back (length rs) (length ts) few_r few-t
        (rotations ++ translations) in
        read_found whole rroom troom base (omega arith)
        ∙ ap (λ (g : Res (List ℕ)). g >>= λ b. lists_read whole rroom troom (record_of b)) found
        ∙ ap (lists_read whole rroom troom) fields
        ∙ lists_back
