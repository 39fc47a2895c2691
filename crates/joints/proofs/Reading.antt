-- Reading joints (docs/FORMAT.md, "Joints and names"). In order: the record; one list by its pointer and count; what an answer tells of a list;
-- both lists; the answer. Assumes nothing.
use mathlib.Core.Path.{◌≡◌, refl, sym, ap, ◌∙◌}
use mathlib.Core.Bool.{Bool, true, false}
use Rattle.std.specs.Simd.{first_chunks}
use Rattle.std.specs.Prelude.{Option, None, Some, Result, Ok, Err, MatchResult, IsOkAnd}
use mathlib.Core.List.{List, [], ◌++◌, map, flat_map, append_assoc}
use Prim.Native.Nat.{ℕ, zero, suc, ◌+◌, ◌-◌, ◌*◌, ◌/◌, ◌≤◌, ◌<◌}
use native.Mathlib.Nat.{mul_comm, mul-suc, sub-zero, mul-div_cancel}
use native.Mathlib.Omega.{arith}
use borrow.Author.Tests.{le-leb, lt-leb, leb-true}
use lib.Dec.{leb}
use lib.ListN.{length, take, drop, replicate, length-replicate, length-drop}
use lib.Seq.{length-take-le, take_at, drop_at}
use Rattle.format.specs.Result.{Res, refused, done, ◌>>=◌, need}
use Rattle.format.specs.Refusal.{outcome_by}
use Rattle.format.specs.declared.Refusal.{Refusal}
use Rattle.format.specs.Field.{field_at, words}
use Rattle.format.specs.Section.{Section, Spot, spot, part, array}
use Rattle.format.specs.Rows.{laid, cleared}
use Rattle.format.specs.Joints.{rotation_limit, rotation_row, rotation_words, translation_limit, translation_row, translation_words}
use Rattle.format.specs.Joints.{limit_rows, limits, mapped, Joints, read_joints}
use Rattle.fields.proofs.Laws.{field_at-stands}
use Rattle.joints.specs.Reading.{record_of, counted, table_of, lists_read, limits_in, joints_in, joints_if, words_of, rotation_table, translation_table}
use Rattle.joints.specs.declared.read.Record.{Record}
use Rattle.joints.specs.declared.read.Joints as declared
use Rattle.joints.proofs.Chunks.{chunks-words, length-limit_rows, flat_map-map}
use Rattle.joints.proofs.BothKinds.{length_rotation, length_translation, rotation_back_lem, translation_back_lem}
use Rattle.fields.proofs.WordLists.{length-words}

-- ---- the record

pub record_loaded :
    (s : List ℕ) {a b c d e : ℕ} →
    length s ≡ 52 →
    a ≡ field_at 4 s 0 → b ≡ field_at 8 s 16 → c ≡ field_at 8 s 24 → d ≡ field_at 2 s 48 → e ≡ field_at 2 s 50 →
    ◌≡◌ {A = Record}
    (record { kind = a; rotation = b; translation = c; rotation_count = d; translation_count = e })
    (record_of s)
record_loaded s h ea eb ec ed ee =
    simp (
      ea,
      eb,
      ec,
      ed,
      ee,
      field_at-stands 4 s 0 (omega arith),
      field_at-stands 8 s 16 (omega arith),
      field_at-stands 8 s 24 (omega arith),
      field_at-stands 2 s 48 (omega arith),
      field_at-stands 2 s 50 (omega arith),
    )

-- ---- one list by its pointer and count

pub limits_absent : (sec : Section) (room k n : ℕ) {va : ℕ} → va ≡ 0 → limits sec room k va n ≡ done None
unfolding limits
limits_absent sec room k n e = rw e refl

-- a pointer that is not 0
pub limits_stand :
    (sec : Section) (room k va n : ℕ) →
    (va ≡ 0 → ⊥) →
    limits sec room k va n
    ≡ (array sec va (4 * k * n) >>= λ b. need 1 (leb n room) >>= λ u. done (Some (limit_rows k n (words 4 (k * n) b))))
unfolding limits
limits_stand sec room k zero n h = absurd (h refl)
limits_stand sec room k (suc a) n h = refl

-- a table that is zero holds no rows
pub zeros_laid : {t : List ℕ} (n : ℕ) → t ≡ cleared n → t ≡ laid [] n
zeros_laid n e = e ∙ simp sub-zero

pub cleared_again : {t : List ℕ} (n : ℕ) → t ≡ cleared n → t ≡ cleared (length t)
cleared_again n e = let l = ap length e ∙ length-replicate n 0 in rw l e

drop_zeros : (n m : ℕ) → drop n (replicate {A = ℕ} m 0) ≡ replicate (m - n) 0
drop_zeros zero m = simp sub-zero
drop_zeros (suc n) zero = let e : 0 - suc n ≡ 0 = omega arith in simp e
drop_zeros (suc n) (suc m) = let e : suc m - suc n ≡ m - n = omega arith in rw e (drop_zeros n m)

-- ---- the ways out of `read_limits`

-- bytes that stand
part-length : (m : ℕ) (g : Res Spot) {b : List ℕ} →
    done b ≡ (g >>= λ p. need 11 (leb (p.offset + m) (length p.half)) >>= λ u. done (take m (drop p.offset p.half))) → length b ≡ m
part-length m (refused c) e = let z : ◌≡◌ {A = ℕ} 0 1 = cc in absurd (omega arith)
part-length m (done p) {b} e = by (leb (p.offset + m) (length p.half)) refl e
  where
    by :
        (q : Bool) → leb (p.offset + m) (length p.half) ≡ q → done b ≡ (need 11 q >>= λ u. done (take m (drop p.offset p.half))) →
        length b ≡ m
    by true h e =
        let l = leb-true (p.offset + m) (length p.half) h in
        let own : b ≡ take m (drop p.offset p.half) = cc in
        ap length own ∙ length-take-le m (drop p.offset p.half) (simp length-drop (omega arith))
    by false h e = let z : ◌≡◌ {A = ℕ} 0 1 = cc in absurd (omega arith)

pub part_size : (sec : Section) (va m : ℕ) {b : List ℕ} → done b ≡ part sec va m → length b ≡ m
unfolding part
part_size sec va m e = part-length m (spot sec va) e

pub array-length : (sec : Section) (va m : ℕ) {b : List ℕ} → done b ≡ array sec va m → length b ≡ m
unfolding array part
array-length sec va zero {b} e = let z : b ≡ [] = cc in ap length z
array-length sec va (suc m) e = part-length (suc m) (spot sec va) e

-- limits of k slots, m bytes, for a table of rows of w words
module _
    (f : List ℕ → List ℕ) (sec : Section) (k m w va n : ℕ) {t : List ℕ} (four : m ≡ 4 * k) (some_k : 0 < k) (some_w : 0 < w)
    (zero : t ≡ cleared (length t))
  where
    abbrev pub Reads : Res (Option ℕ) → List ℕ → Type 0
    Reads a t' =
        (a ≡ counted (limits sec (length t / w) k va n)) × (t' ≡ laid (table_of f (limits sec (length t / w) k va n)) (length t))

    pub reads_absent : va ≡ 0 → Reads (done None) t
    reads_absent e = rw (limits_absent sec (length t / w) k n e) (refl, zeros_laid (length t) zero)

    module _ (h : va ≡ 0 → ⊥) where
      stand :
          limits sec (length t / w) k va n
          ≡ (array sec va (m * n) >>= λ b. need 1 (leb n (length t / w)) >>= λ u. done (Some (limit_rows k n (words 4 (k * n) b))))
      stand = rw four (limits_stand sec (length t / w) k va n h)

      pub limits_refused : {x : ℕ} → refused x ≡ array sec va (m * n) → limits sec (length t / w) k va n ≡ refused x
      limits_refused e = stand ∙ rw (← e) refl

      pub reads_refused : {x : ℕ} → refused x ≡ array sec va (m * n) → Reads (refused x) t
      reads_refused e = rw (limits_refused e) (refl, zeros_laid (length t) zero)

      module _ {b : List ℕ} (e : done b ≡ array sec va (m * n)) {c : ℕ} (ec : c ≡ length b / m) where
        -- as many as were asked for
        count : c ≡ n
        count =
            let l : length b ≡ n * m = array-length sec va (m * n) e ∙ mul_comm m n in
            ec ∙ rw l (mul-div_cancel n (omega arith))

        pub reads_short : length t / w < c → Reads (refused 1) t
        reads_short s =
            let l : leb n (length t / w) ≡ false = lt-leb n (length t / w) (omega (arith, count)) in
            rw (stand, ← e, l) (refl, zeros_laid (length t) zero)

        pub reads_taken :
            {rs : List (List ℕ)} {r t' : List ℕ} →
            c ≤ length t / w →
            rs ≡ first_chunks m (length b / m) b →
            r ≡ flat_map (λ b. f (words 4 k b)) rs →
            length r ≡ w * c →
            t' ≡ r ++ drop (w * c) t →
            Reads (done (Some n)) t'
        reads_taken {rs} {r} {t'} h es er lr et =
            let l : leb n (length t / w) ≡ true = le-leb n (length t / w) (omega (arith, count)) in
            let own : r ≡ flat_map f (limit_rows k n (words 4 (k * n) b)) =
            er ∙ ap (flat_map (λ b. f (words 4 k b))) (es ∙ rw (← ec, count, four) refl) ∙ chunks-words f k n b in
            let rest : drop (w * c) t ≡ replicate (length t - w * c) 0 = ap (drop (w * c)) zero ∙ drop_zeros (w * c) (length t) in
            let all : t' ≡ laid r (length t) = et ∙ rw (rest, lr) refl in
            rw (stand, ← e, l, ← own, length-limit_rows k n (words 4 (k * n) b)) (refl, all)

-- ---- rows read as limits again

module _ {L : Type 0} (f : List ℕ → List ℕ) (k w : ℕ) (row limit : List ℕ → L)
    (size : (s : List ℕ) → length s ≡ k → length (f s) ≡ w)
    (back : (s : List ℕ) → length s ≡ k → row (f s) ≡ limit s)
  where
    -- the rows of n records hold their limits, whatever lies behind them
    pub rows_back :
        (n : ℕ) (s rest : List ℕ) →
        k * n ≤ length s →
        map row (limit_rows w n (flat_map f (limit_rows k n s) ++ rest)) ≡ map limit (limit_rows k n s)
    unfolding limit_rows flat_map
    rows_back zero s rest h = refl
    rows_back (suc n) s rest h =
        let e : k * suc n ≡ k + k * n = simp mul-suc (omega arith) in
        let l : length (take k s) ≡ k = length-take-le k s (omega arith) in
        let x : List ℕ = f (take k s) in
        let y : List ℕ = flat_map f (limit_rows k n (drop k s)) in
        let t : take w (x ++ (y ++ rest)) ≡ x = take_at x (y ++ rest) w (size (take k s) l) in
        let d : drop w (x ++ (y ++ rest)) ≡ y ++ rest = drop_at x (y ++ rest) w (size (take k s) l) in
        simp (append_assoc, t, d, back (take k s) l, rows_back n (drop k s) rest (simp length-drop (omega arith)))

    -- what a table says of its list is what was read
    pub list_given :
        (sec : Section) (room va n : ℕ) {rs : Option (List (List ℕ))} {o : Option ℕ} {t : List ℕ} (m : ℕ) →
        limits sec room k va n ≡ done rs →
        done o ≡ counted (done rs) →
        t ≡ laid (table_of f (done rs)) m →
        limits_in (λ m. map row (limit_rows w m t)) o ≡ mapped limit rs
    unfolding limits
    list_given sec room zero n {rs} {o} m e eo et =
        let z : rs ≡ None = cc in
        let y : o ≡ None = cc (rw z at eo) in
        rw (z, y) refl
    list_given sec room (suc a) n {rs} {o} {t} m e eo et =
        let b = found (array sec (suc a) (4 * k * n)) (leb n room) e in
        let s : List ℕ = words 4 (k * n) b.0 in
        let fits : k * n ≤ length s = rw (length-words 4 (k * n) b.0) (omega arith) in
        let l : t ≡ laid (flat_map f (limit_rows k n s)) m = rw b.1 at et in
        let c : done o ≡ done (Some n) = rw b.1 at eo ∙ ap (λ (i : ℕ). done (Some i)) (length-limit_rows k n s) in
        let y : o ≡ Some n = cc c in
        rw (b.1, y, l) (ap Some (rows_back n s _ fits))
      where
        -- a list that was found holds the words of some bytes
        found :
            (g : Res (List ℕ)) (q : Bool) →
            (g >>= λ b. need 1 q >>= λ u. done (Some (limit_rows k n (words 4 (k * n) b)))) ≡ done rs →
            (b : List ℕ) × (rs ≡ Some (limit_rows k n (words 4 (k * n) b)))
        found (refused c) q e = let z : ◌≡◌ {A = ℕ} 0 1 = cc in absurd (omega arith)
        found (done b) true e = (b, cc)
        found (done b) false e = let z : ◌≡◌ {A = ℕ} 0 1 = cc in absurd (omega arith)

-- ---- what an answer tells of a list

counted_refused : {A : Type 0} (g : Res (Option (List A))) {x : ℕ} → refused x ≡ counted g → g ≡ refused x
counted_refused (refused n) e = cc
counted_refused (done None) e = let z : ◌≡◌ {A = ℕ} 0 1 = cc in absurd (omega arith)
counted_refused (done (Some l)) e = let z : ◌≡◌ {A = ℕ} 0 1 = cc in absurd (omega arith)

counted_done : {A : Type 0} (g : Res (Option (List A))) {o : Option ℕ} → done o ≡ counted g → (rs : Option (List A)) × (g ≡ done rs)
counted_done (refused n) e = let z : ◌≡◌ {A = ℕ} 0 1 = cc in absurd (omega arith)
counted_done (done rs) e = (rs, refl)

-- a list's rows are those of its limits
words_given :
    {L : Type 0} (f : L → List ℕ) (limit : List ℕ → L) (rs : Option (List (List ℕ))) →
    table_of (λ s. f (limit s)) (done rs) ≡ words_of f (mapped limit rs)
words_given f limit None = refl
words_given f limit (Some l) = sym (flat_map-map f limit (λ s. f (limit s)) (λ s. refl) l)

-- ---- the ways out of `read_lists`

-- what each list comes to, for a table of n words
abbrev rotations_found : Section → Record → ℕ → Res (Option (List (List ℕ)))
rotations_found sec h n = limits sec (n / 49) 48 h.rotation h.rotation_count

abbrev translations_found : Section → Record → ℕ → Res (Option (List (List ℕ)))
translations_found sec h n = limits sec (n / 16) 16 h.translation h.translation_count

module _ (sec : Section) (h : Record) (rt₀ st₀ : List ℕ) where
  abbrev lists : Res (Option Joints)
  lists = lists_read sec (length rt₀ / 49) (length st₀ / 16) h

  abbrev pub Lists : (List ℕ → List ℕ → Res (Option Joints)) → List ℕ → List ℕ → Type 0
  Lists a rt st =
      (a rt st ≡ lists) × ((rt ≡ laid (rotation_table lists) (length rt₀)) × (st ≡ laid (translation_table lists) (length st₀)))

  pub lists_first :
      {x : ℕ} {rt : List ℕ} →
      refused x ≡ counted (rotations_found sec h (length rt₀)) →
      rt ≡ laid (table_of (λ s. rotation_words (rotation_limit s)) (rotations_found sec h (length rt₀))) (length rt₀) →
      st₀ ≡ cleared (length st₀) →
      Lists (λ a b. refused x) rt st₀
  unfolding lists_read
  lists_first e er z =
      let g = counted_refused (rotations_found sec h (length rt₀)) e in
      rw g (refl, (rw g at er, zeros_laid (length st₀) z))

  module _
      {o : Option ℕ} (eo : done o ≡ counted (rotations_found sec h (length rt₀)))
    where
      pub lists_second :
          {x : ℕ} {rt st : List ℕ} →
          refused x ≡ counted (translations_found sec h (length st₀)) →
          rt ≡ cleared (length rt₀) →
          st ≡ laid (table_of (λ s. translation_words (translation_limit s)) (translations_found sec h (length st₀))) (length st₀) →
          Lists (λ a b. refused x) rt st
      unfolding lists_read
      lists_second e z es =
          let f = (counted_done (rotations_found sec h (length rt₀)) eo).1 in
          let g = counted_refused (translations_found sec h (length st₀)) e in
          rw (f, g) (refl, (zeros_laid (length rt₀) z, rw g at es))

      pub lists_both :
          {p : Option ℕ} {rt st : List ℕ} →
          rt ≡ laid (table_of (λ s. rotation_words (rotation_limit s)) (rotations_found sec h (length rt₀))) (length rt₀) →
          done p ≡ counted (translations_found sec h (length st₀)) →
          st ≡ laid (table_of (λ s. translation_words (translation_limit s)) (translations_found sec h (length st₀))) (length st₀) →
          Lists
          (λ rt st. done
          (Some
          (joints_in rt st
          (record {
            kind = h.kind;
            rotation_count = h.rotation_count;
            translation_count = h.translation_count;
            rotation = o;
            translation = p;
          }))))
          rt
          st
      unfolding lists_read
      lists_both {p} {rt} {st} er ep es =
          let x = counted_done (rotations_found sec h (length rt₀)) eo in
          let y = counted_done (translations_found sec h (length st₀)) ep in
          let tx : rt ≡ laid (table_of (λ s. rotation_words (rotation_limit s)) (done x.0)) (length rt₀) = rw x.1 at er in
          let ty : st ≡ laid (table_of (λ s. translation_words (translation_limit s)) (done y.0)) (length st₀) = rw y.1 at es in
          let a =
          list_given (λ s. rotation_words (rotation_limit s)) 48 49 rotation_row rotation_limit length_rotation rotation_back_lem sec
          (length rt₀ / 49) h.rotation h.rotation_count (length rt₀) x.1 (rw x.1 at eo) tx in
          let b =
          list_given (λ s. translation_words (translation_limit s)) 16 16 translation_row translation_limit length_translation
          translation_back_lem sec (length st₀ / 16) h.translation h.translation_count (length st₀) y.1 (rw y.1 at ep) ty in
          rw (x.1, y.1)
          (rw (a, b) refl, (rw (words_given rotation_words rotation_limit x.0) at tx, rw (words_given translation_words translation_limit y.0) at ty))

-- ---- the ways out of `read`

pub read_found :
    (sec : Section) (rroom troom root : ℕ) →
    (root ≡ 0 → ⊥) →
    read_joints sec rroom troom root ≡ (part sec root 52 >>= λ b. lists_read sec rroom troom (record_of b))
unfolding read_joints lists_read
read_found sec rroom troom zero h = absurd (h refl)
read_found sec rroom troom (suc a) h = refl

pub read_nothing : (sec : Section) (rroom troom : ℕ) {root : ℕ} → root ≡ 0 → read_joints sec rroom troom root ≡ done None
unfolding read_joints
read_nothing sec rroom troom e = rw e refl

module _ (sec : Section) (root : ℕ) (rt₀ st₀ : List ℕ) where
  abbrev whole : Res (Option Joints)
  whole = read_joints sec (length rt₀ / 49) (length st₀ / 16) root

  abbrev pub Reading : (List ℕ → List ℕ → Res (Option Joints)) → List ℕ → List ℕ → Type 0
  Reading a rt st =
      (a rt st ≡ whole) × ((rt ≡ laid (rotation_table whole) (length rt₀)) × (st ≡ laid (translation_table whole) (length st₀)))

  pub reading_nothing :
      {rt st : List ℕ} → root ≡ 0 → rt ≡ cleared (length rt₀) → st ≡ cleared (length st₀) → Reading (λ a b. done None) rt st
  reading_nothing e zr zs =
      rw (read_nothing sec (length rt₀ / 49) (length st₀ / 16) e) (refl, (zeros_laid (length rt₀) zr, zeros_laid (length st₀) zs))

  module _ (h : root ≡ 0 → ⊥) where
    pub reading_refused :
        {x : ℕ} {rt st : List ℕ} → refused x ≡ part sec root 52 → rt ≡ cleared (length rt₀) → st ≡ cleared (length st₀) →
        Reading (λ a b. refused x) rt st
    reading_refused e zr zs =
        rw (read_found sec (length rt₀ / 49) (length st₀ / 16) root h, ← e)
        (refl, (zeros_laid (length rt₀) zr, zeros_laid (length st₀) zs))

    -- the tables were cleared before, which keeps their lengths
    pub reading_lists :
        (rt₁ st₁ : List ℕ) (a : List ℕ → List ℕ → Res (Option Joints)) {b rt st : List ℕ} →
        done b ≡ part sec root 52 → length rt₁ ≡ length rt₀ → length st₁ ≡ length st₀ →
        a rt st ≡ lists_read sec (length rt₁ / 49) (length st₁ / 16) (record_of b) →
        rt ≡ laid (rotation_table (lists_read sec (length rt₁ / 49) (length st₁ / 16) (record_of b))) (length rt₁) →
        st ≡ laid (translation_table (lists_read sec (length rt₁ / 49) (length st₁ / 16) (record_of b))) (length st₁) →
        Reading a rt st
    reading_lists rt₁ st₁ a e l m ea er es =
        rw (read_found sec (length rt₀ / 49) (length st₀ / 16) root h, ← e) (rw (l, m) at ea, (rw (l, m) at er, rw (l, m) at es))

-- joints that the code names, as the definitions do
pub lists_named :
    (rt st : List ℕ) (r : Result declared.Joints Refusal) (q : Result (Option declared.Joints) Refusal)
    {P : declared.Joints → Option declared.Joints → Type 0} → ((x : declared.Joints) (k : Option declared.Joints) → P x k → k ≡ Some x) →
    MatchResult r (λ x. IsOkAnd q (P x)) (λ e. q ≡ Err e) →
    outcome_by (joints_if rt st) q ≡ outcome_by (λ j. Some (joints_in rt st j)) r
lists_named rt st (Ok x) (Ok k) h m = ap (λ (o : Option declared.Joints). done (joints_if rt st o)) (h x k m)
lists_named rt st (Ok x) (Err e) h m = absurd m
lists_named rt st (Err e) q h m = ap (outcome_by (joints_if rt st)) m
