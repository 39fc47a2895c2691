-- Names: which the writer takes, the bytes that they take, and how they are stored one behind the other. In order: bytes without
-- a zero; good names and their sizes; the loop that measures; the loop that stores. Assumes nothing.
use mathlib.Core.Path.{◌≡◌, refl, sym, ap, ◌∙◌}
use mathlib.Core.Bool.{Bool, true, false, not, ◌&&◌, ◌||◌}
use mathlib.Core.Logic.{⊎_elim}
use Rattle.std.specs.Prelude.{Option, None, Some, Result, Ok}
use Rattle.std.specs.Borrow.{Bor}
use mathlib.Core.List.{List, [], ◌∷◌, ◌++◌, map, flat_map}
use Prim.Native.Nat.{ℕ, ◌+◌, ◌-◌, ◌*◌, ◌≤◌, ◌<◌}
use native.Mathlib.Numerals.{add-one}
use native.Mathlib.Omega.{arith}
use borrow.Author.Tests.{le-leb, lt-leb, leb-true}
use lib.Dec.{leb, eqb}
use lib.ListN.{length, get_or, take, drop, replicate, length-append, length-drop, drop_of_length-le, get_or-replicate, get_or-append}
use lib.Seq.{drop-cons, length-take-le, get_or-append-add, get_or-take}
use Rattle.format.specs.Result.{Res, refused, done, ◌>>=◌, need}
use Rattle.format.specs.Refusal.{outcome_by}
use Rattle.format.specs.declared.Refusal.{Refusal}
use Rattle.format.specs.Section.{Section, Spot, Place, spot, cursor, part, or_none, name_bytes}
use Rattle.format.specs.Bone.{map_name}
use Rattle.format.specs.Rows.{bone_of}
use Rattle.format.specs.Layout.{ended_name, all_names}
use Rattle.format.specs.Write.{no_zero, good_part, good_name, good_names, named}
use Rattle.tables.proofs.Outcome.{both_true}
use Rattle.blocks.specs.Places.{rest}
use Rattle.blocks.proofs.Cases.{le-or-lt}
use Rattle.rows.specs.Value.{our_place}
use Rattle.format.specs.declared.Place as our
use Rattle.write.specs.Records.{takes, takes_all, ShortName}
use Rattle.write.specs.Names.{name_in, names_result, StoredTo}
use Rattle.fields.proofs.RunLaws.{Left, left-all}
use Rattle.write.proofs.Runs.{just_stored, left-past, sets_whole}
use Rattle.write.proofs.Bones.{name-none, name-some, rows-next}

-- two tests that hold alike
leb-cong : (a b m n : ℕ) → (m ≤ n → a ≤ b) → (a ≤ b → m ≤ n) → leb a b ≡ leb m n
leb-cong a b m n f g =
    ⊎_elim (λ h. le-leb a b (f h) ∙ sym (le-leb m n h))
    (λ h. lt-leb a b (⊎_elim (λ k. absurd (omega (arith, g k))) (λ k. k) (le-or-lt a b)) ∙ sym (lt-leb m n h)) (le-or-lt m n)

-- ---- bytes without a zero

and_assoc : (a b c : Bool) → (a && b && c) ≡ (a && (b && c))
and_assoc true b c = refl
and_assoc false b c = refl

and-true : (a : Bool) → (a && true) ≡ a
and-true true = refl
and-true false = refl

or-true : (a : Bool) → (a || true) ≡ true
or-true true = refl
or-true false = refl

or-false : (a : Bool) → (a || false) ≡ a
or-false true = refl
or-false false = refl

-- the first i bytes are passed, and `good` says whether none of them is zero
pub record Passed (s : List ℕ) (i : ℕ) (good : Bool) : Type 0 where
  pub same : no_zero s ≡ (good && no_zero (drop i s))

pub passed_none : (s : List ℕ) → Passed s 0 true
passed_none s = record { same = refl }

pub passed-more :
    (s : List ℕ) {i : ℕ} {good : Bool} → Passed s i good → i < length s → Passed s (i + 1) (good && not (eqb (get_or s i 0) 0))
unfolding no_zero
passed-more s {i} {good} h l =
    let e : no_zero (drop i s) ≡ (not (eqb (get_or s i 0) 0) && no_zero (drop (i + 1) s)) = rw (drop-cons s i 0 l, add-one) in
    record { same = h.same ∙ rw e (sym (and_assoc good (not (eqb (get_or s i 0) 0)) (no_zero (drop (i + 1) s)))) }

pub passed-all : (s : List ℕ) {i : ℕ} {good : Bool} → Passed s i good → length s ≤ i → good ≡ no_zero s
unfolding no_zero
passed-all s {i} {good} h l = sym (h.same ∙ rw (drop_of_length-le s l) (and-true good))

-- zeros, then ones
abbrev pub chunk_mask : List ℕ
chunk_mask = replicate 32 0 ++ replicate 32 1

-- the mask: zeros over the k bytes, ones behind them
mask_zero : (k i : ℕ) → k ≤ 32 → i < k → get_or chunk_mask (32 - k + i) 0 ≡ 0
mask_zero k i h l =
    let zeros : List ℕ = replicate 32 0 in
    let ones : List ℕ = replicate 32 1 in
    let m : 32 - k + i < 32 = omega arith in
    get_or-append zeros ones 0 (32 - k + i) m ∙ get_or-replicate 32 (32 - k + i) 0 0 m

mask_one : (k i : ℕ) → k ≤ 32 → k ≤ i → i < 32 → get_or chunk_mask (32 - k + i) 0 ≡ 1
mask_one k i h l b =
    let zeros : List ℕ = replicate 32 0 in
    let ones : List ℕ = replicate 32 1 in
    let m : 32 - k + i ≡ 32 + (i - k) = omega arith in
    rw m (get_or-append-add zeros ones (i - k) 0 ∙ get_or-replicate 32 (i - k) 1 0 (omega arith))

-- the loop goes on behind the k bytes, where the mask has ones
pub near-more :
    (s : List ℕ) (k : ℕ) {mask : List ℕ} {i : ℕ} {good : Bool} → 32 ≤ length s → k ≤ 32 → mask ≡ chunk_mask
    → Passed (take k s) i good → i < 32
    → Passed (take k s) (i + 1) (good && (not (eqb (get_or s i 0) 0) || not (eqb (get_or mask (32 - k + i) 0) 0)))
unfolding no_zero
near-more s k {mask} {i} {good} r m q h l = ⊎_elim behind within (le-or-lt k i)
  where
    w : List ℕ
    w = take k s

    n : length w ≡ k
    n = length-take-le k s (omega arith)

    a : Bool
    a = not (eqb (get_or s i 0) 0)

    behind : k ≤ i → Passed w (i + 1) (good && (a || not (eqb (get_or mask (32 - k + i) 0) 0)))
    behind j =
        let e : drop i w ≡ [] = drop_of_length-le w {i = i} (omega (arith, n)) in
        let f : drop (i + 1) w ≡ [] = drop_of_length-le w {i = i + 1} (omega (arith, n)) in
        let o : not (eqb (get_or mask (32 - k + i) 0) 0) ≡ true = rw (q, mask_one k i m j l) in
        let g : no_zero w ≡ (good && true) = rw e at h.same in
        record { same = rw (o, f, or-true a, and-true good) g }

    within : i < k → Passed w (i + 1) (good && (a || not (eqb (get_or mask (32 - k + i) 0) 0)))
    within j =
        let o : not (eqb (get_or mask (32 - k + i) 0) 0) ≡ false = rw (q, mask_zero k i m j) in
        let b : get_or w i 0 ≡ get_or s i 0 = get_or-take k s i 0 j in
        rw (o, or-false a, ← b) (passed-more w h (omega (arith, n)))

-- after the 32 bytes
pub near-all :
    (s : List ℕ) (k : ℕ) {i : ℕ} {good : Bool} → 32 ≤ length s → k ≤ 32 → Passed (take k s) i good → 32 ≤ i
    → good ≡ no_zero (take k s)
near-all s k r m h l = passed-all (take k s) h (omega (arith, length-take-le k s (omega arith)))

-- ---- good names and their sizes

part_by :
    (r : Res Spot) (n : ℕ) (l : List ℕ)
    → (r >>= λ p. need 11 (leb (p.offset + n) (length p.half)) >>= λ u. done (take n (drop p.offset p.half))) ≡ done l
    → length l ≡ n
part_by (refused c) n l e = let z : ◌≡◌ {A = ℕ} 0 1 = cc in absurd (omega arith)
part_by (done p) n l e = by (leb (p.offset + n) (length p.half)) refl e
  where
    by : (b : Bool) → leb (p.offset + n) (length p.half) ≡ b
        → (need 11 b >>= λ u. done (take n (drop p.offset p.half))) ≡ done l → length l ≡ n
    by true t f =
        let q : take n (drop p.offset p.half) ≡ l = cc in
        let s = leb-true (p.offset + n) (length p.half) t in
        rw (← q) (length-take-le n (drop p.offset p.half) (simp length-drop (omega arith)))
    by false t f = let z : ◌≡◌ {A = ℕ} 0 1 = cc in absurd (omega arith)

-- the bytes at an address are as many as were asked for
pub length_part : (lent : Section) (a n : ℕ) (l : List ℕ) → part lent a n ≡ done l → length l ≡ n
unfolding part
length_part lent a n l e = part_by (spot lent a) n l e

-- the bytes at a spot are the first of those from it on
abbrev SameFrom : Spot → ℕ → Type 0
SameFrom p n =
    (need 11 (leb (p.offset + n) (length p.half)) >>= λ u. done (take n (drop p.offset p.half)))
    ≡ ((need 11 (leb p.offset (length p.half)) >>= λ u. done p) >>= (λ p. done (drop p.offset p.half))
    >>= λ s. need 11 (leb n (length s)) >>= λ u. done (take n s))

same_from : (p : Spot) (n : ℕ) → SameFrom p n
same_from p n = ⊎_elim here past (le-or-lt p.offset (length p.half))
  where
    here : p.offset ≤ length p.half → SameFrom p n
    here h =
        let f : leb (p.offset + n) (length p.half) ≡ leb n (length (drop p.offset p.half)) =
        leb-cong _ _ _ _ (λ k. omega (arith, length-drop p.offset p.half)) (λ k. omega (arith, length-drop p.offset p.half)) in
        rw (le-leb p.offset (length p.half) h, f)

    past : length p.half < p.offset → SameFrom p n
    past h =
        let m : length p.half < p.offset + n = omega arith in
        rw (lt-leb p.offset (length p.half) h, lt-leb (p.offset + n) (length p.half) m)

rest_by :
    (r : Res Spot) (n : ℕ)
    → (r >>= λ p. need 11 (leb (p.offset + n) (length p.half)) >>= λ u. done (take n (drop p.offset p.half)))
    ≡ ((r >>= λ p. need 11 (leb p.offset (length p.half)) >>= λ u. done p) >>= (λ p. done (drop p.offset p.half))
    >>= λ s. need 11 (leb n (length s)) >>= λ u. done (take n s))
rest_by (refused c) n = refl
rest_by (done p) n = same_from p n

module _ (lent : Section) (a n : ℕ) where
  part-rest : part lent a n ≡ (rest lent a >>= λ s. need 11 (leb n (length s)) >>= λ u. done (take n s))
  unfolding part rest cursor
  part-rest = rest_by (spot lent a) n

  pub rest-refused : {c : ℕ} → refused c ≡ rest lent a → refused c ≡ part lent a n
  rest-refused e = rw (part-rest, ← e)

  pub rest-short : {s : List ℕ} → done s ≡ rest lent a → length s < n → refused 11 ≡ part lent a n
  rest-short {s} e h = rw (part-rest, ← e, lt-leb n (length s) h)

  pub rest-done : {s : List ℕ} → done s ≡ rest lent a → n ≤ length s → done (take n s) ≡ part lent a n
  rest-done {s} e h = rw (part-rest, ← e, le-leb n (length s) h)

module _ (lent : Section) where
  -- a name over 255 bytes is not good
  pub long_bad : (a n : ℕ) → 255 < n → good_part (part lent a n) ≡ false
  long_bad a n h = by (part lent a n) refl
    where
      by : (r : Res (List ℕ)) → part lent a n ≡ r → good_part r ≡ false
      by (refused c) e = refl
      by (done l) e = rw (lt-leb (length l) 255 (omega (arith, length_part lent a n l e)))

  pub short-good : (a n : ℕ) (l : List ℕ) → n ≤ 255 → part lent a n ≡ done l → good_part (part lent a n) ≡ no_zero l
  short-good a n l h e = rw (e, le-leb (length l) 255 (omega (arith, length_part lent a n l e)))

  -- a good name takes at most 256 bytes, and as many as are stored
  good_part_lem : (a n : ℕ) (r : Res (List ℕ)) → part lent a n ≡ r → good_part r ≡ true → (length (or_none r) ≡ n) × (n ≤ 255)
  good_part_lem a n (refused c) e t = let z : ◌≡◌ {A = ℕ} 0 1 = cc in absurd (omega arith)
  good_part_lem a n (done l) e t =
      let k = length_part lent a n l e in
      (k, omega (arith, k, leb-true (length l) 255 (both_true (leb (length l) 255) (no_zero l) t).0))

  pub good-takes : (o : Option Place) → good_name lent o ≡ true → (length (ended_name (map_name (name_bytes lent) o)) ≡ takes o) ×
      (takes o ≤ 256)
  unfolding ended_name name_bytes
  good-takes None t = (refl, omega arith)
  good-takes (Some p) t =
      let k = good_part_lem p.address p.size (part lent p.address p.size) refl t in
      (length-append (name_bytes lent p) (0 ∷ []) ∙ (let e = k.0 in omega arith), omega (arith, k.1))

-- ---- the ways out of `good_name`

module _ (lent : Section) (w : List ℕ) {p : our.Place} (e : p ≡ our_place (bone_of w).name) where
  pub good_none : p.address ≡ 0 → true ≡ good_name lent (bone_of w).name
  good_none z = rw (name-none w e z)

  pub good_long : (p.address ≡ 0 → ⊥) → 255 < p.size → false ≡ good_name lent (bone_of w).name
  good_long z h = rw (name-some w e z) (sym (long_bad lent p.address p.size h))

  module _ (z : p.address ≡ 0 → ⊥) {r : Result (Bor (List ℕ)) Refusal}
      (l : outcome_by (λ s. take p.size s.now) r ≡ part lent p.address p.size) where
    pub good-here :
        {s : Bor (List ℕ)} {g : Bool} → r ≡ Ok s → p.size ≤ 255 → g ≡ no_zero (take p.size s.now) → g ≡ good_name lent (bone_of w).name
    good-here {s} q h f =
        rw (name-some w e z) (f ∙ sym (short-good lent p.address p.size _ h (sym l ∙ ap (outcome_by (λ s. take p.size s.now)) q)))

-- ---- the loop that measures

-- the first p rows are measured
pub record Measuring (lent : Section) (rows : List (List ℕ)) (p total : ℕ) : Type 0 where
  pub good : good_names lent (map bone_of rows) ≡ good_names lent (map bone_of (drop p rows))
  pub counts : total + takes_all (map bone_of (drop p rows)) ≡ takes_all (map bone_of rows)
  pub small : total ≤ 256 * p

module _ {lent : Section} {rows : List (List ℕ)} {p total : ℕ} (h : Measuring lent rows p total) where
  module _ (l : p < length rows) {row : List ℕ} (er : row ≡ get_or rows p []) where
    pub measuring_bad : {g : Bool} → g ≡ good_name lent (bone_of row).name → g ≡ false
        → refused 4 ≡ names_result lent (map bone_of rows)
    unfolding good_names names_result
    measuring_bad {g} e f =
        let b : good_name lent (bone_of row).name ≡ false = sym e ∙ f in
        rw (h.good, rows-next rows p l er, b)

    module _ {g : Bool} (e : g ≡ good_name lent (bone_of row).name) (f : g ≡ true) where
      good-row : good_name lent (bone_of row).name ≡ true
      good-row = sym e ∙ f

      pub measuring_short : ShortName row
      measuring_short = (good-takes lent (bone_of row).name good-row).1

      pub measuring_more : {m : ℕ} → m ≡ takes (bone_of row).name → Measuring lent rows (p + 1) (total + m)
      unfolding good_names takes_all
      measuring_more {m} em =
          let nb = rows-next rows p l er in
          record {
            good = h.good ∙ rw (nb, good-row);
            counts = omega (arith, em, rw nb at h.counts);
            small = omega (arith, em, h.small, (good-takes lent (bone_of row).name good-row).1);
          }

  pub measuring_all : length rows ≤ p → done total ≡ names_result lent (map bone_of rows)
  unfolding good_names names_result takes_all
  measuring_all l =
      let z : drop p rows ≡ [] = drop_of_length-le rows l in
      let g : good_names lent (map bone_of rows) ≡ true = rw z at h.good in
      let k : total + 0 ≡ takes_all (map bone_of rows) = rw z at h.counts in
      let m : total ≡ takes_all (map bone_of rows) = omega (arith, k) in
      rw (g, m)

-- ---- one name stored

module _ (lent : Section) (w : List ℕ) {p : our.Place} (e : p ≡ our_place (bone_of w).name) (at limit : ℕ)
    (room : at + length (name_in lent w) ≤ limit) where
  pub stored-none :
      (d : List ℕ) → p.address ≡ 0 → (at ≡ at + length (name_in lent w)) × StoredTo limit d at (name_in lent w) d
  unfolding ended_name
  stored-none d z =
      let n : name_in lent w ≡ [] = rw (name-none w e z) in
      let l : length (name_in lent w) ≡ 0 = rw n in
      (omega (arith, l), just_stored limit d at (name_in lent w) room (rw n))

  -- a name's bytes x, the first k of some
  module _ (z : p.address ≡ 0 → ⊥) (s : List ℕ) (k : ℕ) (stand : k ≤ length s)
      (q : or_none (part lent p.address p.size) ≡ take k s) where
    name-is : name_in lent w ≡ take k s ++ 0 ∷ []
    unfolding ended_name name_bytes
    name-is = rw (name-some w e z, q)

    length-name : length (name_in lent w) ≡ k + 1
    length-name = ap length name-is ∙ length-append (take k s) (0 ∷ []) ∙ rw (length-take-le k s stand)

    pub room-some : at + k + 1 ≤ limit
    room-some = omega (arith, room, length-name)

    pub stored_some :
        {d d' : List ℕ} {r : ℕ} → r ≡ at + k + 1 → StoredTo limit d at (take k s ++ 0 ∷ []) d'
        → (r ≡ at + length (name_in lent w)) × StoredTo limit d at (name_in lent w) d'
    stored_some f h = (omega (arith, f, length-name), rw name-is h)

-- ---- the loop that stores

-- the names of the rows from p on are left
pub record Naming (lent : Section) (rows : List (List ℕ)) (d₀ d : List ℕ) (p to : ℕ) : Type 0 where
  pub left : Left d₀ 0 (all_names (named lent (map bone_of rows))) d to (all_names (named lent (map bone_of (drop p rows))))

module _ {lent : Section} {rows : List (List ℕ)} {d₀ d : List ℕ} {p to : ℕ}
    (r : length d₀ ≡ length (all_names (named lent (map bone_of rows)))) (h : Naming lent rows d₀ d p to) where
  module _ (l : p < length rows) {row : List ℕ} (er : row ≡ get_or rows p []) where
    left-names :
        Left d₀ 0 (all_names (named lent (map bone_of rows))) d to
        (name_in lent row ++ all_names (named lent (map bone_of (drop (p + 1) rows))))
    unfolding all_names flat_map
    left-names = rw (rows-next rows p l er) at h.left

    pub naming-room : to + length (name_in lent row) ≤ length d
    naming-room =
        let b = all_names (named lent (map bone_of (drop (p + 1) rows))) in
        omega (arith, r, left-names.ends, left-names.same, length-append (name_in lent row) b)

    pub naming-more :
        {d' : List ℕ} {to' : ℕ} → to' ≡ to + length (name_in lent row) → StoredTo (length d) d to (name_in lent row) d'
        → Naming lent rows d₀ d' (p + 1) to'
    naming-more {d'} {to'} et e =
        let n : length d ≡ 0 + length (all_names (named lent (map bone_of rows))) = omega (arith, r, h.left.same) in
        record { left = rw et (left-past (name_in lent row) _ left-names (rw n at e)) }

  pub naming-all : length rows ≤ p → d ≡ all_names (named lent (map bone_of rows))
  unfolding all_names flat_map
  naming-all l =
      let z : drop p rows ≡ [] = drop_of_length-le rows l in
      left-all (rw z at h.left) ∙ sets_whole _ d₀ r
