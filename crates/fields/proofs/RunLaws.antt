-- Runs of numbers as the loops store them: into a table, from bytes or from another table; into bytes; where a run stands, what is stored.
-- Lists of words and of their bytes are in `WordLists`. Assumes nothing.
use mathlib.Core.Path.{◌≡◌, refl, sym, ap, ◌∙◌}
use mathlib.Core.Bool.{Bool, true, false, ◌&&◌}
use mathlib.Core.List.{List, [], ◌∷◌, ◌++◌, append-nil, map}
use Prim.Native.Nat.{ℕ, zero, suc, ◌+◌, ◌-◌, ◌*◌, ◌≤◌, ◌<◌}
use native.Mathlib.Nat.{zero-add, le_refl, mul-zero, mul-suc, mul-sub, mul-le-mul_left}
use native.Mathlib.Numerals.{add-one}
use native.Mathlib.Omega.{arith}
use borrow.Author.Tests.{le-leb, leb-true}
use borrow.Rule.Slice.PartMut.{put_mid}
use lib.ListN.{length, length-map, get_or, take, drop, set, length-append, drop_of_length-le, length-drop}
use lib.Seq.{take-add, take_all, drop-cons, drop-drop, sets, sets-eq, length-sets, length-take-le, take_at, drop_at}
use Rattle.std.proofs.lemmas.List.{get_or-map, take-map, drop-map}
use Rattle.format.specs.Field.{field, stands, value_of, which_list, words, bytes, word_bytes}
use Rattle.format.proofs.Fields.{length-bytes}
use Rattle.fields.specs.Runs.{loaded, stored, copied}
use Rattle.fields.proofs.Stores.{put_mid-sets, sets-append}
use Rattle.fields.proofs.WordLists.{length-words, length-word_bytes, get_or-words, words-part, words_take}

-- ---- words into a table

-- the first i of the n words w stand in the table from `to` on
pub record Put {A : Type 0} (w : List A) (n : ℕ) (t₀ : List A) (to : ℕ) (t : List A) (i : ℕ) : Type 0 where
  pub size : length w ≡ n
  pub count : i ≤ n
  pub same : length t ≡ length t₀
  pub is : t ≡ sets t₀ to (take i w)

pub put-none : {A : Type 0} (w : List A) {n : ℕ} (t : List A) (to : ℕ) → length w ≡ n → Put w n t to t 0
put-none w t to e = record { size = e; count = omega arith; same = refl; is = refl }

module _ {A : Type 0} {w : List A} {n : ℕ} {t₀ : List A} {to : ℕ} {t : List A} {i : ℕ} (p : Put w n t₀ to t i) where
  -- the next k
  pub put_run : (k : ℕ) {t' : List A} → i + k ≤ n → t' ≡ sets t (to + i) (take k (drop i w)) → Put w n t₀ to t' (i + k)
  put_run k h e =
      let l : length (take i w) ≡ i = length-take-le i w (omega (arith, p.size)) in
      record {
        size = p.size;
        count = h;
        same = rw e (length-sets t (to + i) (take k (drop i w)) ∙ p.same);
        is = e ∙ simp (p.is, take-add i k w) (sym (sets-append (take i w) (take k (drop i w)) t₀ to ∙ simp l));
      }

  -- the next one
  pub put-one : (d : A) {v : A} → i < n → v ≡ get_or w i d → Put w n t₀ to (set t (to + i) v) (i + 1)
  put-one d {v} h e =
      let j : i < length w = omega (arith, p.size) in
      put_run 1 (omega arith) (rw (e, drop-cons w i d j) refl)

  pub put_all : n ≤ i → t ≡ sets t₀ to w
  put_all h = let all : take i w ≡ w = take_all i w (omega (arith, p.size)) in rw all at p.is

-- the next one, from the table's start on
pub put-next :
    {A : Type 0} {w : List A} {n : ℕ} {t₀ t : List A} {i : ℕ} → Put w n t₀ 0 t i → (d : A) {v : A} → i < n → v ≡ get_or w i d
    → Put w n t₀ 0 (set t i v) (i + 1)
put-next {t = t} {i} p d {v} h e = let z : 0 + i ≡ i = omega arith in rw z at (put-one p d h e)

-- the next number
pub put-more :
    {w : List ℕ} {n : ℕ} {t₀ : List ℕ} {to : ℕ} {t : List ℕ} {i : ℕ} → Put w n t₀ to t i → {v : ℕ} → i < n → v ≡ get_or w i 0
    → Put w n t₀ to (set t (to + i) v) (i + 1)
put-more p h e = put-one p 0 h e

-- ---- words from a table

-- of n words from a place on, the i-th, and how many they are
module _ (s : List ℕ) (from n : ℕ) where
  pub length_part : from + n ≤ length s → length (take n (drop from s)) ≡ n
  length_part h = length-take-le n (drop from s) (simp length-drop (omega arith))

-- ---- what is left to store in bytes

-- `rest` stored from `to` on makes the buffer d what `whole` stored from `at` on makes of d₀
pub record Left (d₀ : List ℕ) (at : ℕ) (whole d : List ℕ) (to : ℕ) (rest : List ℕ) : Type 0 where
  pub same : length d ≡ length d₀
  pub is : sets d to rest ≡ sets d₀ at whole
  pub ends : to + length rest ≡ at + length whole

pub left-none : (d : List ℕ) (at : ℕ) (whole : List ℕ) → Left d at whole d at whole
left-none d at whole = record { same = refl; is = refl; ends = refl }

pub left-all : {d₀ whole d : List ℕ} {at to : ℕ} → Left d₀ at whole d to [] → d ≡ sets d₀ at whole
left-all h = h.is

-- the first part of the rest stored
pub left-more :
    {d₀ whole d d' : List ℕ} {at to : ℕ} (x rest : List ℕ) → Left d₀ at whole d to (x ++ rest) → d' ≡ sets d to x
    → Left d₀ at whole d' (to + length x) rest
left-more {d₀} {whole} {d} {d'} {at} {to} x rest h e =
    record {
      same = ap length e ∙ length-sets d to x ∙ h.same;
      is = ap (λ (l : List ℕ). sets l (to + length x) rest) e ∙ sym (sets-append x rest d to) ∙ h.is;
      ends = omega (arith, h.ends, length-append x rest);
    }

-- ---- a list that takes the place of another of the same length

pub sets-whole : {A : Type 0} (w t : List A) → length w ≡ length t → sets t 0 w ≡ w
sets-whole w t e = sets-eq w t 0 (omega (arith, e)) ∙ let none : drop (0 + length w) t ≡ [] = drop_of_length-le t (omega (arith, e)) in simp (none, append-nil)

module _ {A : Type 0} {w : List A} {n : ℕ} {t₀ : List A} {t : List A} {i : ℕ} (p : Put w n t₀ 0 t i) where
  -- the next part, written over
  pub put-part :
      (k a : ℕ) {j : ℕ} {x : List A} → a ≡ i → i + k ≡ j → j ≤ n → length t₀ ≡ n → x ≡ take k (drop i w)
      → Put w n t₀ 0 (put_mid a k t x) j
  put-part k a {j} {x} ea ej h l e =
      let m : length x ≡ k = rw e (length-take-le k (drop i w) (simp length-drop (omega (arith, p.size)))) in
      rw (ea, ← ej) (put_run p k (rw ej h) (put_mid-sets i k t x m (omega (arith, p.same)) ∙ rw zero-add (ap (sets t i) e)))

  pub put_whole : n ≤ i → length t₀ ≡ n → t ≡ w
  put_whole h l = put_all p h ∙ sets-whole w t₀ (p.size ∙ sym l)

-- ---- the values of words, and the bytes of values

module _ {A B : Type 0} {f : A → B} {fs : List A → List B} (each : (l : List A) → map f l ≡ fs l) where
  pub length-each : (l : List A) → length (fs l) ≡ length l
  length-each l = rw (← each l) (simp length-map)

  pub get_or-each : (l : List A) (i : ℕ) (d : A) (e : B) → i < length l → get_or (fs l) i e ≡ f (get_or l i d)
  get_or-each l i d e h = rw (← each l) (get_or-map f l i d e h)

  pub part-each : (l : List A) (i n : ℕ) → take n (drop i (fs l)) ≡ fs (take n (drop i l))
  part-each l i n = rw (← each l, ← each (take n (drop i l))) (simp (drop-map, take-map))

pub part-word_bytes : (k : ℕ) (ws : List ℕ) (i : ℕ) → i < length ws → take k (drop (k * i) (word_bytes k ws)) ≡ bytes k (get_or ws i 0)
unfolding word_bytes
part-word_bytes k [] i h = absurd (omega arith)
part-word_bytes k (w ∷ ws) zero h = simp mul-zero (take_at (bytes k w) (word_bytes k ws) k (length-bytes k w))
part-word_bytes k (w ∷ ws) (suc i) h =
    let e : k * suc i ≡ k + k * i = simp mul-suc (omega arith) in
    let behind : drop (k + k * i) (bytes k w ++ word_bytes k ws) ≡ drop (k * i) (word_bytes k ws) =
    sym (drop-drop (k * i) k (bytes k w ++ word_bytes k ws))
    ∙ ap (drop (k * i)) (drop_at (bytes k w) (word_bytes k ws) k (length-bytes k w)) in
    rw (e, behind) (part-word_bytes k ws i (omega arith))

-- ---- the code's loops over a width of k bytes, where m and m' are the width as it reads it

size-of-one : (k i : ℕ) → k * (i + 1) - k * i ≡ k
size-of-one k i = simp (add-one, mul-suc) (omega arith)

module _ {A : Type 0} {value : ℕ → A} {values : List ℕ → List A} (each : (l : List ℕ) → map value l ≡ values l) (k n : ℕ) (s : List ℕ) where
  pub values-none : (t : List A) → length t ≡ n → Put (values (words k n s)) n t 0 t 0
  values-none t e = put-none (values (words k n s)) t 0 (length-each each (words k n s) ∙ length-words k n s)

  module _ {t₀ t : List A} {i : ℕ} (p : Put (values (words k n s)) n t₀ 0 t i) where
    -- the next number
    pub values-more :
        {m m' : ℕ} {v : A} → m ≡ k → m' ≡ k → i < n → v ≡ value (value_of (take (m' * (i + 1) - m * i) (drop (m * i) s)))
        → Put (values (words k n s)) n t₀ 0 (set t i v) (i + 1)
    values-more {m} {m'} {v} e e' h f =
        let at : v ≡ value (field k s (k * i)) = f ∙ rw (e, e', size-of-one k i) refl in
        let of : get_or (values (words k n s)) i v ≡ value (field k s (k * i)) =
        get_or-each each (words k n s) i 0 v (rw length-words h) ∙ ap value (get_or-words k n s i h) in
        rw zero-add at (put-one p v h (at ∙ sym of))

    -- the next b numbers, written over
    pub values-part :
        (b : ℕ) {j a a' : ℕ} {x : List A} → a ≡ i → a' ≡ b → i + b ≡ j → j ≤ n → length t₀ ≡ n
        → x ≡ values (words k b (take (k * b) (drop (k * i) s)))
        → Put (values (words k n s)) n t₀ 0 (put_mid a a' t x) j
    values-part b {j} {a} {a'} {x} ea eb ej h l f =
        let of : x ≡ take b (drop i (values (words k n s))) =
        f ∙ ap values (words_take k b (drop (k * i) s) ∙ sym (words-part k n b i s (omega (arith, ej))))
        ∙ sym (part-each each (words k n s) i b) in
        rw eb (put-part p b a ea ej h l of)

    -- all that are left, written over
    pub values-rest :
        {m a : ℕ} {x : List A} → m ≡ k → a ≡ i → length s ≡ k * n → length t₀ ≡ n
        → x ≡ values (words k (length (take (length t - a) (drop a t))) (take (length s - m * a) (drop (m * a) s)))
        → put_mid a (length t - a) t x ≡ values (words k n s)
    values-rest {m} {a} {x} e ea es l f =
        let h : length t ≡ n = p.same ∙ l in
        let c : i + (n - i) ≡ n = omega (arith, p.count) in
        let b : length t - i ≡ n - i = omega (arith, h) in
        let b' : length t - a ≡ n - i = omega (arith, h, ea) in
        let r : length (take (n - i) (drop i t)) ≡ n - i = length-take-le (n - i) (drop i t) (simp length-drop (omega (arith, h))) in
        let d : length s - k * i ≡ k * (n - i) = rw es (sym (mul-sub k n i)) in
        put_whole (values-part (n - i) ea b' c (le_refl n) l (f ∙ rw (e, ea, b, r, d) refl)) (le_refl n) l

-- what is left behind the first a of n numbers, in bytes and in the table
pub rest-sizes :
    {A : Type 0} (k n a : ℕ) (s : List ℕ) (t : List A) {m : ℕ} → m ≡ k → length s ≡ k * n → length t ≡ n → a ≤ n
    → length (take (length s - m * a) (drop (m * a) s)) ≡ k * length (take (length t - a) (drop a t))
rest-sizes k n a s t {m} e es et h =
    let le : k * a ≤ k * n = mul-le-mul_left k h in
    let sub : k * (n - a) ≡ k * n - k * a = mul-sub k n a in
    rw (
      e,
      length-take-le (length s - k * a) (drop (k * a) s) (simp length-drop (omega arith)),
      length-take-le (length t - a) (drop a t) (simp length-drop (omega arith)),
      es,
      et,
    ) (sym sub)

module _ {A : Type 0} {number : A → ℕ} {numbers : List A → List ℕ} (each : (l : List A) → map number l ≡ numbers l) (k : ℕ) (w : List A) where
  pub bytes-none : (d : List ℕ) → Put (word_bytes k (numbers w)) (k * length w) d 0 d (k * 0)
  bytes-none d =
      rw (mul-zero k) (put-none (word_bytes k (numbers w)) d 0 (length-word_bytes k (numbers w) ∙ ap (λ x. k * x) (length-each each w)))

  -- the bytes of the next number
  pub bytes-more :
      {d₀ d : List ℕ} {i : ℕ} → Put (word_bytes k (numbers w)) (k * length w) d₀ 0 d (k * i) → (v : A) {m m' : ℕ} {x : List ℕ}
      → m ≡ k → m' ≡ k → length d₀ ≡ k * length w → i < length w → v ≡ get_or w i v → x ≡ bytes k (number v)
      → Put (word_bytes k (numbers w)) (k * length w) d₀ 0 (put_mid (m * i) (m' * (i + 1) - m * i) d x) (k * (i + 1))
  bytes-more {d₀} {d} {i} p v {m} {m'} {x} e e' l h is f =
      let of : get_or (numbers w) i 0 ≡ number v = get_or-each each w i v 0 h ∙ ap number (sym is) in
      let part : x ≡ take k (drop (k * i) (word_bytes k (numbers w))) =
      f ∙ ap (bytes k) (sym of) ∙ sym (part-word_bytes k (numbers w) i (rw (length-each each w) h)) in
      let step : k * i + k ≡ k * (i + 1) = simp (add-one, mul-suc) (omega arith) in
      let high : k * (i + 1) ≤ k * length w = mul-le-mul_left k (omega arith) in
      rw (e, e', size-of-one k i) (put-part p k (k * i) refl step high l part)

-- ---- whether a run stands

module _ {A : Type 0} (x t : List A) where
  pub off : (b : Bool) → b ≡ false → t ≡ which_list b x t
  unfolding which_list
  off b e = rw e refl

  pub off-first : (p q : Bool) → p ≡ false → t ≡ which_list (p && q) x t
  unfolding which_list
  off-first p q e = rw e refl

  pub off-second : (p q : Bool) → p ≡ true → q ≡ false → t ≡ which_list (p && q) x t
  unfolding which_list
  off-second p q e f = rw (e, f) refl

  pub on-both :
      (w : List A) (n to : ℕ) (p q : Bool) → p ≡ true → q ≡ true → length w ≡ n → to + n ≤ length t → x ≡ w
      → put_mid to (to + n - to) t x ≡ which_list (p && q) (sets t to w) t
  unfolding which_list
  on-both w n to p q e f l h is =
      let m : to + n - to ≡ n = omega arith in
      rw (e, f, m) (put_mid-sets to n t x (rw is l) h ∙ ap (sets t to) is)

-- the test, where m is the width as the code reads it
pub stands-as : (n : ℕ) {k m : ℕ} (s : List ℕ) (at : ℕ) {b : Bool} → m ≡ k → b ≡ stands (m * n) s at → stands (k * n) s at ≡ b
stands-as n s at e f = sym (rw e at f)

-- a part as the code cuts it
part-is : {A : Type 0} (n : ℕ) (s : List A) (from : ℕ) → take (from + n - from) (drop from s) ≡ take n (drop from s)
part-is n s from = let e : from + n - from ≡ n = omega arith in rw e refl

pub copied-is :
    {A : Type 0} (n : ℕ) (s : List A) (from : ℕ) (t : List A) (to : ℕ) {x : List A} → stands n s from ≡ true → stands n t to ≡ true
    → x ≡ take (from + n - from) (drop from s) → put_mid to (to + n - to) t x ≡ copied n s from t to
copied-is n s from t to {x} e f is =
    let l : from + n ≤ length s = leb-true (from + n) (length s) e in
    on-both x t (take n (drop from s)) n to (stands n s from) (stands n t to) e f
    (length-take-le n (drop from s) (simp length-drop (omega arith))) (leb-true (to + n) (length t) f) (is ∙ part-is n s from)

module _ {A : Type 0} {value : ℕ → A} {values : List ℕ → List A} (each : (l : List ℕ) → map value l ≡ values l) where
  pub loaded-is :
      (k n : ℕ) (s : List ℕ) (from : ℕ) (t : List A) (to : ℕ) {m : ℕ} {x : List A} →
      stands (k * n) s from ≡ true → stands n t to ≡ true → m ≡ k →
      x ≡ values (words k (length (take (to + n - to) (drop to t))) (take (from + m * n - from) (drop from s)))
      → put_mid to (to + n - to) t x ≡ loaded values k n s from t to
  loaded-is k n s from t to {m} {x} e f em is =
      let h : to + n ≤ length t = leb-true (to + n) (length t) f in
      let l : length (take (to + n - to) (drop to t)) ≡ n =
      rw (part-is n t to) (length-take-le n (drop to t) (simp length-drop (omega arith))) in
      let v : x ≡ values (words k n (drop from s)) =
      is ∙ rw (l, em, part-is (k * n) s from) (ap values (words_take k n (drop from s))) in
      on-both x t (values (words k n (drop from s))) n to (stands (k * n) s from) (stands n t to) e f
      (length-each each (words k n (drop from s)) ∙ length-words k n (drop from s)) h v

module _ {A : Type 0} {number : A → ℕ} {numbers : List A → List ℕ} (each : (l : List A) → map number l ≡ numbers l) where
  pub stored-is :
      (k : ℕ) (w : List A) (d : List ℕ) (at : ℕ) {m : ℕ} {x : List ℕ} → stands (k * length w) d at ≡ true → m ≡ k
      → x ≡ word_bytes k (numbers w) → put_mid at (at + m * length w - at) d x ≡ stored numbers k w d at
  unfolding which_list
  stored-is k w d at {m} {x} e em is =
      let n : at + k * length w - at ≡ k * length w = omega arith in
      let l : length x ≡ k * length w = rw is (length-word_bytes k (numbers w) ∙ ap (λ c. k * c) (length-each each w)) in
      rw (e, em, n) (put_mid-sets at (k * length w) d x l (leb-true (at + k * length w) (length d) e) ∙ ap (sets d at) is)

-- ---- runs that stand, for the callers

pub loaded-stands :
    (k n : ℕ) (s : List ℕ) (from : ℕ) (t : List ℕ) (to : ℕ) → from + k * n ≤ length s → to + n ≤ length t →
    loaded (λ l. l) k n s from t to ≡ sets t to (words k n (drop from s))
unfolding which_list
loaded-stands k n s from t to h l = rw (le-leb (from + k * n) (length s) h, le-leb (to + n) (length t) l) refl

pub stored-stands :
    (k : ℕ) (w d : List ℕ) (at : ℕ) → at + k * length w ≤ length d → stored (λ l. l) k w d at ≡ sets d at (word_bytes k w)
unfolding which_list
stored-stands k w d at h = rw (le-leb (at + k * length w) (length d) h) refl

-- the words of the code's part of a table
pub part-stored :
    (k n : ℕ) (t : List ℕ) (from : ℕ) (d : List ℕ) (at : ℕ) → from + n ≤ length t → at + k * n ≤ length d →
    stored (λ l. l) k (take (from + n - from) (drop from t)) d at ≡ sets d at (word_bytes k (take n (drop from t)))
part-stored k n t from d at h l =
    let e : from + n - from ≡ n = omega arith in
    rw e (stored-stands k (take n (drop from t)) d at (rw (length_part t from n h) l))

pub copied-stands :
    (n : ℕ) (s : List ℕ) (from : ℕ) (t : List ℕ) (to : ℕ) → from + n ≤ length s → to + n ≤ length t →
    copied n s from t to ≡ sets t to (take n (drop from s))
unfolding which_list
copied-stands n s from t to h l = rw (le-leb (from + n) (length s) h, le-leb (to + n) (length t) l) refl
