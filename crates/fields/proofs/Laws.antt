-- The laws of fields in a slice, over any width of k bytes.
-- In order: a field by its bytes and by two halves, which the code cites; a field that stands and one that does not; the four laws
-- of a codec (`load_store`, `store-load`, `load_range`, `store_inj`) and `store_other`; the code's test. Lists of bytes are in
-- `Bytes`, the three widths of the format in `Widths`.
-- Assumes nothing.
use mathlib.Core.Path.{◌≡◌, refl, sym, ap, ◌∙◌}
use mathlib.Core.Logic.{◌⊎◌, inl, inr, ⊎_elim}
use mathlib.Core.Bool.{Bool, true, false}
use mathlib.Core.List.{List}
use Prim.Native.Nat.{ℕ, suc, ◌+◌, ◌-◌, ◌*◌, ◌^◌, ◌%◌, ◌≤◌, ◌<◌}
use native.Mathlib.Nat.{mod-eq_of_lt}
use native.Mathlib.Omega.{arith}
use borrow.Author.Tests.{le-leb, lt-leb, leb-true, leb-false}
use lib.Dec.{leb}
use lib.ListN.{length, get_or, take, drop, length-drop}
use lib.Seq.{sets, length-sets, drop-cons, drop-drop, take-add, get_or-drop, length-take-le}
use Rattle.format.specs.Field.{value_of, field, bytes, stands, or_zero, field_at, which_list, put_at}
use Rattle.format.proofs.Fields.{length-bytes, pow_pos, value_of-append, value_of_lt, value_of-bytes, bytes-value_of}
use borrow.Rule.Slice.PartMut.{put_mid}
use Rattle.fields.proofs.Stores.{put_mid-sets, part-sets-same, sets-part, part-sets-other}

-- ---- a field by its first byte, and by a lower and an upper one

pub field-suc : (k : ℕ) (s : List ℕ) (at : ℕ) → at < length s → field (suc k) s at ≡ get_or s at 0 + 256 * field k s (suc at)
unfolding value_of
field-suc k s at h = rw (drop-cons s at 0)

pub field-add :
    (j k : ℕ) (s : List ℕ) (at : ℕ) → at + j ≤ length s → field (j + k) s at ≡ field j s at + 256 ^ j * field k s (at + j)
field-add j k s at h =
    let l : length (take j (drop at s)) ≡ j = length-take-le j (drop at s) (simp length-drop (omega arith)) in
    simp (take-add, value_of-append, l, drop-drop)

-- ---- a field that stands, and one that does not

module _ (k : ℕ) (s : List ℕ) (at : ℕ) where
  pub field_at-stands : at + k ≤ length s → field_at k s at ≡ field k s at
  unfolding or_zero
  field_at-stands h = rw (le-leb (at + k) (length s) h)

  pub field_at_outside : length s < at + k → field_at k s at ≡ 0
  unfolding or_zero
  field_at_outside h = rw (lt-leb (at + k) (length s) h)

  pub put_at-stands : (v : ℕ) → at + k ≤ length s → put_at k s at v ≡ sets s at (bytes k v)
  unfolding which_list
  put_at-stands v h = rw (le-leb (at + k) (length s) h)

  pub put_at_outside : (v : ℕ) → length s < at + k → put_at k s at v ≡ s
  unfolding which_list
  put_at_outside v h = rw (lt-leb (at + k) (length s) h)

-- one of the two holds
by_test : (a b : ℕ) (t : Bool) → leb a b ≡ t → (a ≤ b) ⊎ (b < a)
by_test a b true e = inl (leb-true a b e)
by_test a b false e = inr (leb-false a b e)

pub le-or-lt : (a b : ℕ) → (a ≤ b) ⊎ (b < a)
le-or-lt a b = by_test a b (leb a b) refl

pub length-put_at : (k : ℕ) (s : List ℕ) (at v : ℕ) → length (put_at k s at v) ≡ length s
length-put_at k s at v =
    ⊎_elim
    (λ h. rw (put_at-stands k s at v h) (length-sets s at (bytes k v)))
    (λ h. ap length (put_at_outside k s at v h))
    (le-or-lt (at + k) (length s))

-- ---- the laws of a codec

-- a number put reads back, up to what k bytes hold
pub load_store : (k : ℕ) (s : List ℕ) (at v : ℕ) → at + k ≤ length s → field_at k (put_at k s at v) at ≡ v % 256 ^ k
load_store k s at v h =
    let part = simp length-bytes at (part-sets-same (bytes k v) s at (rw length-bytes h)) in
    rw (put_at-stands k s at v h)
    (field_at-stands k (sets s at (bytes k v)) at (rw length-sets h) ∙ ap value_of part ∙ value_of-bytes k v)

-- what is read and put back changes nothing
pub store-load : (k : ℕ) (s : List ℕ) (at : ℕ) → ((i : ℕ) → get_or s i 0 < 256) → put_at k s at (field_at k s at) ≡ s
store-load k s at h =
    ⊎_elim
    (λ (l : at + k ≤ length s).
    let same = bytes-value_of k (drop at s) (simp length-drop (omega arith)) (λ i. rw get_or-drop (h (at + i))) in
    rw (field_at-stands k s at l) (put_at-stands k s at (field k s at) l ∙ rw same (sets-part k s at l)))
    (λ l. put_at_outside k s at (field_at k s at) l)
    (le-or-lt (at + k) (length s))

-- what is read fits k bytes
pub load_range : (k : ℕ) (s : List ℕ) (at : ℕ) → ((i : ℕ) → get_or s i 0 < 256) → field_at k s at < 256 ^ k
load_range k s at h =
    ⊎_elim
    (λ l. rw (field_at-stands k s at l) (value_of_lt k (drop at s) (λ i. rw get_or-drop (h (at + i)))))
    (λ l. rw (field_at_outside k s at l) (pow_pos k))
    (le-or-lt (at + k) (length s))

-- two numbers that fit and leave the same slice are one
pub store_inj :
    (k : ℕ) (s : List ℕ) (at v w : ℕ) → at + k ≤ length s → v < 256 ^ k → w < 256 ^ k → put_at k s at v ≡ put_at k s at w → v ≡ w
store_inj k s at v w h hv hw e =
    sym (load_store k s at v h ∙ mod-eq_of_lt hv)
    ∙ ap (λ (x : List ℕ). field_at k x at) e
    ∙ load_store k s at w h ∙ mod-eq_of_lt hw

-- a field of j bytes that does not overlap the one put reads as before
pub store_other :
    (k : ℕ) (s : List ℕ) (at v j b : ℕ) → (at + k ≤ b) ⊎ (b + j ≤ at) → field_at j (put_at k s at v) b ≡ field_at j s b
store_other k s at v j b apart =
    ⊎_elim
    (λ (l : at + k ≤ length s).
    rw (put_at-stands k s at v l) (simp (length-sets, part-sets-other (bytes k v) s at j b (rw length-bytes apart))))
    (λ l. ap (λ (x : List ℕ). field_at j x b) (put_at_outside k s at v l))
    (le-or-lt (at + k) (length s))

-- ---- what the code finds, by the answer t of its test, where m and m' are the width as it reads it

module _ (k : ℕ) (s : List ℕ) (at : ℕ) {m : ℕ} (size : m ≡ k) {t : Bool} (test : t ≡ stands m s at) where
  pub room : t ≡ true → at + k ≤ length s
  room e = rw size at (leb-true (at + m) (length s) (sym test ∙ e))

  pub none : t ≡ false → length s < at + k
  none e = rw size at (leb-false (at + m) (length s) (sym test ∙ e))

  module _ {A : Type 0} (value : ℕ → A) where
    pub read_inside :
        {m' : ℕ} {r : A} → m' ≡ k → t ≡ true → r ≡ value (value_of (take (at + m' - at) (drop at s))) → r ≡ value (field_at k s at)
    read_inside {m'} e h f =
        let n : at + m' - at ≡ k = omega (arith, e) in
        f ∙ ap value (rw n (sym (field_at-stands k s at (room h))))

    pub read_outside : {r z : A} → t ≡ false → r ≡ z → z ≡ value 0 → r ≡ value (field_at k s at)
    read_outside h e f = e ∙ f ∙ ap value (sym (field_at_outside k s at (none h)))

  module _ (v : ℕ) where
    pub put_inside :
        {m' : ℕ} {x : List ℕ} → m' ≡ k → t ≡ true → x ≡ bytes k v → put_mid at (at + m' - at) s x ≡ put_at k s at v
    put_inside {m'} {x} e h f =
        let n : at + m' - at ≡ k = omega (arith, e) in
        rw n (put_mid-sets at k s x (rw f (length-bytes k v)) (room h) ∙ ap (sets s at) f ∙ sym (put_at-stands k s at v (room h)))

    pub put_outside : t ≡ false → s ≡ put_at k s at v
    put_outside h = sym (put_at_outside k s at v (none h))
