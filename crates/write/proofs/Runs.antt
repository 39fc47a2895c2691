-- Bytes stored one behind the other: what is left to store gives the whole (`Left` of `fields`). In order: a run that has room; stores that do not meet, and
-- those that overlap; a part written whole; bytes stored up to a limit; what is left; a part with its fill.
-- Assumes nothing.
use mathlib.Core.Path.{◌≡◌, refl, sym, ap, ◌∙◌}
use mathlib.Core.List.{List, [], ◌∷◌, ◌++◌, append-nil, append_assoc}
use Prim.Native.Nat.{ℕ, suc, ◌+◌, ◌-◌, ◌*◌, ◌≤◌, ◌<◌}
use native.Mathlib.Omega.{arith}
use lib.ListN.{length, take, drop, set, replicate, length-append, length-drop, take-append-drop, drop_of_length-le}
use lib.Seq.{take_all, sets, length-sets, set-set, set_comm, take-take, length-take-le, drop-drop}
use borrow.Rule.Slice.PartMut.{put_mid}
use Rattle.std.proofs.lemmas.List.Edits.{sets-eq}
use borrow.Author.Tests.{le-leb}
use Rattle.format.specs.Field.{which_list, word_bytes}
use Rattle.fields.specs.Runs.{stored, copied}
use Rattle.format.specs.Layout.{fill, pad16}
use Rattle.fields.proofs.Stores.{sets-append}
use Rattle.fields.proofs.RunLaws.{Left, copied-stands}
use Rattle.write.specs.Names.{StoredTo}

-- ---- a run of numbers that has room

pub run-stands :
    {A : Type 0} (numbers : List A → List ℕ) (k : ℕ) (w : List A) (d : List ℕ) (at : ℕ) → at + k * length w ≤ length d
    → stored numbers k w d at ≡ sets d at (word_bytes k (numbers w))
unfolding which_list
run-stands numbers k w d at h = rw (le-leb (at + k * length w) (length d) h) refl

-- all bytes of a list
pub bytes-stand : (s d : List ℕ) (at : ℕ) → at + length s ≤ length d → copied (length s) s 0 d at ≡ sets d at s
bytes-stand s d at h = copied-stands (length s) s 0 d at (omega arith) h ∙ ap (sets d at) (take_all (length s) s (omega arith))

-- ---- stores that do not meet

set_past : (b s : List ℕ) (i j x : ℕ) → i < j → sets (set s i x) j b ≡ set (sets s j b) i x
set_past [] s i j x h = refl
set_past (y ∷ b) s i j x h =
    ap (λ (l : List ℕ). sets l (suc j) b) (set_comm s i j x y (λ e. omega (arith, e)))
    ∙ set_past b (set s j y) i (suc j) x (omega arith)

-- a run of stores before another may come after it
pub sets_swap : (a b s : List ℕ) (i j : ℕ) → i + length a ≤ j → sets (sets s i a) j b ≡ sets (sets s j b) i a
sets_swap [] b s i j h = refl
sets_swap (x ∷ a) b s i j h =
    sets_swap a b (set s i x) (suc i) j (omega arith)
    ∙ ap (λ (l : List ℕ). sets l (suc i) a) (set_past b s i j x (omega arith))

-- ---- stores that overlap

-- a run of stores over another: of this only what reaches farther is left
sets-onto : (a b s : List ℕ) (i : ℕ) → sets (sets s i a) i b ≡ sets s i (b ++ drop (length b) a)
sets-onto a [] s i = refl
sets-onto [] (y ∷ b) s i = ap (λ (l : List ℕ). sets s i (y ∷ l)) (sym (append-nil b))
sets-onto (x ∷ a) (y ∷ b) s i =
    ap (λ (l : List ℕ). sets l (suc i) b)
    (sym (set_past a (set s i x) i (suc i) y (omega arith)) ∙ ap (λ (l : List ℕ). sets l (suc i) a) (set-set s i x y))
    ∙ sets-onto a b (set s i y) (suc i)

sets_over : (a b s : List ℕ) (i : ℕ) → length a ≤ length b → sets (sets s i a) i b ≡ sets s i b
sets_over a b s i h =
    let e : b ++ drop (length b) a ≡ b = rw (drop_of_length-le a h) (append-nil b) in
    sets-onto a b s i ∙ ap (sets s i) e

-- ---- a part of a buffer, written whole

-- the k bytes from `at` on became x
pub part-stored :
    (d : List ℕ) (at k : ℕ) {y : List ℕ} (x : List ℕ) → y ≡ x → k ≡ length x → at + k ≤ length d
    → put_mid at (at + k - at) d y ≡ sets d at x
part-stored d at k x e f h =
    let m : at + k - at ≡ length x = omega (arith, f) in
    let n : at + length x ≤ length d = omega (arith, f) in
    rw (e, m) (sym (sets-eq x d at n ∙ simp (append_assoc, drop-drop)))

-- all of them
pub sets_whole : (x d : List ℕ) → length d ≡ length x → sets d 0 x ≡ x
sets_whole x d e =
    let n : 0 + length x ≤ length d = omega (arith, e) in
    let z : drop (0 + length x) d ≡ [] = drop_of_length-le d (omega (arith, e)) in
    sets-eq x d 0 n ∙ rw z (append-nil x)

-- ---- bytes stored, and perhaps others behind them, up to a limit

module _ (limit : ℕ) (d : List ℕ) (at : ℕ) where
  pub just_stored : (x : List ℕ) {d' : List ℕ} → at + length x ≤ limit → d' ≡ sets d at x → StoredTo limit d at x d'
  just_stored x r e = record { more = []; room = omega (arith, r); is = e ∙ ap (sets d at) (sym (append-nil x)) }

  module _ (s : List ℕ) (k : ℕ) (m : k ≤ length s) where
    -- more bytes than the k
    pub more-stored :
        (j : ℕ) {d' : List ℕ} → k ≤ j → j ≤ length s → at + j ≤ limit → d' ≡ sets d at (take j s) → StoredTo limit d at (take k s) d'
    more-stored j h n r e =
        let w = take j s in
        let t : take k w ≡ take k s = take-take k j s h in
        let c : w ≡ take k s ++ drop k w = rw (← t) (sym (take-append-drop k w)) in
        record {
          more = drop k w;
          room = omega (arith, r, h, length-take-le k s m, length-drop k w, length-take-le j s n);
          is = e ∙ ap (sets d at) c;
        }

    -- a zero behind the k bytes
    pub ended_stored :
        {d' : List ℕ} → at + k + 1 ≤ limit → StoredTo limit d at (take k s) d'
        → StoredTo limit d at (take k s ++ 0 ∷ []) (set d' (at + k) 0)
    ended_stored {d'} r h =
        let x = take k s in
        let l : length x ≡ k = length-take-le k s m in
        let y : List ℕ = 0 ∷ [] in
        let e : set d' (at + k) 0 ≡ sets (sets (sets d at x) (at + length x) h.more) (at + length x) y =
        rw (h.is, sets-append x h.more d at, l) in
        record {
          more = drop 1 h.more;
          room = omega (arith, r, l, h.room, length-append x y, length-drop 1 h.more);
          is =
              e ∙ sets-onto h.more y (sets d at x) (at + length x) ∙ sym (sets-append x (y ++ drop 1 h.more) d at)
              ∙ ap (sets d at) (sym (append_assoc x y (drop 1 h.more)));
        }

-- ---- what is left

-- the first part of the rest stored, where others of the rest may have been stored over
pub left-past :
    {d₀ whole d d' : List ℕ} {at to : ℕ} (x rest : List ℕ) → Left d₀ at whole d to (x ++ rest)
    → StoredTo (at + length whole) d to x d' → Left d₀ at whole d' (to + length x) rest
left-past {d₀} {whole} {d} {d'} {at} {to} x rest h e =
    let n = length-append x rest in
    let m : length e.more ≤ length rest = omega (arith, e.room, h.ends, n) in
    record {
      same = ap length e.is ∙ length-sets d to (x ++ e.more) ∙ h.same;
      is =
          ap (λ (l : List ℕ). sets l (to + length x) rest) (e.is ∙ sets-append x e.more d to)
          ∙ sets_over e.more rest (sets d to x) (to + length x) m ∙ sym (sets-append x rest d to) ∙ h.is;
      ends = omega (arith, h.ends, n);
    }

-- ---- a part with its fill

pub padded :
    (d₀ : List ℕ) {d d' : List ℕ} (at : ℕ) {m : ℕ} (x : List ℕ) → length x ≡ m → d ≡ sets d₀ at x → d' ≡ sets d (at + m)
    (replicate (fill m) 0)
    → d' ≡ sets d₀ at (pad16 x)
unfolding pad16
padded d₀ {d} {d'} at {m} x e f g =
    g ∙ rw (f, ← e) (sym (sets-append x (replicate (fill (length x)) 0) d₀ at))

pub pad16-none : (x : List ℕ) → fill (length x) ≡ 0 → pad16 x ≡ x
unfolding pad16
pad16-none x e = rw e (append-nil x)

-- the same with the fill as the code computes it
pub padded_by :
    (d₀ : List ℕ) {d d' : List ℕ} (at : ℕ) {m z : ℕ} (x : List ℕ) → length x ≡ m → z ≡ fill m → d ≡ sets d₀ at x
    → d' ≡ sets d (at + m) (replicate z 0) → d' ≡ sets d₀ at (pad16 x)
padded_by d₀ at x e f g h = padded d₀ at x e g (rw f at h)
