-- Records as words: items of four bytes, of two in pairs, and of eight below 2 ^ 32, are the bytes of a list of words. In order:
-- items and their words; the records of the format. Assumes nothing.
use mathlib.Core.Path.{◌≡◌, refl, sym, ap, ◌∙◌}
use mathlib.Core.List.{List, [], ◌∷◌, ◌++◌, append_assoc, append-nil}
use Prim.Native.Nat.{ℕ, zero, suc, ◌+◌, ◌*◌, ◌/◌, ◌%◌, ◌≤◌, ◌<◌}
use native.Mathlib.Nat.{add_assoc}
use native.Mathlib.Omega.{arith}
use lib.Seq.{sets}
use Rattle.format.specs.Field.{bytes, word_bytes, Item, ◌⊳◌, lay}
use Rattle.format.specs.Bone.{Words4}
use Rattle.format.specs.Rows.{bone_of}
use Rattle.format.specs.Layout as Layout
use Rattle.format.specs.Layout.{base, pointer, bone_items, skeleton_items}
use Rattle.format.proofs.Fields.{bytes-add, bytes-mod}
use Rattle.write.specs.Placing.{SkeletonCounts, skeleton_words}
use Rattle.format.specs.Section.{window}
use Rattle.write.specs.Linked.{entry_items}
use Rattle.write.specs.Records.{bone_record}

-- ---- items and their words

-- two numbers of 16 bits are the word of both
halves-bytes : (a b : ℕ) → a < 65536 → bytes 4 (a + 65536 * b) ≡ bytes 2 a ++ bytes 2 b
halves-bytes a b h =
    let low : (a + 65536 * b) % 65536 ≡ a = omega arith in
    let high : (a + 65536 * b) / 65536 ≡ b = omega arith in
    bytes-add 2 2 (a + 65536 * b) ∙ ap (λ (l : List ℕ). l ++ bytes 2 ((a + 65536 * b) / 65536)) (sym (bytes-mod 2 (a + 65536 *
    b)))
    ∙ simp (low, high)

-- the two halves of a word
word_bytes_lem : (w : ℕ) → bytes 4 w ≡ bytes 2 (w % 65536) ++ bytes 2 (w / 65536)
word_bytes_lem w = bytes-add 2 2 w ∙ ap (λ (l : List ℕ). l ++ bytes 2 (w / 65536)) (sym (bytes-mod 2 w))

-- a number below 2 ^ 32 has four zero bytes at the end of eight
long_bytes : (v : ℕ) → v < 4294967296 → bytes 8 v ≡ bytes 4 v ++ bytes 4 0
long_bytes v h =
    let high : v / 4294967296 ≡ 0 = omega arith in
    bytes-add 4 4 v ∙ simp high

-- the items are the bytes of the words
pub data Wordly : List Item → List ℕ → Type 0 where
  ended : Wordly [] []
  word : {v : ℕ} {is : List Item} {vs : List ℕ} → Wordly is vs → Wordly (4 ⊳ v ∷ is) (v ∷ vs)
  halves : {a b : ℕ} {is : List Item} {vs : List ℕ} → a < 65536 → Wordly is vs → Wordly (2 ⊳ a ∷ 2 ⊳ b ∷ is) ((a + 65536 * b) ∷
      vs)
  both : {w : ℕ} {is : List Item} {vs : List ℕ} → Wordly is vs → Wordly (2 ⊳ (w % 65536) ∷ 2 ⊳ (w / 65536) ∷ is) (w ∷ vs)
  lower : {a : ℕ} {is : List Item} {vs : List ℕ} → a < 65536 → Wordly is vs → Wordly (2 ⊳ a ∷ 2 ⊳ 0 ∷ is) (a ∷ vs)
  turned : {a b : ℕ} {is : List Item} {vs : List ℕ} → a < 65536 → Wordly is vs → Wordly (2 ⊳ a ∷ 2 ⊳ b ∷ is) ((a + b * 65536) ∷
      vs)
  long : {v : ℕ} {is : List Item} {vs : List ℕ} → v < 4294967296 → Wordly is vs → Wordly (8 ⊳ v ∷ is) (v ∷ 0 ∷ vs)

pub wordly : {is : List Item} {vs : List ℕ} → Wordly is vs → word_bytes 4 vs ≡ lay is
unfolding word_bytes lay
wordly ended = refl
wordly (word {v} r) = ap (λ (l : List ℕ). bytes 4 v ++ l) (wordly r)
wordly (halves {a} {b} h r) = simp (wordly r, halves-bytes a b h, append_assoc)
wordly (both {w} r) = simp (wordly r, word_bytes_lem w, append_assoc)
wordly (lower {a} h r) =
    let e : a + 65536 * 0 ≡ a = omega arith in
    simp (wordly r, rw e at (halves-bytes a 0 h), append_assoc)
wordly (turned {a} {b} h r) =
    let e : a + 65536 * b ≡ a + b * 65536 = omega arith in
    simp (wordly r, rw e at (halves-bytes a b h), append_assoc)
wordly (long {v} h r) = simp (wordly r, long_bytes v h, append_assoc)

-- ---- the records

pointer_lt : (at n : ℕ) → at ≤ window + 16 → pointer (base + at) n < 4294967296
unfolding pointer
pointer_lt at zero h = omega arith
pointer_lt at (suc n) h = omega arith

pub skeleton_words_lem :
    (at : Layout.Starts) (free : Words4) (n c k : ℕ) → SkeletonCounts at n c k
    → word_bytes 4 (skeleton_words at free n c k) ≡ lay (skeleton_items at free n c k)
unfolding skeleton_words skeleton_items
skeleton_words_lem at free n c k h =
    let z : 0 < 4294967296 = omega arith in
    rw (← add_assoc base at.bones 16)
    (wordly
    (word
    (word
    (long z
    (long (pointer_lt at.buckets c (omega (arith, h.buckets)))
    (halves (omega (arith, h.buckets_few))
    (word
    (long (rw (add_assoc base at.bones 16) (pointer_lt (at.bones + 16) n (omega (arith, h.bones))))
    (long (pointer_lt at.inverse n (omega (arith, h.inverse)))
    (long (pointer_lt at.local n (omega (arith, h.local)))
    (long (pointer_lt at.parents n (omega (arith, h.parents)))
    (long (pointer_lt at.children k (omega (arith, h.children)))
    (long z
    (word
    (word
    (word
    (halves (omega arith)
    (lower (omega (arith, h.kids_few))
    (word
    (long z ended))))))))))))))))))))

pub stored-skeleton :
    (d : List ℕ) {d' w : List ℕ} (at : Layout.Starts) (free : Words4) (n c k : ℕ) → SkeletonCounts at n c k
    → w ≡ skeleton_words at free n c k → d' ≡ sets d 0 (word_bytes 4 w) → d' ≡ sets d 0 (lay (skeleton_items at free n c k))
stored-skeleton d at free n c k h e f = rw (skeleton_words_lem at free n c k h) at (rw e at f)

pub bone_words_lem : (w : List ℕ) (at : ℕ) → at < 4294967296 → word_bytes 4 (bone_record w at) ≡ lay (bone_items (bone_of w) at)
unfolding bone_record bone_items bone_of
bone_words_lem w at h =
    wordly (word (word (word (word (word (word (word (word (word (word (word (word (both (word (long h (both (turned (omega
    arith) (long (omega arith) ended))))))))))))))))))

pub entry_words_lem :
    (at tag position link : ℕ) → at ≤ window
    → word_bytes 4 (tag ∷ position ∷ pointer (base + at) link ∷ 0 ∷ []) ≡ lay (entry_items (base + at) tag position link)
entry_words_lem at tag position link h = wordly (word (word (long (pointer_lt at link (omega arith)) ended)))

pub pointer-words : (at link : ℕ) → at ≤ window → word_bytes 4 (pointer (base + at) link ∷ 0 ∷ []) ≡ bytes 8 (pointer (base +
    at) link)
unfolding lay
pointer-words at link h = wordly (long (pointer_lt at link (omega arith)) ended) ∙ append-nil (bytes 8 (pointer (base + at) link))

-- the block's own record
pub header-words : (n : ℕ) → word_bytes 4 (n ∷ 0 ∷ 0 ∷ 0 ∷ []) ≡ lay (4 ⊳ n ∷ 4 ⊳ 0 ∷ 4 ⊳ 0 ∷ 4 ⊳ 0 ∷ [])
header-words n = wordly (word (word (word (word ended))))
