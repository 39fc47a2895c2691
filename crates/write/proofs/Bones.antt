-- Bones stored one behind the other: the name of a row, the records of the rows, and the block. Assumes nothing.
use mathlib.Core.Path.{◌≡◌, refl, ap, ◌∙◌}
use Rattle.std.specs.Prelude.{None, Some}
use mathlib.Core.List.{List, [], ◌∷◌, map}
use Prim.Native.Nat.{ℕ, zero, suc, ◌+◌, ◌*◌, ◌^◌, ◌≤◌, ◌<◌}
use native.Mathlib.Nat.{add_assoc}
use native.Mathlib.Numerals.{add-one}
use native.Mathlib.Omega.{arith}
use lib.ListN.{length, get_or, drop, length-map, drop_of_length-le}
use lib.Seq.{sets, drop-cons}
use Rattle.format.specs.Field.{word_bytes, ◌⊳◌, lay}
use Rattle.format.specs.Section.{Place}
use Rattle.format.specs.Bone.{Bone}
use Rattle.format.specs.Rows.{place_of, bone_of}
use Rattle.format.specs.Layout.{base, pointer, bone_items}
use Rattle.format.proofs.Fields.{length-lay, size}
use Rattle.rows.specs.Value.{our_place}
use Rattle.format.specs.declared.Place as our
use Rattle.format.specs.Section.{window}
use Rattle.write.specs.Records.{takes, takes_all, records, block, bone_record, ShortName, BonesRoom, BlockRoom}
use Rattle.fields.proofs.RunLaws.{Left, left-more, left-all}
use Rattle.write.proofs.Items.{bone_words_lem, header-words}
use Rattle.write.proofs.Placing.{block_size_lem}
use Rattle.fields.proofs.Stores.{sets-append}

-- ---- the name of a row

place_none : (a n : ℕ) → (our_place (place_of a n)).address ≡ 0 → place_of a n ≡ None
unfolding place_of
place_none zero n e = refl
place_none (suc a) n e = absurd (omega (arith, e))

place-some :
    (a n : ℕ) → ((our_place (place_of a n)).address ≡ 0 → ⊥)
    → place_of a n ≡ Some (record { address = (our_place (place_of a n)).address; size = (our_place (place_of a n)).size })
unfolding place_of
place-some zero n h = absurd (h refl)
place-some (suc a) n h = refl

module _ (w : List ℕ) {p : our.Place} (e : p ≡ our_place (bone_of w).name) where
  -- address 0 is no name
  pub name-none : p.address ≡ 0 → (bone_of w).name ≡ None
  unfolding bone_of
  name-none z = place_none _ _ (rw e at z)

  pub name-some : (p.address ≡ 0 → ⊥) → (bone_of w).name ≡ Some (record { address = p.address; size = p.size })
  unfolding bone_of
  name-some z = rw e (place-some _ _ (rw e at z))

-- ---- one record, stored as words

pub stored-bone :
    (d : List ℕ) {d' : List ℕ} (at : ℕ) (row : List ℕ) (name : ℕ) {w : List ℕ} → name < 2 ^ 32 → w ≡ bone_record row name
    → d' ≡ sets d at (word_bytes 4 w) → d' ≡ sets d at (lay (bone_items (bone_of row) name))
stored-bone d at row name h e f = rw (bone_words_lem row name h) at (rw e at f)

pub length-bone : (b : Bone Place) (at : ℕ) → length (lay (bone_items b at)) ≡ 80
unfolding bone_items size
length-bone b at = length-lay (bone_items b at)

-- ---- the records of the rows

-- one row more of those left
pub rows-next : (rows : List (List ℕ)) (p : ℕ) → p < length rows → {row : List ℕ} → row ≡ get_or rows p []
    → map bone_of (drop p rows) ≡ bone_of row ∷ map bone_of (drop (p + 1) rows)
rows-next rows p l {row} e = rw (drop-cons rows p [] l, ← e, add-one)

-- the rows from p on are left, their names to lie from `name` on
pub record Boning (rows : List (List ℕ)) (d₀ : List ℕ) (at names : ℕ) (d : List ℕ) (to name p : ℕ) : Type 0 where
  pub stands : to ≡ at + 80 * p
  pub left :
      Left d₀ at (records (base + names) (map bone_of rows)) d to (records (base + name) (map bone_of (drop p rows)))
  pub counts : name + takes_all (map bone_of (drop p rows)) ≡ names + takes_all (map bone_of rows)

module _ {rows : List (List ℕ)} {d₀ : List ℕ} {at names : ℕ} {d : List ℕ} {to name p : ℕ} (r : BonesRoom rows at names (length d₀))
    (h : Boning rows d₀ at names d to name p) (l : p < length rows) {row : List ℕ} (er : row ≡ get_or rows p []) where
  pub boning_short : ShortName row
  boning_short = rw er (r.names_short.short p l)

  pub boning_small : {m : ℕ} → m ≡ takes (bone_of row).name → name + m ≤ window
  unfolding takes_all
  boning_small {m} e = omega (arith, r.small, e, rw (rows-next rows p l er) at h.counts)

  -- room for the record
  pub boning_room : to + 80 ≤ length d
  boning_room = omega (arith, r.room, h.left.same, h.stands)

  pub boning_more :
      {d' : List ℕ} {m a : ℕ} → m ≡ takes (bone_of row).name → a ≡ pointer (base + name) m
      → d' ≡ sets d to (lay (bone_items (bone_of row) a)) → Boning rows d₀ at names d' (to + 80) (name + m) (p + 1)
  unfolding records takes_all
  boning_more {d'} {m} {a} em ea e =
      let b = bone_of row in
      let x = lay (bone_items b (pointer (base + name) (takes b.name))) in
      let nb = rows-next rows p l er in
      let f : d' ≡ sets d to x = e ∙ rw (ea, em) in
      record {
        stands = omega (arith, h.stands);
        left = rw em (rw (length-bone b _, add_assoc base name (takes b.name)) at (left-more x _ (rw nb at h.left) f));
        counts = omega (arith, em, rw nb at h.counts);
      }

pub boning_all :
    {rows : List (List ℕ)} {d₀ : List ℕ} {at names : ℕ} {d : List ℕ} {to name p : ℕ} → Boning rows d₀ at names d to name p
    → length rows ≤ p → d ≡ sets d₀ at (records (base + names) (map bone_of rows))
unfolding records
boning_all {rows} {p = p} h l =
    let e : drop p rows ≡ [] = drop_of_length-le rows l in
    left-all (rw e at h.left)

-- ---- the block

-- room for the block is room for the records behind its header
pub block_room :
    {rows : List (List ℕ)} {at names k m : ℕ} → (length rows ≡ 0 → ⊥) → m ≡ k → BlockRoom rows at names k
    → BonesRoom rows (at + 16) names m
block_room {rows} z e r =
    record {
      names_short = r.names_short;
      room = omega (arith, r.room, e, block_size_lem (length rows) z);
      small = r.small;
    }

pub block_none : (d : List ℕ) (at names : ℕ) (rows : List (List ℕ)) → length rows ≡ 0 → d ≡ sets d at (block names (map bone_of rows))
unfolding block
block_none d at names [] e = refl
block_none d at names (r ∷ rs) e = absurd (omega (arith, e))

pub block-some :
    (d : List ℕ) {d' d'' : List ℕ} (at names : ℕ) (rows : List (List ℕ)) → (length rows ≡ 0 → ⊥)
    → d' ≡ sets d at (word_bytes 4 (length rows ∷ 0 ∷ 0 ∷ 0 ∷ []))
    → d'' ≡ sets d' (at + 16) (records names (map bone_of rows)) → d'' ≡ sets d at (block names (map bone_of rows))
unfolding block size
block-some d at names [] h e f = absurd (h refl)
block-some d {d'} {d''} at names (r ∷ rs) h e f =
    let bs = map bone_of rs in
    let k : length bs ≡ length rs = length-map rs bone_of in
    let x = lay (4 ⊳ suc (length rs) ∷ 4 ⊳ 0 ∷ 4 ⊳ 0 ∷ 4 ⊳ 0 ∷ []) in
    let s : length x ≡ 16 = length-lay (4 ⊳ suc (length rs) ∷ 4 ⊳ 0 ∷ 4 ⊳ 0 ∷ 4 ⊳ 0 ∷ []) in
    let g : d' ≡ sets d at x = rw (header-words (suc (length rs))) at e in
    f ∙ ap (λ (l : List ℕ). sets l (at + 16) (records names (bone_of r ∷ bs))) g
    ∙ rw (k, sets-append x (records names (bone_of r ∷ bs)) d at, s)
