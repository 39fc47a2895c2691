-- A section ready to be filled: where its parts lie, what each stage asks for, and the whole stored. Assumes nothing.
use mathlib.Core.Path.{◌≡◌, refl, sym, ap, ◌∙◌}
use mathlib.Core.Bool.{true}
use mathlib.Core.List.{List, [], ◌∷◌, map}
use Prim.Native.Nat.{ℕ, zero, suc, ◌+◌, ◌*◌, ◌<◌}
use native.Mathlib.Nat.{add_assoc, add-zero}
use native.Mathlib.Omega.{arith}
use lib.ListN.{length, get_or, length-map}
use lib.Seq.{sets}
use Rattle.format.specs.Field.{word_bytes, lay}
use Rattle.format.specs.Section.{Section, Place}
use Rattle.format.specs.Bone.{Bone, Words4}
use Rattle.format.specs.Chains.{bucket_count, entry_count, chains}
use Rattle.format.specs.Matrices.{inverses, locals}
use Rattle.format.specs.Deriving.{tags, parents}
use Rattle.format.specs.Rows.{bone_of}
use Rattle.format.specs.Layout.{Bytes, base, fill, after, pad16, pointers}
use Rattle.format.specs.Layout.{entry_total, entry_bytes, all_names, block_size, Starts, starts}
use Rattle.format.specs.Layout.{skeleton_items, joined, layout}
use Rattle.format.specs.Write.{good_name, good_names, named}
use Rattle.format.proofs.Fields.{length-word_bytes}
use Rattle.tables.proofs.Outcome.{both_true}
use Rattle.write.specs.Records.{takes_all, block, ShortName}
use Rattle.write.specs.Filling.{bones_stored, lists_stored, kids_of}
use Rattle.write.proofs.Placing.{Ordered, ordered}
use Rattle.write.proofs.Naming.{good-takes}
use Rattle.write.proofs.Linked.{length-pointers}
use Rattle.write.proofs.Totals.{length-chains, entry_total_lem}
use Rattle.write.proofs.Parts.{Placed, ends, then, stored-joined, length-joined, length-pad16, length-entry_bytes}
use Rattle.write.proofs.Parts.{length-skeleton, length-block, length-inverses, length_locals, takes-names}
use Rattle.write.proofs.Parts.{parts_of, layout_parts}

-- ---- the next part starts behind this one

next : (a b m : ℕ) (x : Bytes) → length x ≡ m → b ≡ after a m → b ≡ a + length (pad16 x)
next a b m x e f = f ∙ add_assoc a m (fill m) ∙ ap (λ (k : ℕ). a + k) (sym (length-pad16 x e))

next-whole : (a b m : ℕ) (x : Bytes) → length x ≡ m → fill m ≡ 0 → b ≡ after a m → b ≡ a + length x
next-whole a b m x e z f = f ∙ rw (z, e) (add-zero (a + m))

block-fill : (n : ℕ) → fill (block_size n) ≡ 0
unfolding block_size
block-fill zero = refl
block-fill (suc n) = (let q : fill (16 + 80 * suc n) ≡ 0 = omega arith in q)

-- ---- the parts of bones with good names

-- the rows of some good names hold short ones
pub good-short :
    (lent : Section) (rows : List (List ℕ)) → good_names lent (map bone_of rows) ≡ true → (p : ℕ) → p < length rows
    → ShortName (get_or rows p [])
unfolding good_names
good-short lent [] g p h = absurd (omega arith)
good-short lent (r ∷ rs) g zero h =
    (good-takes lent (bone_of r).name (both_true (good_name lent (bone_of r).name) (good_names lent (map bone_of rs)) g).0).1
good-short lent (r ∷ rs) g (suc p) h =
    good-short lent rs (both_true (good_name lent (bone_of r).name) (good_names lent (map bone_of rs)) g).1 p (omega arith)

module _ (lent : Section) (bs : List (Bone Place)) (n : ℕ) (lb : length bs ≡ n) (at : Starts) (good : good_names lent bs ≡ true)
    (placed : at ≡ starts (bucket_count n) (entry_count n) n (takes_all bs)) where
  pub length-tags : length (tags bs) ≡ n
  length-tags = length-map bs (λ (b : Bone Place). b.tag) ∙ lb

  pub chains-count : length (chains (tags bs)) ≡ bucket_count n
  chains-count = length-chains (tags bs) ∙ ap bucket_count length-tags

  pub chains_total : entry_total (chains (tags bs)) ≡ entry_count n
  chains_total = entry_total_lem (tags bs) ∙ ap entry_count length-tags

  pub order : Ordered (bucket_count n) (entry_count n) n (takes_all bs) at
  order = rw placed (ordered (bucket_count n) (entry_count n) n (takes_all bs))

  starts_are :
      at ≡ starts (length (chains (tags bs))) (entry_total (chains (tags bs))) (length bs)
      (takes_all bs)
  starts_are = rw (chains-count, chains_total, lb) placed

  -- where the parts lie, and where the last one ends
  pub parts_placed : (free : Words4) → Placed 0 (parts_of lent at free bs) (after at.children (2 * length (kids_of
      bs)))
  parts_placed free =
      let cs = chains (tags bs) in
      let ptrs = pointers (base + at.entries) cs in
      let l0 = length-skeleton at free (length bs) (length cs) (length (kids_of bs)) in
      let l1 : length (word_bytes 8 ptrs) ≡ 8 * bucket_count n =
      length-word_bytes 8 ptrs ∙ ap (λ (k : ℕ). 8 * k) (length-pointers (base + at.entries) cs ∙ chains-count) in
      let l2 : length (entry_bytes (base + at.entries) cs) ≡ 16 * entry_count n =
      length-entry_bytes (base + at.entries) cs ∙ ap (λ (k : ℕ). 16 * k) chains_total in
      let l3 : length (block (base + at.names) bs) ≡ block_size n = length-block (base + at.names) bs ∙ ap block_size lb in
      let l4 = takes-names lent bs good in
      let l5 : length (word_bytes 4 (inverses bs)) ≡ 64 * n = length-word_bytes 4 (inverses bs) ∙ sixteen (length-inverses bs ∙
      ap (λ (k : ℕ). 16 * k) lb) in
      let l6 : length (word_bytes 4 (locals bs)) ≡ 64 * n = length-word_bytes 4 (locals bs) ∙ sixteen (length_locals bs ∙ ap (λ
      (k : ℕ). 16 * k) lb) in
      let l7 : length (word_bytes 2 (parents bs)) ≡ 2 * n =
      length-word_bytes 2 (parents bs) ∙ ap (λ (k : ℕ). 2 * k) (length-map bs (λ (b : Bone Place). b.parent) ∙ lb) in
      let l8 = length-word_bytes 2 (kids_of bs) in
      let z : (k : ℕ) → fill (16 * k) ≡ 0 = λ k. omega arith in
      let y : (k : ℕ) → fill (64 * k) ≡ 0 = λ k. omega arith in
      let e0 : at.buckets ≡ 0 + length (lay (skeleton_items at free (length bs) (length cs) (length (kids_of bs)))) =
      order.buckets ∙ sym (rw l0) in
      then e0
      (then (next _ _ _ (word_bytes 8 ptrs) l1 order.entries)
      (then (next-whole _ _ _ (entry_bytes (base + at.entries) cs) l2 (z (entry_count n)) order.bones)
      (then (next-whole _ _ _ (block (base + at.names) bs) l3 (block-fill n) order.names)
      (then (next _ _ _ (all_names (named lent bs)) l4 order.inverse)
      (then (next-whole _ _ _ (word_bytes 4 (inverses bs)) l5 (y n) order.local)
      (then (next-whole _ _ _ (word_bytes 4 (locals bs)) l6 (y n) order.parents)
      (then (next _ _ _ (word_bytes 2 (parents bs)) l7 order.children)
      (then (next _ _ _ (word_bytes 2 (kids_of bs)) l8 refl)
      ends))))))))
    where
      sixteen : {m : ℕ} → m ≡ 16 * n → 4 * m ≡ 64 * n
      sixteen e = omega (arith, e)

  -- how long the section is
  pub length-layout : (free : Words4) → length (layout (named lent bs) free) ≡ after at.children (2 * length
      (kids_of bs))
  length-layout free =
      ap length (layout_parts lent at free bs good starts_are)
      ∙ (let e = length-joined (parts_placed free) in
      let f : length (joined (parts_of lent at free bs)) ≡ after at.children (2 * length (kids_of bs)) =
      omega (arith, e) in
      f)

  -- all parts stored, one stage after the other
  pub section-stored :
      (free : Words4) (d : List ℕ) {c k : ℕ} → c ≡ bucket_count n → k ≡ length (kids_of bs)
      → lists_stored at (inverses bs) (locals bs) (parents bs) (kids_of bs)
      (bones_stored at lent bs
      (sets
      (sets (sets d 0 (lay (skeleton_items at free n c k))) at.buckets
      (pad16 (word_bytes 8 (pointers (base + at.entries) (chains (tags bs))))))
      at.entries (entry_bytes (base + at.entries) (chains (tags bs)))))
      ≡ sets d 0 (layout (named lent bs) free)
  unfolding parts_placed
  section-stored free d {c} {k} ec ek =
      let cs = chains (tags bs) in
      let same : lay (skeleton_items at free n c k) ≡ lay (skeleton_items at free (length bs) (length cs) (length (kids_of bs))) =
      rw (ec, ek, lb, chains-count) in
      rw same
      (stored-joined (parts_placed free) d
      ∙ ap (λ (x : Bytes). sets d 0 x) (sym (layout_parts lent at free bs good starts_are)))
