-- The parts of a section: parts stored one behind the other, how long each is, and the layout by what the tables hold.
-- Assumes nothing.
use mathlib.Core.Path.{◌≡◌, refl, sym, ap, ◌∙◌}
use mathlib.Core.Bool.{true}
use mathlib.Core.List.{List, [], ◌∷◌, flat_map}
use Prim.Native.Nat.{ℕ, zero, suc, ◌+◌, ◌*◌, ◌≤◌}
use native.Mathlib.Nat.{add-zero, mul-zero, mul-suc}
use native.Mathlib.Omega.{arith}
use lib.ListN.{length, length-append, length-map, length-replicate, length-set}
use lib.Seq.{sets}
use Rattle.math.specs.Matrix.{from_quat_pos}
use Rattle.math.proofs.Sizes.{length-inverse}
use Rattle.format.specs.Field.{word_bytes, lay}
use Rattle.format.specs.Section.{Section, Place, name_bytes}
use Rattle.format.specs.Bone.{Bone, Words4, naming, map_name}
use Rattle.format.specs.Chains.{Entry, chains}
use Rattle.format.specs.Matrices.{local_of, inverse_of, inverses, locals}
use Rattle.format.specs.Deriving.{tags, parents}
use Rattle.format.specs.Layout as Layout
use Rattle.format.specs.Layout.{Bytes, base, fill, pad16, pointer, pointers, entry_total, entry_bytes, bone_items, ended_name}
use Rattle.format.specs.Layout.{bone_bytes, block_bytes, all_names, block_size, Starts, starts, skeleton_items, joined, layout}
use Rattle.format.specs.Write.{good_name, good_names, named}
use Rattle.format.proofs.Fields.{length-word_bytes, length-lay, size}
use Rattle.fields.proofs.Stores.{sets-append}
use Rattle.tables.proofs.Outcome.{both_true}
use Rattle.write.specs.Records.{takes, takes_all, records, block}
use Rattle.write.specs.Filling.{kids_of}
use Rattle.write.proofs.Runs.{pad16-none}
use Rattle.write.proofs.Linked.{length-chain_bytes}
use Rattle.write.proofs.Bones.{length-bone}
use Rattle.write.proofs.Naming.{good-takes}
use Rattle.format.proofs.NamesIgnored.{tags-naming, parents-naming, indices-naming, inverses-naming, locals-naming}

-- ---- parts one behind the other

-- parts from an offset on, and where the last one ends
pub data Placed : ℕ → List Bytes → ℕ → Type 0 where
  ends : {at : ℕ} → Placed at [] at
  then : {at at' end : ℕ} {p : Bytes} {ps : List Bytes} → at' ≡ at + length p → Placed at' ps end → Placed at (p ∷ ps) end

-- all of them stored, each at its offset
abbrev pub stored_in : {at end : ℕ} {ps : List Bytes} → Placed at ps end → List ℕ → List ℕ
stored_in ends d = d
stored_in (then {at} {at'} {end} {p} e r) d = stored_in r (sets d at p)

pub stored-joined : {at end : ℕ} {ps : List Bytes} (r : Placed at ps end) (d : List ℕ) → stored_in r d ≡ sets d at (joined ps)
unfolding joined
stored-joined ends d = refl
stored-joined (then {at} {p = p} {ps = ps} e r) d =
    stored-joined r (sets d at p) ∙ ap (λ (k : ℕ). sets (sets d at p) k (joined ps)) e ∙ sym (sets-append p (joined ps) d at)

pub length-joined : {at end : ℕ} {ps : List Bytes} → Placed at ps end → at + length (joined ps) ≡ end
unfolding joined
length-joined {at} ends = add-zero at
length-joined (then {at} {p = p} {ps = ps} e r) = omega (arith, length-joined r, e, length-append p (joined ps))

-- ---- how long the parts are

pub length-pad16 : (x : Bytes) {n : ℕ} → length x ≡ n → length (pad16 x) ≡ n + fill n
unfolding pad16
length-pad16 x e = length-append x _ ∙ rw (length-replicate, e)

pub length-entry_bytes : (at : ℕ) (cs : List (List Entry)) → length (entry_bytes at cs) ≡ 16 * entry_total cs
unfolding entry_bytes entry_total
length-entry_bytes at [] = refl
length-entry_bytes at (c ∷ cs) =
    length-append (Layout.chain_bytes at c) (entry_bytes (at + 16 * length c) cs)
    ∙ (let e = length-chain_bytes at c in let f = length-entry_bytes (at + 16 * length c) cs in omega arith)

pub length-skeleton : (at : Starts) (free : Words4) (n c k : ℕ) → length (lay (skeleton_items at free n c k)) ≡ 112
unfolding skeleton_items size
length-skeleton at free n c k = length-lay (skeleton_items at free n c k)

length-records : (at : ℕ) (bs : List (Bone Place)) → length (records at bs) ≡ 80 * length bs
unfolding records
length-records at [] = refl
length-records at (b ∷ bs) =
    length-append (lay (bone_items b (pointer at (takes b.name)))) (records (at + takes b.name) bs)
    ∙ (let e = length-bone b (pointer at (takes b.name)) in let i = length-records (at + takes b.name) bs in omega arith)

pub length-block : (at : ℕ) (bs : List (Bone Place)) → length (block at bs) ≡ block_size (length bs)
unfolding block block_size size
length-block at [] = refl
length-block at (b ∷ bs) =
    length-append (lay _) (records at (b ∷ bs)) ∙ rw (length-lay, length-records) refl

-- sixteen words for each bone
length-flat_map :
    {A B : Type 0} (f : A → List B) (k : ℕ) → ((a : A) → length (f a) ≡ k) → (l : List A) → length (flat_map f l) ≡ k * length l
unfolding flat_map
length-flat_map f k h [] = sym (mul-zero k)
length-flat_map f k h (a ∷ l) =
    length-append (f a) (flat_map f l) ∙ (let e = h a in let i = length-flat_map f k h l in simp mul-suc (omega arith))

module _ {N : Type 0} where
  length-inverse_of : (bones : List (Bone N)) (b : Bone N) → length (inverse_of bones b) ≡ 16
  unfolding inverse_of
  length-inverse_of bones b = simp (length-set, length-map) (length-inverse _)

  length-local_of : (b : Bone N) → length (local_of b) ≡ 16
  unfolding local_of from_quat_pos
  length-local_of b = refl

  pub length-inverses : (bones : List (Bone N)) → length (inverses bones) ≡ 16 * length bones
  unfolding inverses
  length-inverses bones = length-flat_map (inverse_of bones) 16 (length-inverse_of bones) bones

  pub length_locals : (bones : List (Bone N)) → length (locals bones) ≡ 16 * length bones
  unfolding locals
  length_locals bones = length-flat_map local_of 16 length-local_of bones

-- ---- parts that need no fill

no_fill : (x : Bytes) (k : ℕ) → length x ≡ 16 * k → pad16 x ≡ x
no_fill x k e =
    let z : fill (length x) ≡ 0 = omega (arith, e) in
    pad16-none x z

pub entries-whole : (at : ℕ) (cs : List (List Entry)) → pad16 (entry_bytes at cs) ≡ entry_bytes at cs
entries-whole at cs = no_fill (entry_bytes at cs) (entry_total cs) (length-entry_bytes at cs)

pub block-whole : (at : ℕ) (bs : List (Bone Place)) → pad16 (block at bs) ≡ block at bs
unfolding block_size
block-whole at bs = by (length bs) (length-block at bs)
  where
    by : (n : ℕ) → length (block at bs) ≡ block_size n → pad16 (block at bs) ≡ block at bs
    by zero e = no_fill (block at bs) 0 e
    by (suc n) e = let f : length (block at bs) ≡ 16 * (1 + 5 * suc n) = omega (arith, e) in no_fill (block at bs) (1 + 5 * suc
        n) f

pub matrices_whole : (w : List ℕ) (n : ℕ) → length w ≡ 16 * n → pad16 (word_bytes 4 w) ≡ word_bytes 4 w
matrices_whole w n e =
    let f : length (word_bytes 4 w) ≡ 16 * (4 * n) = length-word_bytes 4 w ∙ (let q : 4 * length w ≡ 16 * (4 * n) = omega (
      arith,
      e,
    ) in q) in
    no_fill (word_bytes 4 w) (4 * n) f

-- ---- bones with good names

module _ (lent : Section) where
  -- their names take as many bytes as are stored
  pub takes-names : (bs : List (Bone Place)) → good_names lent bs ≡ true → length (all_names (named lent bs)) ≡ takes_all bs
  unfolding good_names all_names takes_all flat_map
  takes-names [] g = refl
  takes-names (b ∷ bs) g =
      let h = both_true (good_name lent b.name) (good_names lent bs) g in
      length-append (ended_name (map_name (name_bytes lent) b.name)) (all_names (named lent bs))
      ∙ rw ((good-takes lent b.name h.0).0, takes-names bs h.1)

  pub takes_le : (bs : List (Bone Place)) → good_names lent bs ≡ true → takes_all bs ≤ 256 * length bs
  unfolding good_names takes_all
  takes_le [] g = omega arith
  takes_le (b ∷ bs) g =
      let h = both_true (good_name lent b.name) (good_names lent bs) g in
      omega (arith, (good-takes lent b.name h.0).1, takes_le bs h.1)

  -- their records are those of the named bones
  records-named : (at : ℕ) (bs : List (Bone Place)) → good_names lent bs ≡ true → bone_bytes at (named lent bs) ≡ records at bs
  unfolding good_names bone_bytes records bone_items
  records-named at [] g = refl
  records-named at (b ∷ bs) g =
      let h = both_true (good_name lent b.name) (good_names lent bs) g in
      rw (good-takes lent b.name h.0).0 (rw (records-named (at + takes b.name) bs h.1))

  pub block-named : (at : ℕ) (bs : List (Bone Place)) → good_names lent bs ≡ true → block_bytes at (named lent bs) ≡ block at bs
  unfolding block_bytes block
  block-named at [] g = refl
  block-named at (b ∷ bs) g = rw (length-map bs (naming (name_bytes lent)), records-named at (b ∷ bs) g)

  -- ---- the layout by what the tables hold

  -- the parts of a section, from lists and starts
  abbrev pub parts_of : Starts → Words4 → List (Bone Place) → List Bytes
  parts_of at free bs =
      let cs = chains (tags bs) in
      lay (skeleton_items at free (length bs) (length cs) (length (kids_of bs))) ∷
      pad16 (word_bytes 8 (pointers (base + at.entries) cs)) ∷
      entry_bytes (base + at.entries) cs ∷
      block (base + at.names) bs ∷
      pad16 (all_names (named lent bs)) ∷
      word_bytes 4 (inverses bs) ∷
      word_bytes 4 (locals bs) ∷
      pad16 (word_bytes 2 (parents bs)) ∷
      pad16 (word_bytes 2 (kids_of bs)) ∷ []

  pub layout_parts :
      (at : Starts) (free : Words4) (bs : List (Bone Place)) → good_names lent bs ≡ true
      → at ≡ starts (length (chains (tags bs))) (entry_total (chains (tags bs))) (length bs) (takes_all bs)
      → layout (named lent bs) free ≡ joined (parts_of at free bs)
  unfolding layout
  layout_parts at free bs g e =
      let f = name_bytes lent in
      rw (
        tags-naming f bs,
        indices-naming f bs,
        parents-naming f bs,
        inverses-naming f bs,
        locals-naming f bs,
        length-map bs (naming f),
        takes-names bs g,
        ← e,
        block-named (base + at.names) bs g,
        entries-whole (base + at.entries) (chains (tags bs)),
        block-whole (base + at.names) bs,
        matrices_whole (inverses bs) (length bs) (length-inverses bs),
        matrices_whole (locals bs) (length bs) (length_locals bs),
      )
