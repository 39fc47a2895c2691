-- The room that `build_bone_tags` asks for: what follows where it is found, and that working tables with room for a skeleton's tables have it.
-- Assumes nothing.
use Prim.Native.Nat.{ℕ, ◌-◌, ◌*◌, ◌≤◌, ◌<◌}
use native.Mathlib.Omega.{arith}
use mathlib.Core.Path.{◌≡◌, refl, sym, ap, ◌∙◌}
use mathlib.Core.Bool.{true, ◌&&◌}
use mathlib.Core.List.{List, ◌++◌, map, append-nil}
use lib.ListN.{length, get_or, take, drop, length-map}
use Rattle.std.proofs.lemmas.List.{length-replicate, take-replicate, drop-replicate}
use lib.Dec.{leb}
use borrow.Author.Tests.{le-leb, leb-true}
use Rattle.std.proofs.lemmas.List.{get_or-take, get_or-map}
use Rattle.format.specs.Section.{Place}
use Rattle.format.specs.Bone.{Bone}
use Rattle.format.specs.Chains.{bucket_count, entry_count}
use Rattle.format.specs.Deriving.{tags}
use Rattle.format.specs.Result.{refused, done}
use Rattle.format.specs.Rows.{bone_width, bone_of, bones_of, laid, cleared}
use Rattle.derive_chains.specs.ChainRows.{bucket_rows}
use Rattle.derive_chains.proofs.ChainRows.{length-bucket_rows}
use Rattle.tables.proofs.Laid.{length-cleared}
use Rattle.rows.specs.Row.{bones_got}
use Rattle.rows.proofs.Rows.{length-rows, length_column}
use lib.Seq.{length-take-le}
use Rattle.derive_chains.proofs.Counts.{entries_le}
use Rattle.tables.specs.Outcome.{derived, leaves}
use Rattle.tables.proofs.Outcome.{refuses_part, has_room, enough, both_true}
use Rattle.derive_chains.specs.Tagging.{tags_hold, tags_result, TagsRoom}
use Rattle.tables.proofs.Rooms.{Enough}

-- a table that lacks the rows has no room
pub tags_short :
    {A : Type 0} (n : ℕ) (t : List ℕ) (b e : ℕ) (a : A) (c : ℕ) → refused c ≡ bones_got n t
    → refused c ≡ derived n (tags_hold n (length t) b e) a
unfolding tags_hold bones_got derived
tags_short n t b e a c e' = refuses_part n (leb (bone_width * n) (length t)) _ a (bones_of n t) c (λ q. rw q refl) e'

-- rows with the zeros behind them, in a table that was zero
laid_on : (w : List ℕ) (k m : ℕ) → length w ≡ k → k ≤ m → laid w k ++ drop k (cleared m) ≡ laid w m
laid_on w k m e h =
    let z : k - length w ≡ 0 = omega (arith, e) in
    rw (z, append-nil w, drop-replicate {X = ℕ} k m 0, e) refl

-- the rows that were found, and the tables once they are zero
module _
    (n : ℕ) (t : List ℕ) (rows : List (List ℕ)) (b₀ e₀ b e : List ℕ) (count : ℕ)
    (found : done (map bone_of rows) ≡ derived n (tags_hold n (length t) (length b₀) (length e₀)) (bones_of n t))
    (counted : count ≡ bucket_count n) (zb : b ≡ cleared (length b₀)) (ze : e ≡ cleared (length e₀)) where
  held : (n ≤ 65535) × (tags_hold n (length t) (length b₀) (length e₀) ≡ true) × (map bone_of rows ≡ bones_of n t)
  held = enough n _ found

  room : (bucket_count n ≤ length b₀) × (3 * entry_count n ≤ length e₀)
  unfolding tags_hold
  room =
      let h = both_true (leb (bone_width * n) (length t) && leb (bucket_count n) (length b₀)) _ held.1 in
      let k = both_true (leb (bone_width * n) (length t)) _ h.0 in
      (leb-true _ _ k.1, leb-true _ _ h.1)

  lent : take count b ≡ cleared count
  lent = rw zb (take-replicate count (length b₀) 0 (omega (arith, room.0)))

  -- what entering the tags of the rows asks for
  pub tags_found : TagsRoom (length rows) (take count b) e
  tags_found =
      let le = length-cleared e₀ ze in
      rw (length-rows n t rows held.2)
      (record {
        few = held.0;
        counted = ap length lent ∙ length-replicate count 0 ∙ counted;
        entry_room = rw le room.1;
        buckets_zero = lent ∙ ap cleared (sym (ap length lent ∙ length-replicate count 0));
        entries_zero = rw le ze;
      })

  -- the buckets, of which those that are lent lead to the chains
  pub heads_left :
      {heads : List ℕ} → heads ≡ laid (bucket_rows (tags (map bone_of rows))) (length (take count b))
      → heads ++ drop count b
      ≡ leaves (tags_result n (length t) (length b₀) (length e₀)) (bucket_rows (tags (bones_of n t))) (length b₀)
  heads_left {heads} eh =
      let w = bucket_rows (tags (bones_of n t)) in
      let l : length (bucket_rows (tags (bones_of n t))) ≡ count =
      length-bucket_rows (tags (bones_of n t)) ∙ ap bucket_count (length_column (λ (x : Bone Place). x.tag) n t) ∙ sym counted in
      let f : heads ≡ laid (bucket_rows (tags (bones_of n t))) count = rw (held.2, ap length lent ∙ length-replicate count 0) at eh in
      rw (sym (has_room n _ (bucket_count n) held.0 held.1), f, zb) (laid_on w count (length b₀) l (omega (arith, room.0)))

-- the rows of the positions that have an entry
pub length-entered : (rows : List (List ℕ)) (m : ℕ) → m ≡ entry_count (length rows) → length (take m rows) ≡ entry_count (length rows)
length-entered rows m e = length-take-le m rows (omega (arith, e, entries_le (length rows))) ∙ e

-- the tag at such a position is that of the position's row
pub tag_of_row :
    (rows : List (List ℕ)) (p m : ℕ) (d : List ℕ) → p < length (take m rows) → m ≡ entry_count (length rows)
    → (bone_of (get_or (take m rows) p d)).tag ≡ get_or (tags (map bone_of rows)) p 0
tag_of_row rows p m d h e =
    let l = length-entered rows m e in
    let k : p < length rows = omega (arith, h, l, entries_le (length rows)) in
    rw (get_or-take m rows p d (omega (arith, h, l, e)))
    (sym (get_or-map (λ (b : Bone Place). b.tag) (map bone_of rows) p (bone_of d) 0 (omega (arith, k, length-map rows bone_of))
    ∙ ap (λ (b : Bone Place). b.tag) (get_or-map bone_of rows p d (bone_of d) k)))

-- tables of these sizes, and a table of bones of t words, have room
module _ (n b e i l p c q : ℕ) where
  pub enough_tags : (t : ℕ) → bone_width * n ≤ t → Enough n b e i l p c q → tags_hold n t b e ≡ true
  unfolding tags_hold
  enough_tags t r h =
      rw (
        le-leb (bone_width * n) t r,
        le-leb (bucket_count n) b h.buckets,
        le-leb (3 * entry_count n) e h.entries,
      )
