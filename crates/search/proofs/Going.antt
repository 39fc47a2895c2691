-- The ways out of `has_key`, and the loop of `first_named` (docs/FORMAT.md, "Joints and names"). Assumes nothing.
use Prim.Native.Nat.{ℕ, zero, suc, ◌+◌, ◌*◌, ◌^◌, ◌≤◌, ◌<◌}
use native.Mathlib.Numerals.{add-one}
use native.Mathlib.Omega.{arith}
use mathlib.Core.Path.{◌≡◌, refl, sym, ap, ◌∙◌}
use mathlib.Core.Bool.{Bool, true, false, cond}
use Rattle.std.specs.Prelude.{Option, None, Some}
use mathlib.Core.List.{List}
use lib.Dec.{eqb}
use lib.ListN.{length, get_or, drop, drop_of_length-le}
use lib.Seq.{drop-cons}
use Rattle.format.specs.Section as section
use Rattle.format.specs.Section.{Section, name_bytes}
use Rattle.format.specs.Bone.{map_name}
use Rattle.format.specs.Rows.{place_of, bone_of, bones_of}
use Rattle.format.specs.Hash.{rage_joaat}
use Rattle.format.specs.Search.{has_key, first_key}
use Rattle.format.specs.declared.Place.{Place}
use Rattle.rows.specs.Row.{row_words, row_at}
use Rattle.rows.specs.Value.{our_place}
use Rattle.rows.proofs.Rows.{get_or_column, length_column}
use Rattle.search.specs.First.{stored_name, stored_names}

-- ---- one name

module _ (sec : Section) (key a n : ℕ) where
  pub no_name : a ≡ 0 → false ≡ has_key key (map_name (name_bytes sec) (place_of a n))
  unfolding place_of
  no_name e = rw e refl

  pub name_hashed :
      (a ≡ 0 → ⊥) → {h : ℕ} → h ≡ rage_joaat (name_bytes sec (record { address = a; size = n })) →
      eqb h key ≡ has_key key (map_name (name_bytes sec) (place_of a n))
  unfolding place_of
  name_hashed z e = by a z e
    where
      by :
          (a : ℕ) → (a ≡ 0 → ⊥) → {h : ℕ} → h ≡ rage_joaat (name_bytes sec (record { address = a; size = n })) →
          eqb h key ≡ has_key key (map_name (name_bytes sec) (place_of a n))
      by zero z e = absurd (z refl)
      by (suc b) z e = ap (λ (x : ℕ). eqb x key) e

-- a row's name from its place
place-back : (a n : ℕ) → place_of (our_place (place_of a n)).address (our_place (place_of a n)).size ≡ place_of a n
unfolding place_of
place-back zero n = refl
place-back (suc a) n = refl

module _ (sec : Section) (key : ℕ) (t : List ℕ) (i : ℕ) where
  -- whether the name of the bone in row i hashes to the key
  row-key :
      {p : Place} {r : Bool} → p ≡ our_place (row_at t i).name →
      r ≡ has_key key (map_name (name_bytes sec) (place_of p.address p.size)) → r ≡ has_key key (stored_name sec (row_at t i))
  unfolding bone_of
  row-key {p} e f =
      let w = row_words t i in
      f ∙ ap (λ (x : Place). has_key key (map_name (name_bytes sec) (place_of x.address x.size))) e
      ∙ ap (λ (o : Option section.Place). has_key key (map_name (name_bytes sec) o))
      (place-back (get_or w 17 0 + 2 ^ 32 * get_or w 18 0) (get_or w 19 0 + 2 ^ 32 * get_or w 20 0))

-- ---- the loop

module _ (sec : Section) (key : ℕ) (t : List ℕ) (n : ℕ) where
  abbrev names : List (Option (List ℕ))
  names = stored_names sec (bones_of n t)

  -- i bones are passed: what is left finds what the whole does
  pub record Going (i : ℕ) : Type 0 where
    pub within : i ≤ n
    pub left : first_key key i (drop i names) ≡ first_key key 0 names

  pub going_none : Going 0
  going_none = record { within = omega arith; left = refl }

  -- the bone in row i, and those behind it
  row_next :
      (i : ℕ) → i < n →
      first_key key i (drop i names)
      ≡ cond (has_key key (stored_name sec (row_at t i))) (Some i) (first_key key (suc i) (drop (suc i) names))
  unfolding first_key
  row_next i h =
      let l : i < length names = omega (arith, length_column (stored_name sec) n t) in
      rw (drop-cons names i None l, get_or_column (stored_name sec) None n i t h) refl

  module _ {i : ℕ} (g : Going i) where
    pub going_all : n ≤ i → None ≡ first_key key 0 names
    unfolding first_key
    going_all h =
        let k : length names ≤ i = omega (arith, length_column (stored_name sec) n t) in
        ap (first_key key i) (sym (drop_of_length-le names k)) ∙ g.left

    module _
        (h : i < n) {p : Place} {r : Bool} (e : p ≡ our_place (row_at t i).name)
        (f : r ≡ has_key key (map_name (name_bytes sec) (place_of p.address p.size)))
      where
        row-left : {b : Bool} → r ≡ b → cond b (Some i) (first_key key (suc i) (drop (suc i) names)) ≡ first_key key 0 names
        row-left q =
            ap (λ (b : Bool). cond b (Some i) (first_key key (suc i) (drop (suc i) names))) (sym q ∙ row-key sec key t i e f)
            ∙ sym (row_next i h) ∙ g.left

        pub going_found : r ≡ true → Some i ≡ first_key key 0 names
        going_found q = row-left q

        pub going_more : r ≡ false → Going (i + 1)
        going_more q = record { within = omega arith; left = simp add-one (row-left q) }
