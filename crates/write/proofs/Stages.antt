-- A section ready to be filled: what each stage asks for follows, and what the stages leave is the whole section. Assumes
-- nothing.
use mathlib.Core.Path.{◌≡◌, sym, ap, ◌∙◌}
use mathlib.Core.List.{List, [], ◌∷◌, map}
use Prim.Native.Nat.{ℕ, zero, suc, ◌+◌, ◌-◌, ◌*◌, ◌≤◌}
use native.Mathlib.Nat.{le_refl}
use native.Mathlib.Omega.{arith}
use lib.ListN.{length, get_or, take, replicate, length-map}
use lib.Seq.{sets, take_at, length-take-le}
use Rattle.format.specs.Field.{lay}
use Rattle.format.specs.Section.{Section, Place}
use Rattle.format.specs.Bone.{Bone, Words4}
use Rattle.format.specs.Chains.{bucket_count, entry_count, chains}
use Rattle.format.specs.Matrices.{inverses, locals}
use Rattle.format.specs.Deriving.{tags, parents}
use Rattle.format.specs.Rows.{laid, bone_of}
use Rattle.format.specs.Layout.{after, entry_total, block_size, Starts, starts, skeleton_items, layout}
use Rattle.format.specs.Write.{named}
use Rattle.derive_chains.proofs.Counts.{entries_le}
use Rattle.write.specs.Placing.{Counts, SkeletonCounts}
use Rattle.format.specs.Section.{window}
use Rattle.write.specs.Linked.{chains_of, ChainsRoom, ChainsLaid}
use Rattle.tables.specs.Working.{Working}
use Rattle.write.specs.Records.{takes_all}
use Rattle.write.specs.Filling.{BonesPart, bones_stored, ListsRoom, lists_stored, kids_of, Held, PartsPlaced}
use Rattle.write.specs.declared.filling.Sizes.{Sizes}
use Rattle.write.proofs.Placing.{children_le, Ordered}
use Rattle.write.proofs.Totals.{bucket_count_le}
use Rattle.write.proofs.Derived.{rows_fall, heads-stand, chains-linked}
use Rattle.write.proofs.Parts.{takes-names, takes_le, length-inverses, length_locals}
use Rattle.write.proofs.Sections.{good-short, length-tags, chains_total, order, length-layout, section-stored}

-- the starts rise, each part before the next
record Rising (c e n s : ℕ) (a : Starts) : Type 0 where
  buckets : a.buckets ≡ 112
  entries : a.buckets + 8 * c ≤ a.entries
  bones : a.entries + 16 * e ≤ a.bones
  names : a.bones + block_size n ≤ a.names
  inverse : a.names + s ≤ a.inverse
  local : a.inverse + 64 * n ≤ a.local
  parents : a.local + 64 * n ≤ a.parents
  children : a.parents + 2 * n ≤ a.children

after_le : (a b m : ℕ) → b ≡ after a m → a + m ≤ b
after_le a b m e = omega arith

rising : {c e n s : ℕ} {a : Starts} → Ordered c e n s a → Rising c e n s a
rising {c} {e} {n} {s} {a} o =
    record {
      buckets = o.buckets;
      entries = after_le a.buckets a.entries (8 * c) o.entries;
      bones = after_le a.entries a.bones (16 * e) o.bones;
      names = after_le a.bones a.names (block_size n) o.names;
      inverse = after_le a.names a.inverse s o.inverse;
      local = after_le a.inverse a.local (64 * n) o.local;
      parents = after_le a.local a.parents (64 * n) o.parents;
      children = after_le a.parents a.children (2 * n) o.children;
    }

-- the first rows of a table
rows-first : (w : List ℕ) {x : List ℕ} (m k : ℕ) → x ≡ laid w m → length w ≡ k → take k x ≡ w
rows-first w m k e l = rw e (take_at w (replicate (m - length w) 0) k l)

-- where the links of all buckets stand, so do those of the first
stands-first :
    (k : ℕ) (heads rows : List ℕ) → ((b : ℕ) → 3 * get_or heads b 0 ≤ length rows)
    → (b : ℕ) → 3 * get_or (take k heads) b 0 ≤ length rows
stands-first zero heads rows h b = omega arith
stands-first (suc k) [] rows h b = h b
stands-first (suc k) (x ∷ xs) rows h zero = h zero
stands-first (suc k) (x ∷ xs) rows h (suc b) = stands-first k xs rows (λ c. h (suc c)) b

-- the numbers of the parts are small
pub counts-small :
    {s : Sizes} {lent : Section} {bones : List (Bone Place)} {x : Working} → Held s lent bones x
    → Counts (bucket_count (length bones)) (entry_count (length bones)) (length bones) (takes_all bones)
counts-small {lent = lent} {bones = bones} h =
    record {
      buckets_few = omega (arith, bucket_count_le (length bones));
      entries_few = omega (arith, entries_le (length bones), h.few);
      few = h.few;
      names_few = omega (arith, takes_le lent bones h.good, h.few);
    }

module _ {at : Starts} {s : Sizes} {lent : Section} {table : List (List ℕ)} {x : Working} {size : ℕ}
    (r : PartsPlaced at s lent table x size) where
  abbrev bones : List (Bone Place)
  bones = map bone_of table

  abbrev n : ℕ
  n = length table

  lb : length bones ≡ n
  lb = length-map table bone_of

  in_order : Ordered (bucket_count n) (entry_count n) n (takes_all bones) at
  in_order = order lent bones n lb at r.held.good r.placed

  small : Counts (bucket_count n) (entry_count n) n (takes_all bones)
  small = rw lb at (counts-small r.held)

  last_le : at.children ≤ 32112383
  last_le = rw r.placed (children_le (bucket_count n) (entry_count n) n (takes_all bones) small)

  room_le : after at.children (2 * s.children) ≤ size → at.children ≤ size
  room_le h = omega arith

  buckets_are : s.buckets ≡ bucket_count n
  buckets_are = r.held.buckets_is ∙ ap bucket_count lb

  -- every part starts in the window
  pub skeleton_asks : SkeletonCounts at n s.buckets s.children × (112 ≤ size)
  skeleton_asks =
      let q = rising in_order in
      let l = last_le in
      let m = room_le r.fits in (
        record {
          few = small.few;
          buckets_few = omega (arith, buckets_are, bucket_count_le n);
          kids_few = r.kids_few;
          buckets = omega (arith, q.buckets);
          bones = omega (arith, q.names, q.inverse, q.local, q.parents, q.children);
          inverse = omega (arith, q.local, q.parents, q.children);
          local = omega (arith, q.parents, q.children);
          parents = omega (arith, q.children);
          children = omega arith;
        },
        omega (arith, q.buckets, q.entries, q.bones, q.names, q.inverse, q.local, q.parents, q.children),
      )

  -- the first x.entries that the tables hold
  pub heads_stand : s.buckets ≤ length x.buckets
  heads_stand = omega (arith, r.held.buckets_is, r.held.rows.heads_hold)

  pub inverse_stands : 16 * n ≤ length x.inverse
  inverse_stands = rw lb at r.held.rows.inverse_holds

  pub local_stands : 16 * n ≤ length x.local
  local_stands = rw lb at r.held.rows.local_holds

  pub parents_stand : n ≤ length x.parents
  parents_stand = rw lb at r.held.rows.parents_hold

  pub children_stand : s.children ≤ length x.children
  children_stand = omega (arith, r.held.children_is, r.held.rows.children_hold)

  chains_are : chains_of (take s.buckets x.buckets) x.entries ≡ chains (tags bones)
  chains_are =
      let m = length-tags lent bones n lb at r.held.good r.placed in
      let e : s.buckets ≡ bucket_count (length (tags bones)) = buckets_are ∙ ap bucket_count (sym m) in
      rw e (chains-linked (tags bones) x.entries (length x.entries) r.held.rows.rows_are x.buckets (length x.buckets) r.held.rows.heads_are)

  pub chains_ask : {m : ℕ} → m ≡ size → ChainsRoom (take s.buckets x.buckets) x.entries at.buckets at.entries m
  chains_ask {m} em =
      let q = rising in_order in
      let l = last_le in
      let f = room_le r.fits in
      let k = length-tags lent bones n lb at r.held.good r.placed in
      let total : entry_total (chains_of (take s.buckets x.buckets) x.entries) ≡ entry_count n =
      ap entry_total chains_are ∙ chains_total lent bones n lb at r.held.good r.placed in
      let hold : 3 * entry_count (length (tags bones)) ≤ length x.entries = rw (k, ← lb) r.held.rows.rows_hold in
      let c : length (take s.buckets x.buckets) ≡ bucket_count n = length-take-le s.buckets x.buckets heads_stand ∙ buckets_are in
      record {
        falls = rows_fall (tags bones) x.entries (length x.entries) r.held.rows.rows_are;
        stands =
            stands-first s.buckets x.buckets x.entries
            (heads-stand (tags bones) x.entries (length x.entries) r.held.rows.rows_are x.buckets (length x.buckets) r.held.rows.heads_are hold);
        before = rw (in_order.entries, c) (le_refl _);
        room = omega (arith, em, total, q.bones, q.names, q.inverse, q.local, q.parents, q.children);
        small = omega (arith, total, q.bones, q.names, q.inverse, q.local, q.parents, q.children);
      }

  pub bones_ask : {m : ℕ} → m ≡ size → BonesPart at lent table s.names m
  bones_ask {m} em =
      let q = rising in_order in
      let l = last_le in
      let f = room_le r.fits in
      let inside : at.inverse ≤ m = omega (arith, em, q.local, q.parents, q.children) in
      record {
        block =
            record {
              names_short = record { few = small.few; short = good-short lent table r.held.good };
              room = omega (arith, q.names, q.inverse, inside);
              small = omega (arith, q.inverse, q.local, q.parents, q.children);
            };
        names =
            record {
              counts = r.held.names_is ∙ sym (takes-names lent bones r.held.good);
              room = rw r.held.names_is (rw in_order.inverse at inside);
            };
      }

  pub lists_ask :
      {m : ℕ} → m ≡ size → ListsRoom at (take (16 * n) x.inverse) (take (16 * n) x.local) (take n x.parents) (take s.children x.children) m
  lists_ask {m} em =
      let q = rising in_order in
      let f = room_le r.fits in
      let inside : at.children ≤ m = omega (arith, em) in
      record {
        inverse_room =
            omega (arith, length-take-le (16 * n) x.inverse inverse_stands, q.local, q.parents, q.children, inside);
        local_room = omega (arith, length-take-le (16 * n) x.local local_stands, q.parents, q.children, inside);
        parent_room = rw (length-take-le n x.parents parents_stand) (rw in_order.children at inside);
        child_room = rw (length-take-le s.children x.children children_stand, em) r.fits;
      }

  -- what the stages leave, one after the other
  pub section_filled :
      (free : Words4) (d : List ℕ) {d₁ d₂ d₃ d₄ : List ℕ}
      → d₁ ≡ sets d 0 (lay (skeleton_items at free n s.buckets s.children))
      → ChainsLaid (take s.buckets x.buckets) x.entries at.buckets at.entries d₁ d₂
      → d₃ ≡ bones_stored at lent bones d₂
      → d₄ ≡ lists_stored at (take (16 * n) x.inverse) (take (16 * n) x.local) (take n x.parents) (take s.children x.children) d₃
      → d₄ ≡ sets d 0 (layout (named lent bones) free)
  section_filled free d e₁ e₂ e₃ e₄ =
      let x₂ = rw chains_are at e₂.is in
      let i = rows-first (inverses bones) (length x.inverse) (16 * n) r.held.rows.inverse_is (length-inverses bones ∙ ap (λ (k : ℕ). 16 * k)
      lb) in
      let l = rows-first (locals bones) (length x.local) (16 * n) r.held.rows.local_is (length_locals bones ∙ ap (λ (k : ℕ). 16 * k) lb) in
      let p = rows-first (parents bones) (length x.parents) n r.held.rows.parents_are (length-map bones (λ (b : Bone Place). b.parent) ∙ lb) in
      let k = rows-first (kids_of bones) (length x.children) s.children r.held.rows.children_are (sym r.held.children_is) in
      let x₄ = rw (i, l, p, k) at e₄ in
      x₄ ∙ rw (e₃, x₂, e₁) (section-stored lent bones n lb at r.held.good r.placed free d buckets_are r.held.children_is)

-- ---- placing, as the code does

module _ {s : Sizes} {lent : Section} (table : List (List ℕ)) {x : Working}
    (h : Held s lent (map bone_of table) x) {e : ℕ} (ee : e ≡ entry_count (length table)) where
  lb_by : length (map bone_of table) ≡ length table
  lb_by = length-map table bone_of

  buckets_by : s.buckets ≡ bucket_count (length table)
  buckets_by = h.buckets_is ∙ ap bucket_count (lb_by)

  small_by : Counts (bucket_count (length table)) (entry_count (length table)) (length table) (takes_all (map bone_of table))
  small_by = rw (lb_by) at (counts-small h)

  pub place_asks : Counts s.buckets e (length table) s.names
  place_asks = rw (ee, buckets_by, h.names_is) small_by

  module _ {at : Starts} (p : at ≡ starts s.buckets e (length table) s.names) where
    placed_as : at ≡ starts (bucket_count (length table)) (entry_count (length table)) (length table) (takes_all (map bone_of table))
    placed_as = rw (buckets_by, ee, h.names_is) at p

    -- the end of the last part has an offset
    pub after_asks : s.children ≤ 65535 → at.children + 2 * s.children ≤ window
    after_asks k =
        let l = children_le (bucket_count (length table)) (entry_count (length table)) (length table) (takes_all (map bone_of table)) small_by in
        let m : at.children ≤ 32112383 = rw placed_as l in
        omega (arith, m)

    module _ {m : ℕ} (em : m ≡ after at.children (2 * s.children)) where
      -- it is the length of the section
      pub size_is : (free : Words4) → length (layout (named lent (map bone_of table)) free) ≡ m
      size_is free =
          length-layout lent (map bone_of table) (length table) (lb_by) at h.good placed_as free ∙ rw (em, h.children_is)

      pub ready : {size : ℕ} → s.children ≤ 65535 → m ≤ size → PartsPlaced at s lent table x size
      ready k l = record { held = h; kids_few = k; placed = placed_as; fits = omega (arith, em) }
