-- The section that is laid for bones with their names' bytes reads, with ample tables, to rows that stand for those bones and the
-- lists derived from them. Assumes nothing.
use mathlib.Core.Path.{◌≡◌, refl, sym, ap, ◌∙◌, subst}
use Prim.Native.Nat.{ℕ, ◌+◌, ◌≤◌, ◌<◌}
use native.Mathlib.Omega.{arith}
use Rattle.std.specs.Prelude.{Option, Some}
use mathlib.Core.List.{List, [], ◌∷◌, map}
use lib.ListN.{length, length-map}
use Rattle.format.specs.Result.{Res, done}
use Rattle.format.specs.Section.{Section, Place, name_bytes}
use Rattle.format.specs.Bone.{Bone, Words4, naming}
use Rattle.format.specs.Chains.{Entry, up_from, chains}
use Rattle.format.specs.Children.{children}
use Rattle.format.specs.Matrices.{inverses, locals}
use Rattle.format.specs.Deriving.{tags, parents, indices}
use Rattle.format.specs.Records.{Header}
use Rattle.format.specs.Tables.{ListTable, inverse_table, local_table, parents_table, children_table, skeleton}
use Rattle.format.specs.Tables.{Rows, rows, SkeletonRow, Pooled, Chained, Lists, Tables, tables, no_rows, longer}
use Rattle.format.specs.Tables.{Room, find, as_kind}
use Rattle.format.specs.Read.{skeleton_row, read_bucket_array, read_bones_at, read_list, read_new_skeleton, skeleton_from, read_skeleton}
use Rattle.format.specs.Layout.{Bytes, NamedBone, base, entry_total, Starts, layout, all_names}
use Rattle.format.specs.Check.{bones_read}
use Rattle.promises.specs.Meaning.{ChainsFrom, links_read, Derived}
use Rattle.promises.proofs.Chains.{length-chains}
use Rattle.format.proofs.Parts.{alone}
use Rattle.promises.proofs.MatrixWords.{inverses-words, length-inverses, locals-words, length_locals}
use Rattle.format.proofs.NamesIgnored.{tags-naming, parents-naming, indices-naming, inverses-naming, locals-naming}
use Rattle.promises.proofs.LayoutParts.{kids_of, chains_of, starts_of, padded-at, laid}
use Rattle.promises.proofs.LayoutSize.{bucket_count_le, entry_total-chains}
use Rattle.promises.proofs.LayoutFits.{Taken, parents-fit, kids-fit, chains_of-fit, Ordered, order, headed, headed_fits}
use Rattle.promises.proofs.Fresh.{Pooling, Goes, Below, put_goes}
use Rattle.promises.proofs.ChainsBack.{chains_rows, head_links}
use Rattle.promises.proofs.BucketsBack.{listed_of, array_goes}
use Rattle.promises.proofs.NamesBack.{placed_rows, length-placed_rows, names-back}
use Rattle.promises.proofs.RecordsBack.{header-back}
use Rattle.promises.proofs.BlockBack.{block_goes}
use Rattle.promises.proofs.ListsBack.{list_goes}
use Rattle.promises.proofs.ColumnsBack.{kept_rows, length-kept_rows, kept-named}
use Rattle.promises.proofs.RowsBack.{list_read_lem, chains_read_lem, bones_read_lem, columns_kept}

-- tables with room for whatever the writer takes
abbrev pub ample : Room
ample =
    record {
      bones = 65535;
      buckets = 65535;
      entries = 65535;
      inverse = 65535;
      local = 65535;
      parents = 65535;
      children = 65535;
      pool = 262144;
    }

module _ (bones : List NamedBone) (free : Words4) where
  abbrev n : ℕ
  n = length bones

  abbrev cs : List (List Entry)
  cs = chains_of bones

  abbrev ks : List ℕ
  ks = kids_of bones

  abbrev at : Starts
  at = starts_of bones

  -- ---- what is read

  -- the rows before and after column 4
  abbrev placed : List (Bone Place)
  placed = placed_rows (base + at.names) bones

  abbrev final : List (Bone Place)
  final = kept_rows bones placed

  length-placed : length placed ≡ n
  length-placed = length-placed_rows (base + at.names) bones

  abbrev chained : Chained
  chained = record { buckets = head_links 0 cs; entries = chains_rows 0 cs }

  -- the lists as they are read one after the other
  abbrev lists0 : Lists
  lists0 = record { inverse = []; local = []; parents = []; children = [] }

  abbrev lists1 : Lists
  lists1 = longer inverse_table (inverses bones) lists0

  abbrev lists2 : Lists
  lists2 = longer local_table (locals bones) lists1

  abbrev lists3 : Lists
  lists3 = longer parents_table (parents bones) lists2

  abbrev lists4 : Lists
  lists4 = longer children_table ks lists3

  -- the tables once the chains are read, and once the bones and some lists are
  abbrev begun : List Pooled → Tables
  begun q = tables chained [] [] lists0 [] q

  abbrev filled : Lists → List Pooled → Tables
  filled ls q = tables chained placed (up_from 0 n) ls [] q

  abbrev pub skeleton_back : SkeletonRow
  skeleton_back =
      skeleton_row (headed bones free) (listed_of (length cs) (rows 0 (length cs))) (listed_of n (rows 0 n))
      (listed_of n (rows 0 (length (inverses bones)))) (listed_of n (rows 0 (length (locals bones))))
      (listed_of n (rows 0 (length (parents bones)))) (listed_of (length ks) (rows 0 (length ks)))

  -- the tables at the end, with some pool
  abbrev pub tables_back : List Pooled → Tables
  tables_back q = tables chained final (up_from 0 n) lists4 (skeleton_back ∷ []) q

  abbrev head : Header
  head = headed bones free

  abbrev o : Ordered (length cs) (entry_total cs) n (length (all_names bones)) at
  o = order bones

  module _ (gfx : Bytes) (ok : Taken bones free) where
    abbrev sec : Section
    sec = alone (layout bones free) gfx

    -- ---- the steps of reading, put together

    -- a step that reads a part of m rows, in so many words, and leaves these tables
    abbrev Reads : Res (Option Rows × Tables) → ℕ → ℕ → Tables → Type 0
    Reads step m words t = step ≡ done (listed_of m (rows 0 words), t)

    abbrev buckets_step : Res (Option Rows × Tables)
    buckets_step = read_bucket_array sec ample head.buckets_at (length cs) no_rows

    abbrev bones_step : List Pooled → Res (Option Rows × Tables)
    bones_step q = read_bones_at sec ample head.bones_at n (begun q)

    abbrev list_step : ListTable → ℕ → ℕ → Lists → List Pooled → Res (Option Rows × Tables)
    list_step l va m ls q = read_list sec ample l va m (filled ls q)

    skeleton-reads :
        (p1 p2 p3 p4 p5 p6 : List Pooled) → Reads buckets_step (length cs) (length cs) (begun p1) →
        Reads (bones_step p1) n n (filled lists0 p2) →
        Reads (list_step inverse_table head.inverse_at n lists0 p2) n (length (inverses bones)) (filled lists1 p3) →
        Reads (list_step local_table head.local_at n lists1 p3) n (length (locals bones)) (filled lists2 p4) →
        Reads (list_step parents_table head.parents_at n lists2 p4) n (length (parents bones)) (filled lists3 p5) →
        Reads (list_step children_table head.children_at (length ks) lists3 p5) (length ks) (length ks) (filled lists4 p6) →
        length p6 < 262144 → (q : List Pooled) × (read_new_skeleton sec ample base no_rows ≡ done (skeleton_back, tables_back q))
    unfolding read_new_skeleton
    skeleton-reads p1 p2 p3 p4 p5 p6 e1 e2 e3 e4 e5 e6 r =
        let t = tables chained final (up_from 0 n) lists4 [] p6 in
        let z = put_goes (λ a. Unit {0}) (λ a. Unit {0}) (λ a u. tt) ample base skeleton (rows 0 1) t tt (λ p m. tt) r in
        let e0 =
        header-back (layout bones free) gfx ok.small at free n (length cs) (length ks) (headed_fits bones free ok)
        (laid bones free).skeleton in
        let e7 = columns_kept chained lists4 [] p6 bones placed length-placed refl in
        (z.pool, rw e0 (rw e1 (rw e2 (rw e3 (rw e4 (rw e5 (rw e6 (rw e7 (rw z.gives)))))))))

    -- nothing was pooled at the root
    from_root :
        (q : List Pooled) → read_new_skeleton sec ample base no_rows ≡ done (skeleton_back, tables_back q) →
        read_skeleton sec ample base no_rows ≡ done (Some skeleton_back, tables_back q)
    unfolding read_skeleton skeleton_from find as_kind
    from_root q e = rw e

    -- ---- each step goes through

    buckets_stage : Goes buckets_step (λ p. (listed_of (length cs) (rows 0 (length cs)), begun p)) (Below (base + at.bones)) 65536
    buckets_stage =
        let l = laid bones free in
        let c : length cs ≤ 65535 = omega (arith, length-chains (tags bones), bucket_count_le (length (tags bones))) in
        let e : entry_total cs ≤ 65535 =
        omega (arith, entry_total-chains (tags bones), length-map bones (λ (b : NamedBone). b.tag), ok.few) in
        let k =
        array_goes (layout bones free) gfx ok.small ample at.buckets at.entries cs
        (chains_of-fit bones ok.few ok.fit) l.buckets (padded-at l.entries) o.entries c e (omega (arith, e)) in
        record {
          pool = k.pool;
          gives = k.gives;
          holds = λ p m. omega (arith, k.holds p m, o.bones);
          count = omega (arith, k.count, e);
        }

    bones_stage :
        (q : List Pooled) → Pooling (Below (base + at.bones)) q → length q ≤ 65536 →
        Goes (bones_step q) (λ p. (listed_of n (rows 0 n), filled lists0 p)) (Below (base + at.inverse)) 196607
    bones_stage q h r =
        let l = laid bones free in
        let k =
        block_goes (layout bones free) gfx ok.small ample at.bones at.names bones (begun q) ok.fit ok.names
        (padded-at l.block) (padded-at l.names) h o.names (omega (arith, ok.few)) (omega (arith, ok.few)) in
        record {
          pool = k.pool;
          gives = k.gives
              ∙ ap (λ m. done (listed_of n (rows 0 n), tables chained placed (up_from 0 m) lists0 [] k.pool)) length-placed;
          holds = λ p m. omega (arith, k.holds p m, o.inverse);
          count = omega (arith, k.count, ok.few);
        }

    pub section-reads : (q : List Pooled) × (read_skeleton sec ample base no_rows ≡ done (Some skeleton_back, tables_back q))
    section-reads =
        let l = laid bones free in
        let list = list_goes (layout bones free) gfx ok.small ample in
        let i = length-inverses bones in
        let j = length_locals bones in
        let m : length (parents bones) ≡ n = length-map bones (λ (b : NamedBone). b.parent) in
        let k1 = buckets_stage in
        let k2 = bones_stage k1.pool k1.holds k1.count in
        let k3 =
        list inverse_table at.inverse at.local n (inverses bones) (filled lists0 k2.pool) (inverses-words bones) i
        l.inverse k2.holds (omega (arith, o.local)) (omega (arith, i, ok.few)) (omega (arith, k2.count)) in
        let k4 =
        list local_table at.local at.parents n (locals bones) (filled lists1 k3.pool) (locals-words bones ok.fit) j
        l.local k3.holds (omega (arith, o.parents)) (omega (arith, j, ok.few)) (omega (arith, k2.count, k3.count)) in
        let k5 =
        list parents_table at.parents at.children n (parents bones) (filled lists2 k4.pool)
        (parents-fit bones ok.fit) (omega (arith, m)) l.parents k4.holds (omega (arith, o.children))
        (omega (arith, m, ok.few)) (omega (arith, k2.count, k3.count, k4.count)) in
        let k6 =
        list children_table at.children (at.children + length ks) (length ks) ks (filled lists3 k5.pool)
        (kids-fit bones ok.fit) (omega arith) l.children k5.holds (omega arith) (omega (arith, ok.kids))
        (omega (arith, k2.count, k3.count, k4.count, k5.count)) in
        let k =
        skeleton-reads k1.pool k2.pool k3.pool k4.pool k5.pool k6.pool k1.gives k2.gives k3.gives
        k4.gives k5.gives k6.gives (omega (arith, k2.count, k3.count, k4.count, k5.count, k6.count)) in
        (k.0, from_root k.0 k.1)

    -- ---- what the rows stand for

    named_final : map (naming (name_bytes sec)) final ≡ bones
    named_final =
        kept-named (name_bytes sec) bones placed
        (names-back (layout bones free) gfx ok.small at.names bones (padded-at (laid bones free).names))

    section-bones : (q : List Pooled) → bones_read skeleton_back.bones (tables_back q) ≡ final
    section-bones q = bones_read_lem chained lists4 (skeleton_back ∷ []) q n final (length-kept_rows bones placed ∙ length-placed)

    pub section-named : (q : List Pooled) → map (naming (name_bytes sec)) (bones_read skeleton_back.bones (tables_back q)) ≡ bones
    section-named q = ap (map (naming (name_bytes sec))) (section-bones q) ∙ named_final

    -- the lists are those derived from the bones with their names' bytes, and so from the rows: a name does not count
    derived_final : (q : List Pooled) → Derived final skeleton_back (tables_back q)
    derived_final q =
        let f = name_bytes sec in
        let t = tables_back q in
        let back = sym named_final in
        let tg : tags bones ≡ tags final = ap tags back ∙ tags-naming f final in
        let pr : parents bones ≡ parents final = ap parents back ∙ parents-naming f final in
        let ix : indices bones ≡ indices final = ap indices back ∙ indices-naming f final in
        let m : length (parents bones) ≡ n = length-map bones (λ (b : NamedBone). b.parent) in
        let i = length-inverses bones in
        let j = length_locals bones in
        record {
          same_chains = subst (λ x. ChainsFrom t.chained.entries (links_read skeleton_back.buckets t) (chains x)) tg
              (chains_read_lem cs t refl);
          same_parents = list_read_lem parents_table n (parents bones) t (omega (arith, m)) refl ∙ pr;
          same_children = list_read_lem children_table (length ks) ks t (omega arith) refl ∙ (λ i. children (ix i) (pr i));
          same_inverse = list_read_lem inverse_table n (inverses bones) t i refl ∙ ap inverses back ∙ inverses-naming f final;
          same_local = list_read_lem local_table n (locals bones) t j refl ∙ ap locals back ∙ locals-naming f final;
        }

    pub section-derived : (q : List Pooled) → Derived (bones_read skeleton_back.bones (tables_back q)) skeleton_back (tables_back q)
    section-derived q = subst (λ rs. Derived rs skeleton_back (tables_back q)) (sym (section-bones q)) (derived_final q)
