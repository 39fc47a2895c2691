-- The ways out of `fill`: the format's reading of a skeleton taken apart as the code reads it, and what each stage leaves to the
-- next. Assumes nothing.
use Rattle.std.specs.Prelude.{Err, Ok, Result}
use Prim.Native.Nat.{ℕ}
use mathlib.Core.Path.{◌≡◌, refl, sym, ap, subst, ◌∙◌}
use Rattle.std.specs.Prelude.{Option, None, Some}
use mathlib.Core.List.{List, flat_map}
use lib.ListN.{length}
use Rattle.format.specs.Result.{Res, refused, done, ◌>>=◌}
use Rattle.format.specs.Refusal.{outcome_by}
use Rattle.format.specs.declared.Refusal.{Refusal}
use Rattle.format.specs.Section.{Section, Place}
use Rattle.format.specs.Bone.{Bone}
use Rattle.format.specs.Records as format
use Rattle.format.specs.Records.{header}
use Rattle.format.specs.Rows.{laid, cleared, bone_words, entry_words, table_words}
use Rattle.format.specs.Tables.{inverse_table, local_table, parents_table, children_table, skeleton}
use Rattle.format.specs.Tables.{Rows, rows, pooled, SkeletonRow, Tables, Room, no_rows}
use Rattle.format.specs.Tables.{with_pool, with_bones, add_skeleton, put}
use Rattle.format.specs.Read.{Step, read_bucket_array, read_bones_at, read_list, keep_columns, skeleton_row, read_new_skeleton}
use Rattle.tables.proofs.Laid.{laid_none}
use Rattle.blocks.specs.Pool.{Stores}
use Rattle.blocks.proofs.Storing.{after, tables-done, tables-full}
use Rattle.read_chains.specs.Lent.{HoldsChains}
use Rattle.read_chains.proofs.Lent.{holds-none}
use Rattle.read_records.specs.Header.{meant_header}
use Rattle.read.specs.Parts.{meant_part, listing, read_rows, rows_only, RowsLent, RowsBy, ReadsRows}
use Rattle.read.specs.Parts.{read_pair, PairLent, PairBy, ReadsPair, KeepsPart}
use Rattle.read.specs.Lent.{Lent, lent, read_room, cleared_all}
use Rattle.read.specs.Reads.{meant_skeleton, Fills}
use Rattle.read.specs.declared.Skeleton.{Skeleton}
use Rattle.read_records.specs.declared.header.Header.{Header}

-- ---- the format's reading, two parts at a time

abbrev Two_of : Type 0
Two_of = (Option Rows × Option Rows) × Tables

both_by :
    {B C : Type 0} (a : Option Rows) (n : Step B) (k : (Option Rows × B) × Tables → Res C) →
    (n >>= λ b. k ((a, b.0), b.1)) ≡ ((n >>= λ b. done ((a, b.0), b.1)) >>= k)
both_by a (refused c) k = refl
both_by a (done b) k = refl

both :
    {B C : Type 0} (m : Step (Option Rows)) (f : Option Rows × Tables → Step B) (k : (Option Rows × B) × Tables → Res C) →
    (m >>= λ a. f a >>= λ b. k ((a.0, b.0), b.1)) ≡ ((m >>= λ a. f a >>= λ b. done ((a.0, b.0), b.1)) >>= k)
both (refused c) f k = refl
both (done a) f k = both_by a.0 (f a) k

module _ (sec : Section) (room : Room) (root : ℕ) (h : format.Header) where
  -- what is left to do behind all the parts
  abbrev ending : Two_of → Two_of → Two_of → Step SkeletonRow
  ending x y z =
      put room root skeleton (rows (length z.1.skeletons) 1) (keep_columns x.0.1 y.0.1 z.1) >>= λ t.
      (let s = skeleton_row h x.0.0 x.0.1 y.0.0 y.0.1 z.0.0 z.0.1 in done (s, add_skeleton s t))

  abbrev indices : Two_of → Two_of → Step SkeletonRow
  indices x y =
      read_list sec room parents_table h.parents_at h.bone_count y.1 >>= λ a.
      read_list sec room children_table h.children_at h.child_count a.1 >>= λ b.
      ending x y ((a.0, b.0), b.1)

  abbrev matrices : Two_of → Step SkeletonRow
  matrices x =
      read_list sec room inverse_table h.inverse_at h.bone_count x.1 >>= λ a.
      read_list sec room local_table h.local_at h.bone_count a.1 >>= λ b.
      indices x ((a.0, b.0), b.1)

  to_rows :
      header sec root ≡ done h → (t : Tables) → read_new_skeleton sec room root t ≡ (read_rows sec room h t >>= matrices)
  unfolding read_new_skeleton read_rows
  to_rows e t =
      rw e
      (both (read_bucket_array sec room h.buckets_at h.bucket_count t)
      (λ a. read_bones_at sec room h.bones_at h.bone_count a.1) matrices)

  to_matrices :
      (x : Two_of) →
      matrices x
      ≡ (read_pair sec room inverse_table h.inverse_at h.bone_count h.local_at h.bone_count x.1 >>= indices x)
  unfolding read_pair
  to_matrices x =
      both (read_list sec room inverse_table h.inverse_at h.bone_count x.1)
      (λ a. read_list sec room local_table h.local_at h.bone_count a.1) (indices x)

  to_indices :
      (x y : Two_of) →
      indices x y
      ≡ (read_pair sec room parents_table h.parents_at h.bone_count h.children_at h.child_count y.1 >>= ending x y)
  unfolding read_pair
  to_indices x y =
      both (read_list sec room parents_table h.parents_at h.bone_count y.1)
      (λ a. read_list sec room children_table h.children_at h.child_count a.1) (ending x y)

-- keeping columns changes the bones alone
columns_bones : (o l : Option Rows) (t : Tables) → keep_columns o l t ≡ with_bones (keep_columns o l t).bones t
columns_bones None l t = refl
columns_bones (Some b) None t = refl
columns_bones (Some b) (Some l) t = refl

-- ---- tables that are all zero

-- one table of them, by what it is of all
zero-at : (f : Lent → List ℕ) {t : Lent} → t ≡ cleared_all t → f t ≡ f (cleared_all t)
zero-at f z = ap f z

module _ {o b e i l a c p : List ℕ} (z : lent o b e i l a c p ≡ cleared_all (lent o b e i l a c p)) where
  rows-lent : RowsLent (read_room (lent o b e i l a c p)) o b e p
  unfolding flat_map
  rows-lent =
      let room = read_room (lent o b e i l a c p) in
      let zb : b ≡ cleared (length b) = zero-at (λ t. t.buckets) z in
      let ze : e ≡ cleared (length e) = zero-at (λ t. t.entries) z in
      let zp : p ≡ cleared (length p) = zero-at (λ t. t.pool) z in
      record {
        holds =
            subst (λ (x : List ℕ). HoldsChains room no_rows 0 0 x e p) (sym zb)
            (subst (λ (x : List ℕ). HoldsChains room no_rows 0 0 (cleared (length b)) x p) (sym ze)
            (subst (λ (x : List ℕ). HoldsChains room no_rows 0 0 (cleared (length b)) (cleared (length e)) x) (sym zp)
            (holds-none room (length b) (length e) (length p) refl refl refl)));
        bones = record { size = refl; rows = zero-at (λ t. t.bones) z ∙ sym (laid_none (length o)) };
      }

-- ---- the ways out

-- the skeleton as the code makes it
abbrev pub skeleton_of : Header → (bs ms is ls ps cs : Option ℕ) → Skeleton
skeleton_of h bs ms is ls ps cs =
    record {
      kind = h.kind;
      free = h.free;
      bucket_count = h.bucket_count;
      bone_count = h.bone_count;
      child_count = h.child_count;
      buckets = bs;
      bones = ms;
      inverse = is;
      local = ls;
      parents = ps;
      children = cs;
    }

module _ (o₀ b₀ e₀ i₀ l₀ a₀ c₀ p₀ : List ℕ) where
  abbrev given : Lent
  given = lent o₀ b₀ e₀ i₀ l₀ a₀ c₀ p₀

  abbrev room : Room
  room = read_room given

  abbrev Zero : Type 0
  Zero = given ≡ cleared_all given

  module _ (sec : Section) (root : ℕ) (v : Result Header Refusal) (hd : outcome_by meant_header v ≡ header sec root) where
    pub fill_no_header : {x : Refusal} → v ≡ Err x → Fills sec root (Err x) given given
    unfolding read_new_skeleton
    fill_no_header i = record { fills = λ z. rw (sym hd ∙ ap (outcome_by meant_header) i) refl }

    module _
        {h : Header} (ih : v ≡ Ok h) {r₁ : Result (Option ℕ × Option ℕ) Refusal} {o₁ b e p₁ : List ℕ}
        (m₁ : ReadsRows sec h r₁ o₀ o₁ b₀ b e₀ e p₀ p₁)
      where
        rows-read :
            {y : Result (Option ℕ × Option ℕ) Refusal} → r₁ ≡ y → Zero →
            RowsBy room (read_rows sec room (meant_header h) no_rows) o₁ b e p₁ y
        rows-read i z =
            subst (λ (y : Result (Option ℕ × Option ℕ) Refusal). RowsBy room (read_rows sec room (meant_header h) no_rows) o₁ b e p₁ y) i
            (m₁.reads room (rows-lent z))

        from_rows :
            {g : Step (Option Rows × Option Rows)} → read_rows sec room (meant_header h) no_rows ≡ g →
            read_new_skeleton sec room root no_rows ≡ (g >>= matrices sec room root (meant_header h))
        from_rows e =
            to_rows sec room root (meant_header h) (sym hd ∙ ap (outcome_by meant_header) ih) no_rows
            ∙ ap (λ (g : Step (Option Rows × Option Rows)). g >>= matrices sec room root (meant_header h)) e

        pub fill-no_rows : {x : Refusal} → r₁ ≡ Err x → Fills sec root (Err x) given (lent o₁ b e i₀ l₀ a₀ c₀ p₁)
        fill-no_rows i = record { fills = λ z. from_rows (rows-read i z) }

        module _
            {x₁ y₁ : Option ℕ} (d₁ : r₁ ≡ Ok (x₁, y₁)) {r₂ : Result (Option ℕ × Option ℕ) Refusal} {i l p₂ : List ℕ}
            (m₂ : ReadsPair sec inverse_table h.inverse_at h.bone_count h.local_at h.bone_count r₂
            i₀ i l₀ l p₁ p₂)
          where
            -- the tables with the chains and the bones
            abbrev t₁ : Zero → Tables
            t₁ z = let w = rows-read d₁ z in rows_only w.chained w.bones w.pool

            abbrev x : Zero → Two_of
            x z = ((meant_part x₁, meant_part y₁), t₁ z)

            matrices_lent : (z : Zero) → PairLent inverse_table room (t₁ z) i₀ l₀ p₁
            matrices_lent z =
                record {
                  pool = (rows-read d₁ z).held;
                  no_first = refl;
                  no_second = refl;
                  zero-first = zero-at (λ t. t.inverse) z;
                  zero-second = zero-at (λ t. t.local) z;
                  room-first = refl;
                  room-second = refl;
                  lists = (rows-read d₁ z).lists;
                }

            abbrev pair₂ : Zero → Step (Option Rows × Option Rows)
            pair₂ z =
                read_pair sec room inverse_table h.inverse_at h.bone_count h.local_at h.bone_count (t₁ z)

            matrices_read :
                {y : Result (Option ℕ × Option ℕ) Refusal} → r₂ ≡ y → (z : Zero) →
                PairBy inverse_table room (t₁ z) (pair₂ z) i₀ i l₀ l p₂ y
            matrices_read j z =
                subst (λ (y : Result (Option ℕ × Option ℕ) Refusal). PairBy inverse_table room (t₁ z) (pair₂ z) i₀ i l₀ l p₂ y) j
                (m₂.reads room (t₁ z) (matrices_lent z))

            from_matrices :
                (z : Zero) {g : Step (Option Rows × Option Rows)} → pair₂ z ≡ g →
                read_new_skeleton sec room root no_rows ≡ (g >>= indices sec room root (meant_header h) (x z))
            from_matrices z e =
                from_rows (rows-read d₁ z).is ∙ to_matrices sec room root (meant_header h) (x z)
                ∙ ap (λ (g : Step (Option Rows × Option Rows)). g >>= indices sec room root (meant_header h) (x z)) e

            pub fill_no_matrices :
                {x : Refusal} → r₂ ≡ Err x → Fills sec root (Err x) given (lent o₁ b e i l a₀ c₀ p₂)
            fill_no_matrices j = record { fills = λ z. from_matrices z (matrices_read j z) }

            module _
                {x₂ y₂ : Option ℕ} (d₂ : r₂ ≡ Ok (x₂, y₂)) {r₃ : Result (Option ℕ × Option ℕ) Refusal} {a c p₃ : List ℕ}
                (m₃ : ReadsPair sec parents_table h.parents_at h.bone_count h.children_at h.child_count r₃
                a₀ a c₀ c p₂ p₃)
              where
                -- the tables with the matrices too
                abbrev t₂ : Zero → Tables
                t₂ z =
                    let w = matrices_read d₂ z in
                    listing local_table w.second w.pool (listing inverse_table w.first w.pool (t₁ z))

                abbrev y : Zero → Two_of
                y z = ((meant_part x₂, meant_part y₂), t₂ z)

                indices-lent : (z : Zero) → PairLent parents_table room (t₂ z) a₀ c₀ p₂
                indices-lent z =
                    record {
                      pool = (matrices_read d₂ z).held;
                      no_first = refl;
                      no_second = refl;
                      zero-first = zero-at (λ t. t.parents) z;
                      zero-second = zero-at (λ t. t.children) z;
                      room-first = refl;
                      room-second = refl;
                      lists = (matrices_read d₂ z).lists;
                    }

                abbrev pair₃ : Zero → Step (Option Rows × Option Rows)
                pair₃ z =
                    read_pair sec room parents_table h.parents_at h.bone_count h.children_at h.child_count
                    (t₂ z)

                indices-read :
                    {q : Result (Option ℕ × Option ℕ) Refusal} → r₃ ≡ q → (z : Zero) →
                    PairBy parents_table room (t₂ z) (pair₃ z) a₀ a c₀ c p₃ q
                indices-read j z =
                    subst (λ (q : Result (Option ℕ × Option ℕ) Refusal). PairBy parents_table room (t₂ z) (pair₃ z) a₀ a c₀ c p₃ q) j
                    (m₃.reads room (t₂ z) (indices-lent z))

                from_indices :
                    (z : Zero) {g : Step (Option Rows × Option Rows)} → pair₃ z ≡ g →
                    read_new_skeleton sec room root no_rows ≡ (g >>= ending sec room root (meant_header h) (x z) (y z))
                from_indices z e =
                    from_matrices z (matrices_read d₂ z).is ∙ to_indices sec room root (meant_header h) (x z) (y z)
                    ∙ ap (λ (g : Step (Option Rows × Option Rows)). g >>= ending sec room root (meant_header h) (x z) (y z)) e

                pub fill_no_indices :
                    {x : Refusal} → r₃ ≡ Err x → Fills sec root (Err x) given (lent o₁ b e i l a c p₃)
                fill_no_indices j = record { fills = λ z. from_indices z (indices-read j z) }

                module _
                    {x₃ y₃ : Option ℕ} (d₃ : r₃ ≡ Ok (x₃, y₃)) {o p : List ℕ} (k : KeepsPart y₁ y₂ l o₁ o)
                    {s : Result (Unit {0}) Refusal}
                    (w : Stores (pooled root skeleton (rows 0 1)) s p₃ p)
                  where
                    -- the tables with every part
                    abbrev t₃ : Zero → Tables
                    t₃ z =
                        let w = indices-read d₃ z in
                        listing children_table w.second w.pool (listing parents_table w.first w.pool (t₂ z))

                    -- the bones with their kept words
                    abbrev kept : Zero → List (Bone Place)
                    kept z = (keep_columns (meant_part y₁) (meant_part y₂) (t₃ z)).bones

                    abbrev row : SkeletonRow
                    row = meant_skeleton (skeleton_of h x₁ y₁ x₂ y₂ x₃ y₃)

                    abbrev finish : Res Tables → Step SkeletonRow
                    finish g = g >>= λ t. done (row, add_skeleton row t)

                    from_all :
                        (z : Zero) {g : Res Tables} → put room root skeleton (rows 0 1) (with_bones (kept z) (t₃ z)) ≡ g →
                        read_new_skeleton sec room root no_rows ≡ finish g
                    from_all z e =
                        from_indices z (indices-read d₃ z).is
                        ∙ ap (λ (t : Tables). finish (put room root skeleton (rows 0 1) t))
                        (columns_bones (meant_part y₁) (meant_part y₂) (t₃ z))
                        ∙ ap finish e

                    pub fill-full : {y : Refusal} → s ≡ Err y → Fills sec root (Err y) given (lent o b e i l a c p)
                    fill-full f =
                        record {
                          fills =
                              λ z.
                              from_all z
                              (tables-full room (with_bones (kept z) (t₃ z)) root skeleton (rows 0 1) w
                              (indices-read d₃ z).held f);
                        }

                    pub fill_done :
                        {v : Unit {0}} → s ≡ Ok v →
                        length o ≡ length o₀ → length b ≡ length b₀ → length e ≡ length e₀ → length l ≡ length l₀ →
                        Fills sec root (Ok (skeleton_of h x₁ y₁ x₂ y₂ x₃ y₃)) given (lent o b e i l a c p)
                    unfolding table_words
                    fill_done f so sb se sl =
                        record {
                          fills =
                              λ z.
                              let g₁ = rows-read d₁ z in
                              let g₂ = matrices_read d₂ z in
                              let g₃ = indices-read d₃ z in
                              let bones =
                              k.keeps room.bones (t₃ z) g₁.own-bones refl g₁.fits
                              (g₂.own-second ∙ ap (laid g₂.second) (sym sl)) g₂.fits in
                              let eo = bones.rows ∙ ap (laid (flat_map bone_words (kept z))) so in
                              let eb = g₁.own-buckets ∙ ap (laid g₁.chained.buckets) sb in
                              let ee = g₁.own-entries ∙ ap (laid (flat_map entry_words g₁.chained.entries)) se in
                              record {
                                u =
                                    add_skeleton row (with_pool (after w g₃.held) (with_bones (kept z) (t₃ z)));
                                is =
                                    from_all z
                                    (tables-done room (with_bones (kept z) (t₃ z)) root skeleton (rows 0 1) w g₃.held f);
                                tables =
                                    λ j.
                                    lent (eo j) (eb j) (ee j) (g₂.own_first j) (g₂.own-second j) (g₃.own_first j)
                                    (g₃.own-second j) p;
                              };
                        }
