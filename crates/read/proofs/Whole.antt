-- The ways out of `read`: root 0, a refusal, and a skeleton read. Assumes nothing.
use Rattle.std.specs.Prelude.{None}
use Rattle.std.specs.Prelude.{Err, Ok, Result}
use Prim.Native.Nat.{ℕ, zero, suc}
use mathlib.Core.Path.{◌≡◌, refl, sym, ap, subst, ◌∙◌}
use Rattle.std.specs.Prelude.{Option, Some}
use mathlib.Core.List.{List}
use lib.ListN.{length, length-replicate}
use Rattle.format.specs.Result.{refused, done, ◌>>=◌}
use Rattle.format.specs.Refusal.{number}
use Rattle.format.specs.declared.Refusal.{Refusal}
use Rattle.format.specs.Section.{Section}
use Rattle.format.specs.Rows.{cleared, table_words, TableWords}
use Rattle.format.specs.Tables.{SkeletonRow, Room, no_rows, find, as_kind}
use Rattle.format.specs.Read.{Step, read_new_skeleton, skeleton_from, read_skeleton}
use Rattle.read.specs.Lent.{Lent, lent, read_room, cleared_all, laid_all}
use Rattle.read.specs.Reads.{FilledBy, Fills, meant_read, answer_of, read_leaves, Reads}
use Rattle.read.specs.declared.Skeleton.{Skeleton}

-- ---- tables of the same lengths

pub record Sizes (a b : Lent) : Type 0 where
  pub bones : length a.bones ≡ length b.bones
  pub buckets : length a.buckets ≡ length b.buckets
  pub entries : length a.entries ≡ length b.entries
  pub inverse : length a.inverse ≡ length b.inverse
  pub local : length a.local ≡ length b.local
  pub parents : length a.parents ≡ length b.parents
  pub children : length a.children ≡ length b.children
  pub pool : length a.pool ≡ length b.pool

module _ {a b : Lent} (s : Sizes a b) where
  same_clear : cleared_all a ≡ cleared_all b
  same_clear = simp (s.bones, s.buckets, s.entries, s.inverse, s.local, s.parents, s.children, s.pool)

  same-room : read_room a ≡ read_room b
  same-room = simp (s.bones, s.buckets, s.entries, s.inverse, s.local, s.parents, s.children, s.pool)

  same-laid : (w : TableWords) (q : List ℕ) → laid_all w q a ≡ laid_all w q b
  same-laid w q = simp (s.bones, s.buckets, s.entries, s.inverse, s.local, s.parents, s.children)

sizes_clear : (t : Lent) → Sizes (cleared_all t) t
sizes_clear t =
    record {
      bones = length-replicate _ _;
      buckets = length-replicate _ _;
      entries = length-replicate _ _;
      inverse = length-replicate _ _;
      local = length-replicate _ _;
      parents = length-replicate _ _;
      children = length-replicate _ _;
      pool = length-replicate _ _;
    }

-- ---- a reading with an empty pool

-- a root that is not 0
reading-new :
    (sec : Section) (room : Room) (root : ℕ) → (root ≡ 0 → ⊥) →
    read_skeleton sec room root no_rows ≡ (read_new_skeleton sec room root no_rows >>= λ x. done (Some x.0, x.1))
unfolding read_skeleton skeleton_from as_kind find
reading-new sec room zero n = absurd (n refl)
reading-new sec room (suc a) n = refl

gives :
    {g : Step (Option SkeletonRow)} (v : Step (Option SkeletonRow)) (r : Result (Option Skeleton) Refusal) (t₀ t : Lent) → g ≡ v →
    meant_read r ≡ answer_of v → t ≡ read_leaves v t₀ → Reads g r t₀ t
gives v r t₀ t e a l = rw e (record { answer = a; tables = l })

module _ (sec : Section) (root : ℕ) (t₀ : Lent) where
  pub read_none : (t : Lent) → root ≡ 0 → t ≡ cleared_all t₀ → Reads (read_skeleton sec (read_room t₀) root no_rows) (Ok None) t₀ t
  unfolding read_skeleton
  read_none t z e = rw z (record { answer = refl; tables = e })

  module _
      (n : root ≡ 0 → ⊥) {t₁ : Lent} (e : t₁ ≡ cleared_all t₀) {r : Result Skeleton Refusal} {t₂ : Lent} (f : Fills sec root r t₁ t₂)
    where
      sized : Sizes t₁ t₀
      sized = rw e (sizes_clear t₀)

      filled : {y : Result Skeleton Refusal} → r ≡ y → FilledBy (read_new_skeleton sec (read_room t₀) root no_rows) t₁ t₂ y
      filled {y} i =
          subst (λ (x : Room). FilledBy (read_new_skeleton sec x root no_rows) t₁ t₂ y) (same-room sized)
          (subst (λ (y : Result Skeleton Refusal). FilledBy (read_new_skeleton sec (read_room t₁) root no_rows) t₁ t₂ y) i
          (f.fills (e ∙ sym (same_clear sized))))

      abbrev whole : Step SkeletonRow → Step (Option SkeletonRow)
      whole g = g >>= λ x. done (Some x.0, x.1)

      -- the fill refused, and its tables, of which only the lengths are known, were cleared
      pub read-refused :
          {x : Refusal} (t : Lent) → r ≡ Err x → Sizes t₂ t₁ → t ≡ cleared_all t₂ →
          Reads (read_skeleton sec (read_room t₀) root no_rows) (Err x) t₀ t
      read-refused {x} t i s l =
          gives (refused (number x)) (Err x) t₀ t
          (reading-new sec (read_room t₀) root n ∙ ap whole (filled i)) refl (l ∙ same_clear s ∙ same_clear sized)

      -- the tables hold the rows, and the pool was cleared
      pub read_done :
          {x : Skeleton} (p : List ℕ) → r ≡ Ok x → length t₂.pool ≡ length t₁.pool → p ≡ cleared (length t₂.pool) →
          Reads (read_skeleton sec (read_room t₀) root no_rows) (Ok (Some x)) t₀
          (lent t₂.bones t₂.buckets t₂.entries t₂.inverse t₂.local t₂.parents t₂.children p)
      read_done {x} p i s l =
          let d = filled i in
          let q : p ≡ cleared (length t₀.pool) = l ∙ ap cleared (s ∙ sized.pool) in
          gives (whole (done (_, d.u))) (Ok (Some x)) t₀ _
          (reading-new sec (read_room t₀) root n ∙ ap whole d.is) refl
          (with_pool_lem (table_words d.u) d.tables p ∙ same-laid sized (table_words d.u) p
          ∙ ap (λ (y : List ℕ). laid_all (table_words d.u) y t₀) q)
        where
          with_pool_lem :
              (w : TableWords) → t₂ ≡ laid_all w t₂.pool t₁ → (q : List ℕ) →
              lent t₂.bones t₂.buckets t₂.entries t₂.inverse t₂.local t₂.parents t₂.children q
              ≡ laid_all w q t₁
          with_pool_lem w e q =
              ap (λ (t : Lent). lent t.bones t.buckets t.entries t.inverse t.local t.parents t.children q) e
