-- The ways out of `search`: reading's answer, and the bones that its table holds (docs/FORMAT.md, "Joints and names").
-- Assumes nothing.
use Prim.Native.Nat.{ℕ, ◌-◌}
use native.Mathlib.Omega.{arith}
use mathlib.Core.Path.{◌≡◌, sym, ap, ◌∙◌}
use Rattle.std.specs.Prelude.{Option, None, Some, Result, Ok, Err}
use mathlib.Core.List.{List, flat_map}
use lib.ListN.{length, replicate}
use Rattle.format.specs.Result.{Res, refused, done, ◌>>=◌}
use Rattle.format.specs.Refusal.{number}
use Rattle.format.specs.declared.Refusal.{Refusal}
use Rattle.format.specs.Section.{Section, Place}
use Rattle.format.specs.Bone.{Bone}
use Rattle.format.specs.Rows.{laid, bone_words, bones_of, table_words}
use Rattle.format.specs.Tables.{SkeletonRow, Tables, no_rows}
use Rattle.format.specs.Read.{Step, read_skeleton}
use Rattle.format.specs.Check.{bones_read, read_from, read}
use Rattle.format.specs.Search as Definitions
use Rattle.format.specs.Search.{first_key, search_from}
use Rattle.format.specs.Tables.{part_length}
use Rattle.search.specs.First.{stored_names}
use Rattle.read.specs.Lent.{Lent, read_room}
use Rattle.read.specs.Parts.{meant_part}
use Rattle.read.specs.Reads.{meant_skeleton, answer_of, read_leaves, Reads}
use Rattle.read.specs.declared.Skeleton.{Skeleton}
use Rattle.read_laws.specs.Bytes.{SectionBytes}
use Rattle.read_laws.proofs.Bones.{bones_read_lem}
use Rattle.search.specs.Searched.{first_in}
use Rattle.read.specs.Parts.{part_rows}

-- ---- a reading's answer

-- the reading gives this
record Answered (g : Step (Option SkeletonRow)) (o : Option SkeletonRow) : Type 0 where
  u : Tables
  is : g ≡ done (o, u)

answered : (g : Step (Option SkeletonRow)) (o : Option SkeletonRow) → answer_of g ≡ done o → Answered g o
answered (refused c) o e = let z : ◌≡◌ {A = ℕ} 0 1 = cc in absurd (omega arith)
answered (done (a, u)) o e =
    let q : a ≡ o = cc in
    record { u = u; is = ap (λ (x : Option SkeletonRow). done (x, u)) q }

unanswered : (g : Step (Option SkeletonRow)) (c : ℕ) → answer_of g ≡ refused c → g ≡ refused c
unanswered (refused b) c e = let q : b ≡ c = cc in ap refused q
unanswered (done (a, u)) c e = let z : ◌≡◌ {A = ℕ} 0 1 = cc in absurd (omega arith)

-- the search by what reading gives
abbrev search_by : Section → ℕ → Step (Option SkeletonRow) → Res (Option ℕ)
search_by sec key g = g >>= (λ x. done (read_from x.0 x.1)) >>= λ r. done (search_from sec key r)

module _ (sec : Section) (root key : ℕ) (t₀ : Lent) where
  abbrev reading : Step (Option SkeletonRow)
  reading = read_skeleton sec (read_room t₀) root no_rows

  abbrev searched : Res (Option ℕ)
  searched = Definitions.search sec (read_room t₀) root key

  search_is : {g : Step (Option SkeletonRow)} → reading ≡ g → search_by sec key g ≡ searched
  unfolding Definitions.search read
  search_is e = ap (search_by sec key) (sym e)

  -- the table holds the bones read
  bones-held :
      {t : Lent} (s : Skeleton) → SectionBytes sec → (u : Tables) → reading ≡ done (Some (meant_skeleton s), u) → t ≡ read_leaves reading t₀ →
      bones_of (part_rows s.bones) t.bones ≡ bones_read (meant_part s.bones) u
  unfolding table_words
  bones-held {t} s bytes u e l =
      let words = flat_map bone_words u.bones in
      let rows : t.bones ≡ laid words (length t₀.bones) =
      ap (λ (x : Lent). x.bones) (l ∙ ap (λ (g : Step (Option SkeletonRow)). read_leaves g t₀) e) in
      ap (bones_of (part_length (meant_part s.bones))) rows
      ∙ (bones_read_lem sec bytes (read_room t₀) root (meant_skeleton s) u e).table (replicate (length t₀.bones - length words) 0)

  -- what was read, searched
  pub search-first :
      (r : Result (Option Skeleton) Refusal) {t : Lent} → Reads reading r t₀ t → SectionBytes sec → first_in sec key t.bones r ≡ searched
  search-first (Ok None) m bytes = search_is (answered reading None (sym m.answer)).is
  search-first (Err x) m bytes = search_is (unanswered reading (number x) (sym m.answer))
  search-first (Ok (Some s)) m bytes =
      let a = answered reading (Some (meant_skeleton s)) (sym m.answer) in
      ap (λ (l : List (Bone Place)). done (first_key key 0 (stored_names sec l))) (bones-held s bytes a.u a.is m.tables)
      ∙ search_is a.is
