-- The check as its stages: reading's answer, the room, chains, indices and matrices give the format's answer, and the tables hold
-- what it says. Assumes nothing.
use Rattle.std.specs.Prelude.{Result}
use Rattle.format.specs.declared.Refusal.{Refusal}
use Rattle.format.specs.Refusal.{outcome}
use Prim.Native.Nat.{ℕ, ◌*◌, ◌≤◌}
use mathlib.Core.Path.{◌≡◌, refl, sym, ap, subst, ◌∙◌}
use mathlib.Core.Bool.{Bool, true, false}
use Rattle.std.specs.Prelude.{Option, None, Some, Ok, Err}
use lib.ListN.{length}
use Rattle.format.specs.Result.{Res, refused, done, ◌>>=◌, need}
use Rattle.format.specs.Section.{Section}
use Rattle.format.specs.Deriving.{derives}
use Rattle.format.specs.Rows.{bone_width, cleared}
use Rattle.format.specs.Tables.{SkeletonRow, Tables, no_rows}
use Rattle.format.specs.Read.{Step, read_skeleton}
use Rattle.format.specs.Check.{Read, verdict, check_from, read, check}
use Rattle.rows.proofs.Rows.{length-bones_of}
use Rattle.format.specs.Tables.{part_length}
use Rattle.check_stages.specs.Agreement.{chains_agree, indices_agree, matrices_agree, chains_stage, indices_stage, matrices_stage}
use Rattle.check_stages.proofs.Verdict.{verdict_stages, room-tags, room-indices, room_matrices}
use Rattle.read_laws.specs.Bytes.{SectionBytes}
use Rattle.read_laws.specs.ReadIn.{read_in}
use Rattle.read_laws.proofs.Held.{read-few, read_rows_lem, read_held}
use Rattle.read.specs.Lent.{Lent, read_room, cleared_all}
use Rattle.read.specs.Reads.{meant_skeleton, meant_read, answer_of, read_leaves, Reads}
use Rattle.read.specs.declared.Skeleton.{Skeleton}
use Rattle.read.proofs.Whole.{Sizes}
use Rattle.tables.specs.Working.{Working, room_in, Zeroed}
use Rattle.check_steps.specs.Steps.{counts_of, begun, behind, kept_by}
use Rattle.read.specs.Parts.{part_rows}
use Rattle.check_steps.specs.declared.Counts.{Counts}
use Rattle.check_steps.proofs.Answers.{skeleton-is}
use Rattle.verify.specs.Checks.{leaves_by, Checks}

-- ---- the verdict as tests one behind another

three-behind :
    (n : ℕ) (f g h : ℕ → Res (Unit {0})) (a b c : Res (Unit {0})) → f n ≡ a → g n ≡ b → h n ≡ c →
    ((a >>= λ u. b >>= λ u. c >>= λ u. done n) >>= λ m. done (Some m)) ≡ behind (behind (behind (done (Some n)) f) g) h
three-behind n f g h (refused x) b c ea eb ec = rw ea refl
three-behind n f g h (done u) (refused x) c ea eb ec = rw (ea, eb) refl
three-behind n f g h (done u) (done v) (refused x) ea eb ec = rw (ea, eb, ec) refl
three-behind n f g h (done u) (done v) (done w) ea eb ec = rw (ea, eb, ec) refl

-- the same behind the test of the room, where there is room
with_room :
    (n : ℕ) (d : Bool) (f g h : ℕ → Res (Unit {0})) (a b c : Res (Unit {0})) →
    (d ≡ true → f n ≡ a) → (d ≡ true → g n ≡ b) → (d ≡ true → h n ≡ c) →
    ((need 1 d >>= λ u. a >>= λ u. b >>= λ u. c >>= λ u. done n) >>= λ m. done (Some m))
    ≡ behind (behind (behind (need 1 d >>= λ u. done (Some n)) f) g) h
with_room n false f g h a b c ea eb ec = refl
with_room n true f g h a b c ea eb ec = three-behind n f g h a b c (ea refl) (eb refl) (ec refl)

-- the stages for n bones, over the tables t of a reading with counts k and the working tables x
module _ (k : Counts) (t : Lent) (x : Working) where
  abbrev pub chains_test : ℕ → Res (Unit {0})
  chains_test n =
      chains_stage n t.bones k.buckets t.buckets t.entries (length x.buckets) (length x.entries)

  abbrev pub indices_test : ℕ → Res (Unit {0})
  indices_test n =
      indices_stage n t.bones k.parents t.parents k.children t.children (length x.parents) (length x.children)
      (length x.pending)

  abbrev pub matrices_test : ℕ → Res (Unit {0})
  matrices_test n =
      matrices_stage n t.bones k.inverse t.inverse k.local t.local (length x.inverse) (length x.local)

  -- all of them, behind an answer
  abbrev pub staged : Res (Option ℕ) → Res (Option ℕ)
  staged a = behind (behind (behind a chains_test) indices_test) matrices_test

  verdict-behind :
      (n : ℕ) → n ≤ 65535 → bone_width * n ≤ length t.bones →
      (verdict (room_in x)
      (read_in n t.bones k.buckets t.buckets t.entries k.inverse t.inverse k.local t.local k.parents
      t.parents k.children t.children)
      >>= λ m. done (Some m))
      ≡ staged (need 1 (derives (room_in x) n) >>= λ u. done (Some n))
  verdict-behind n few rows =
      let r =
      read_in n t.bones k.buckets t.buckets t.entries k.inverse t.inverse k.local t.local k.parents
      t.parents k.children t.children in
      let c = chains_agree r.bones r.chains in
      let i = indices_agree r.bones r.parents r.children in
      let m = matrices_agree r.bones r.inverse r.local in
      rw (verdict_stages (room_in x) r, length-bones_of n t.bones)
      (with_room n (derives (room_in x) n) chains_test indices_test matrices_test c i m
      (λ d. rw (room-tags n t.bones _ _ _ _ _ _ _ few rows d) refl)
      (λ d. rw (room-indices n t.bones _ _ _ _ _ _ _ few rows d) refl)
      (λ d. rw (room_matrices n t.bones _ _ _ _ _ _ _ few rows d) refl))

-- ---- the check as its stages

module _ (sec : Section) (bytes : SectionBytes sec) (root : ℕ) (t₀ t₁ : Lent) (x : Working) where
  -- of a reading that gave a skeleton
  read_staged :
      (y : Skeleton) (u : Tables) → read_skeleton sec (read_room t₀) root no_rows ≡ done (Some (meant_skeleton y), u) →
      t₁ ≡ read_leaves (done (Some (meant_skeleton y), u)) t₀ →
      check sec (read_room t₀) (room_in x) root
      ≡ staged (counts_of (Ok (Some y))) t₁ x (need 1 (derives (room_in x) (part_rows y.bones)) >>= λ n. done (Some (part_rows y.bones)))
  unfolding check read check_from
  read_staged y u e l =
      let s = meant_skeleton y in
      let few = read-few sec bytes (read_room t₀) root s u e in
      let rows = read_rows_lem sec bytes (read_room t₀) root s u e (length t₀.bones) (ap (λ (t : Lent). t.bones) l) in
      let held = read_held sec bytes (read_room t₀) root s u e t₀ t₁ (cleared (length t₀.pool)) l in
      rw e
      (ap (λ (z : Read). verdict (room_in x) z >>= λ m. done (Some m)) held
      ∙ verdict-behind (counts_of (Ok (Some y))) t₁ x (part_rows y.bones)
      few rows)

  module _ {r : Result (Option Skeleton) Refusal} (m : Reads (read_skeleton sec (read_room t₀) root no_rows) r t₀ t₁) where
    abbrev Staged : Result (Option Skeleton) Refusal → Type 0
    Staged r =
        check sec (read_room t₀) (room_in x) root
        ≡ staged (counts_of r) t₁ x (begun (meant_read r) (counts_of r).bones (derives (room_in x) (counts_of r).bones))

    check_staged : Staged r
    unfolding check read check_from
    check_staged = go (read_skeleton sec (read_room t₀) root no_rows) refl m.answer m.tables
      where
        go :
            (v : Step (Option SkeletonRow)) → read_skeleton sec (read_room t₀) root no_rows ≡ v → meant_read r ≡ answer_of v →
            t₁ ≡ read_leaves v t₀ → Staged r
        go (refused c) e a l = rw (e, a) refl
        go (done (None, u)) e a l = rw (e, a) refl
        go (done (Some s, u)) e a l =
            let i = skeleton-is r s a in
            subst Staged (sym i.is)
            (read_staged i.skeleton u (e ∙ ap (λ (y : SkeletonRow). done (Some y, u)) (sym i.meant))
            (l ∙ ap (λ (y : SkeletonRow). read_leaves (done (Some y, u)) t₀) (sym i.meant)))

-- ---- tables

same_clear : {a b : Lent} → Sizes a b → cleared_all a ≡ cleared_all b
same_clear s = simp (s.bones, s.buckets, s.entries, s.inverse, s.local, s.parents, s.children, s.pool)

kept-left :
    (v : Result (Option ℕ) Refusal) (g : Step (Option SkeletonRow)) (t₀ t₁ : Lent) → Sizes t₁ t₀ → t₁ ≡ read_leaves g t₀ →
    kept_by v t₁ ≡ leaves_by (outcome v) g t₀
kept-left (Ok None) g t₀ t₁ s l = same_clear s
kept-left (Ok (Some n)) g t₀ t₁ s l = l
kept-left (Err y) g t₀ t₁ s l = same_clear s

-- ---- the whole call

module _
    (sec : Section) (bytes : SectionBytes sec) (root : ℕ) (t₀ t₁ t : Lent) (x₀ x : Working) {r : Result (Option Skeleton) Refusal}
    (m : Reads (read_skeleton sec (read_room t₀) root no_rows) r t₀ t₁) (s : Sizes t₁ t₀) {k : Counts} (ek : k ≡ counts_of r)
    (b c i v y : Result (Option ℕ) Refusal)
  where
    pub check-whole :
        outcome b ≡ begun (meant_read r) k.bones (derives (room_in x₀) k.bones) →
        outcome c ≡ behind (outcome b) (chains_test k t₁ x₀) →
        outcome i ≡ behind (outcome c) (indices_test k t₁ x₀) →
        outcome v ≡ behind (outcome i) (matrices_test k t₁ x₀) →
        y ≡ v → t ≡ kept_by v t₁ → Zeroed x₀ x → Checks sec root y t₀ t x₀ x
    check-whole eb ec ei ev ey et w =
        let a : outcome v ≡ check sec (read_room t₀) (room_in x₀) root =
        ev
        ∙ ap (λ (z : Res (Option ℕ)). behind z (matrices_test k t₁ x₀))
        (ei
        ∙ ap (λ (z : Res (Option ℕ)). behind z (indices_test k t₁ x₀))
        (ec ∙ ap (λ (z : Res (Option ℕ)). behind z (chains_test k t₁ x₀)) eb))
        ∙ ap (λ (z : Counts). staged z t₁ x₀ (begun (meant_read r) z.bones (derives (room_in x₀) z.bones))) ek
        ∙ sym (check_staged sec bytes root t₀ t₁ x₀ m) in
        record {
          answer = ap outcome ey ∙ a;
          tables = et ∙ kept-left v (read_skeleton sec (read_room t₀) root no_rows) t₀ t₁ s m.tables
              ∙ ap (λ (z : Result (Option ℕ) Refusal). leaves_by (outcome z) (read_skeleton sec (read_room t₀) root no_rows) t₀) (sym ey);
          working = w;
        }
