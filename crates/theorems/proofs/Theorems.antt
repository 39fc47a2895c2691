-- Demand 3 of the calls, proved: the contracts make each answer the format's, `promises` has demand 3 of those, and `read_laws` finds the
-- bones read in their table. In order: the bones in the table; Exact; Found; Back. Assumes nothing.
use Rattle.format.specs.Refusal as refusal
use Rattle.std.specs.Prelude.{Ok}
use Rattle.std.specs.Prelude.{Result}
use Rattle.format.specs.declared.Refusal.{Refusal}
use Prim.Native.Nat.{ℕ, ◌≤◌}
use native.Mathlib.Omega.{arith}
use mathlib.Core.Path.{◌≡◌, sym, ap, subst, ◌∙◌}
use mathlib.Core.Logic.{◌↔◌}
use Rattle.std.specs.Prelude.{Option, Some}
use mathlib.Core.List.{List}
use lib.ListN.{length, length-map}
use lib.Dec.{T}
use Rattle.format.specs.Result.{done}
use Rattle.format.specs.Section.{Section, Place, name_bytes}
use Rattle.format.specs.Bone as B
use Rattle.format.specs.Bone.{Bone, naming}
use Rattle.format.specs.Deriving.{DeriveRoom, derives, tags}
use Rattle.format.specs.Tables.{SkeletonRow, Tables, no_rows}
use Rattle.format.specs.Read.{Step, read_skeleton}
use Rattle.format.specs.Rows.{laid, table_words, bones_of}
use Rattle.format.specs.Layout.{base}
use Rattle.format.specs.Lookup.{lookup}
use Rattle.format.specs.Write.{named}
use Rattle.format.specs.Check.{bones_read, check}
use Rattle.promises.specs.Meaning.{Holds, Sized, Sound, Right, Fits4, ReadsBack}
use Rattle.format.specs.Tables.{part_length}
use Rattle.promises.proofs.Check.{accepts_reads}
use Rattle.promises.proofs.Theorems.{theorems}
use Rattle.tables.specs.Front.{front_of}
use Rattle.blocks.specs.Places.{section}
use Rattle.rows.proofs.Rows.{length-bones_of}
use Rattle.read.specs.Lent as read
use Rattle.read.specs.Lent.{read_room}
use Rattle.read.specs.Reads.{answer_of, read_leaves}
use Rattle.read_laws.proofs.Held.{bones-held}
use Rattle.format.specs.Words.{meant_words4}
use Rattle.write.specs.Outcome.{outcome, Writes}
use Rattle.tables.specs.Working.{Working, room_in}
use Rattle.format.specs.declared.Words4.{Words4}
use Rattle.check_steps.proofs.Answers.{accepted, skeleton-is}
use Rattle.verify.specs.Checks.{leaves_by, Checks}
use Rattle.read_laws.specs.Bytes.{Bytes8, SectionBytes}
use Rattle.theorems.specs.Typed.{Words32}
use Rattle.theorems.specs.Theorems.{Accepting, SameBones, WrittenBack, Theorems}
use Rattle.theorems.proofs.Fitting.{bones-fit, front_bytes}
use Rattle.theorems.proofs.Answers.{accepted-is, written_is}

-- ---- the bones in the table

bones-left :
    {g : Step (Option SkeletonRow)} {s : SkeletonRow} {u : Tables} (t₀ t : read.Lent) → g ≡ done (Some s, u) → t ≡ read_leaves g t₀ →
    t.bones ≡ laid (table_words u).bones (length t₀.bones)
bones-left {s = s} {u = u} t₀ t e l =
    let k : t ≡ read_leaves (done (Some s, u)) t₀ = l ∙ ap (λ (x : Step (Option SkeletonRow)). read_leaves x t₀) e in
    ap (λ (x : read.Lent). x.bones) k

-- after a reading of bytes the table of bones holds the bones read
bones_in_lem :
    (sec : Section) → SectionBytes sec → (root : ℕ) (s : SkeletonRow) (u : Tables) (t₀ t : read.Lent) →
    read_skeleton sec (read_room t₀) root no_rows ≡ done (Some s, u) → t ≡ read_leaves (read_skeleton sec (read_room t₀) root no_rows) t₀ →
    bones_read s.bones u ≡ bones_of (part_length s.bones) t.bones
bones_in_lem sec small root s u t₀ t e l =
    bones-held sec small (read_room t₀) root s u e (length t₀.bones) (bones-left t₀ t e l)

-- ---- Exact

exact :
    (sec : Section) (root : ℕ) (t₀ t : read.Lent) (x₀ x : Working) (r : Result (Option ℕ) Refusal) → Checks sec root r t₀ t x₀ x →
    Sized sec root (read_room t₀) (room_in x₀) → Accepting r ↔ Sound sec root
exact sec root t₀ t x₀ x r c l =
    let k = theorems.exact sec root (read_room t₀) (room_in x₀) l in (
      λ a. k.0 (record { count = a.count; says = sym c.answer ∙ ap (λ (y : Result (Option ℕ) Refusal). refusal.outcome y) a.is }),
      λ s. let a = k.1 s in record { count = a.count; is = accepted r a.count (c.answer ∙ a.says) },
    )

-- ---- Found

-- where the check accepts n bones and leaves the reading's tables
pub found_at :
    (sec : Section) (root : ℕ) (t₀ t : read.Lent) (droom : DeriveRoom) (n : ℕ) → SectionBytes sec →
    check sec (read_room t₀) droom root ≡ done (Some n) → t ≡ read_leaves (read_skeleton sec (read_room t₀) root no_rows) t₀ →
    2 ≤ n → (tag : ℕ) → tag ≤ 65535 → Right (tags (bones_of n t.bones)) tag (lookup sec root tag)
found_at sec root t₀ t droom n bytes says left h tag small =
    let w = accepts_reads sec (read_room t₀) droom root n says in
    let count = (accepted-is sec (read_room t₀) droom root w.0 w.1 n w.2 says).count in
    let bones = bones_in_lem sec bytes root w.0 w.1 t₀ t w.2 left in
    let m : part_length w.0.bones ≡ n =
    sym (length-bones_of (part_length w.0.bones) t.bones) ∙ ap length (sym bones) ∙ count in
    let same : bones_read w.0.bones w.1 ≡ bones_of n t.bones = bones ∙ ap (λ (k : ℕ). bones_of k t.bones) m in
    subst (λ (y : List (Bone Place)). Right (tags y) tag (lookup sec root tag)) same
    (theorems.found sec root (read_room t₀) droom (record { count = n; says = says }) w.0 w.1
    (record { room = read_room t₀; gives = w.2 }) (omega (arith, h, count)) tag small)

found :
    (sec : Section) (root : ℕ) (t₀ t : read.Lent) (x₀ x : Working) (n : ℕ) → SectionBytes sec → Checks sec root (Ok (Some n)) t₀ t x₀ x →
    2 ≤ n → (tag : ℕ) → tag ≤ 65535 → (r : Result (Option ℕ) Refusal) → refusal.outcome r ≡ lookup sec root tag →
    Right (tags (bones_of n t.bones)) tag (refusal.outcome r)
found sec root t₀ t x₀ x n bytes c h tag small r looked =
    subst (Right (tags (bones_of n t.bones)) tag) (sym looked)
    (found_at sec root t₀ t (room_in x₀) n bytes (sym c.answer) c.tables h tag small)

-- ---- Back

length-named : (sec : Section) (bones : List (Bone Place)) → length (named sec bones) ≡ length bones
length-named sec bones = length-map bones (naming (name_bytes sec))

module _
    (lent : Section) (a : List ℕ) (n : ℕ) (free : Words4) (sec : Section) (bytes : SectionBytes sec)
    (b : ReadsBack lent (bones_of n a) (meant_words4 free) sec)
  where
    -- as many bones are read as were written
    read_count : length (bones_read b.skeleton.bones b.tables) ≡ n
    read_count =
        sym (length-named sec (bones_read b.skeleton.bones b.tables)) ∙ ap length b.same
        ∙ length-named lent (bones_of n a) ∙ length-bones_of n a

    -- a reading with tables that hold it
    pub reading :
        (t₀ : read.Lent) → Holds (read_room t₀) b.tables →
        read_skeleton sec (read_room t₀) base no_rows ≡ done (Some b.skeleton, b.tables)
    reading t₀ h = (theorems.room sec base b.skeleton b.tables b.reads (read_room t₀)).0 h

    module _
        (t₀ t : read.Lent) (h : Holds (read_room t₀) b.tables) (l : t ≡ read_leaves (read_skeleton sec (read_room t₀) base no_rows) t₀)
      where
        in_table : bones_read b.skeleton.bones b.tables ≡ bones_of (part_length b.skeleton.bones) t.bones
        in_table = bones_in_lem sec bytes base b.skeleton b.tables t₀ t (reading t₀ h) l

        pub counts : part_length b.skeleton.bones ≡ n
        counts = sym (length-bones_of (part_length b.skeleton.bones) t.bones) ∙ ap length (sym in_table) ∙ read_count

        pub same-bones : SameBones n lent a sec t.bones
        same-bones =
            ap (λ (k : ℕ). named sec (bones_of k t.bones)) (sym counts) ∙ ap (named sec) (sym in_table) ∙ b.same

    -- the check with tables that hold it
    pub check_accepts :
        (t₀ : read.Lent) (x₀ : Working) → Sized sec base (read_room t₀) (room_in x₀) →
        check sec (read_room t₀) (room_in x₀) base ≡ done (Some n)
    check_accepts t₀ x₀ l =
        let h = l.read b.skeleton b.tables b.reads in
        let d = l.derive b.skeleton b.tables b.reads in
        let m = length-bones_of n a in
        b.accepted (read_room t₀) (room_in x₀) h (subst (λ (k : ℕ). T (derives (room_in x₀) k)) (read_count ∙ sym m) d)
        ∙ ap (λ (k : ℕ). done (Some k)) m

    pub written_back : WrittenBack lent a n free sec
    written_back =
        record {
          accepted =
              λ t₀ t x₀ x r l c.
              let h = l.read b.skeleton b.tables b.reads in
              let i = accepted r n (c.answer ∙ check_accepts t₀ x₀ l) in (
                i,
                same-bones t₀ t h
                    (c.tables
                    ∙ ap (λ (y : Result (Option ℕ) Refusal). leaves_by (refusal.outcome y) (read_skeleton sec (read_room t₀) base no_rows) t₀) i),
              );
          reads =
              λ t₀ t r k g.
              let h = k b.skeleton b.tables b.reads in
              let s = skeleton-is r b.skeleton (g.answer ∙ ap answer_of (reading t₀ h)) in
              record {
                skeleton = s.skeleton;
                is = s.is;
                count = ap (λ (y : SkeletonRow). part_length y.bones) s.meant
                    ∙ counts t₀ t h g.tables;
                same = same-bones t₀ t h g.tables;
                free_words = ap (λ (y : SkeletonRow). y.free) s.meant ∙ b.free_words;
              };
        }

-- what was written reads back
pub reads_back_lem :
    (bones : List ℕ) (n : ℕ) (lent : Section) (free : B.Words4) (x : Working) (out out' : List ℕ) (size : ℕ) →
    Words32 bones → Fits4 free → Writes (outcome lent (room_in x) (length out) n bones free) (Ok size) out out' →
    (graphics : List ℕ) → ReadsBack lent (bones_of n bones) free (section (front_of size out') graphics)
reads_back_lem bones n lent free x out out' size w f c graphics =
    let k = written_is lent (room_in x) n bones free out out' size c in
    subst (λ (y : List ℕ). ReadsBack lent (bones_of n bones) free (section y graphics)) (sym k.here)
    (theorems.back lent (room_in x) (length out) (bones_of n bones) free k.bytes graphics (bones-fit n bones w) f k.is)

back :
    (bones : List ℕ) (n : ℕ) (lent : Section) (free : Words4) (x : Working) (out out' : List ℕ) (size : ℕ) →
    Words32 bones → Fits4 (meant_words4 free) → Bytes8 out' →
    Writes (outcome lent (room_in x) (length out) n bones (meant_words4 free)) (Ok size) out out' →
    (graphics : List ℕ) → Bytes8 graphics → WrittenBack lent bones n free (section (front_of size out') graphics)
back bones n lent free x out out' size w f o c graphics g =
    written_back lent bones n free (section (front_of size out') graphics) (front_bytes size out' o, g)
    (reads_back_lem bones n lent (meant_words4 free) x out out' size w f c graphics)

-- ---- demand 3

pub theorems_of_calls : Theorems
theorems_of_calls = record { exact = exact; found = found; back = back }
