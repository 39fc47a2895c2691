-- Demands 1 and 3 of the exports: a status tells the outcome of its call, and `Theorems` has demand 3 of those. In order: statuses; Exact;
-- Found; Back. Assumes nothing.
use Prim.Native.Nat.{ℕ, ◌≤◌}
use native.Mathlib.Omega.{arith}
use mathlib.Core.Path.{◌≡◌, refl, sym, ap, subst, ◌∙◌}
use mathlib.Core.Logic.{◌↔◌, inl, inr}
use mathlib.Core.Bool.{not}
use Rattle.std.specs.Prelude.{Option, None, Some}
use mathlib.Core.List.{List}
use lib.ListN.{length, get_or}
use lib.Dec.{T}
use Rattle.format.specs.Result.{Res, refused, done, status}
use Rattle.format.specs.Section.{Section}
use Rattle.format.specs.Bone.{words4}
use Rattle.format.specs.Deriving.{tags}
use Rattle.format.specs.Tables.{no_rows}
use Rattle.format.specs.Read.{read_skeleton}
use Rattle.format.specs.Rows.{bones_of}
use Rattle.format.specs.Layout.{Bytes, base}
use Rattle.format.specs.Lookup.{lookup}
use Rattle.format.specs.Check.{check}
use Rattle.format.specs.CallRefusals.{deriving_refusals, writing_refusals, reading_refusals, check_refusals, lookup_refusals}
use Rattle.format.specs.CallRefusals.{joints_read_refusals, joints_written_refusals, rotation_written_refusals}
use Rattle.format.specs.CallRefusals.{translation_written_refusals, one_of, RefusesOnly}
use Rattle.format.proofs.CallRefusals.{call_refusals}
use Rattle.format.specs.declared.Words4.{Words4}
use Rattle.promises.specs.Meaning.{Sized, Sound, IsGreatest, Right, Fits4}
use Rattle.promises.proofs.Theorems.{theorems}
use Rattle.tables.specs.Front.{front_of}
use Rattle.tables.specs.Outcome.{size_of}
use Rattle.tables.specs.Working.{Working, room_in}
use Rattle.blocks.specs.Places.{section}
use Rattle.read.specs.Lent as read
use Rattle.read.specs.Lent.{read_room}
use Rattle.read.specs.Reads.{answer_of}
use Rattle.write.specs.Outcome.{outcome, Writes}
use Rattle.std.specs.Prelude.{Ok}
use Rattle.joints.specs.Written.{table_written}
use Rattle.verify.specs.Checks.{leaves_by}
use Rattle.read_laws.specs.Bytes.{Bytes8, SectionBytes}
use Rattle.rig_answers.specs.Answer.{read_status, given}
use Rattle.rig_answers.specs.Status.{sure, Tells}
use Rattle.rig_answers.specs.Told.{free_of, skeleton_fields, WriteTold, Told, CheckTold}
use Rattle.rig_answers.proofs.Statuses as answers
use Rattle.theorems.specs.Typed.{Words32}
use Rattle.theorems.specs.Exports.{ExportStatuses, RightTold, WrittenBackTold, Exports}
use Rattle.theorems.proofs.Fitting.{front_bytes}
use Rattle.theorems.proofs.Refusals.{deriving_only, outcome-only, answer-only, joints_written-only}
use Rattle.theorems.proofs.Theorems.{found_at, reads_back_lem, check_accepts, reading, counts, same-bones}

-- ---- statuses

-- the status of an outcome that can be none, and of one that cannot
told : {A : Type 0} (ns : List ℕ) → T (not (one_of 0 ns)) → T (not (one_of 100 ns)) → (w : Res (Option A)) (r : ℕ) → r ≡ read_status w →
    RefusesOnly ns w → Tells ns w r
told ns a b w r e h = subst (Tells ns w) (sym e) ((answers.statuses).tells ns a b w h)

told-sure : {A : Type 0} (ns : List ℕ) → T (not (one_of 0 ns)) → T (not (one_of 100 ns)) → (w : Res A) (r : ℕ) → r ≡ status w →
    RefusesOnly ns w → Tells ns (sure w) r
told-sure ns a b w r e h = subst (Tells ns (sure w)) (sym e) ((answers.statuses).tells_sure ns a b w h)

-- a count of bytes has the status of the bytes
size-status : (w : Res (List ℕ)) → status (size_of w) ≡ status w
size-status (done b) = refl
size-status (refused c) = refl

checking :
    (sec : Section) (root r count : ℕ) (t₀ t : read.Lent) (x₀ x : Working) → CheckTold sec root r count t₀ t x₀ x →
    Tells check_refusals (check sec (read_room t₀) (room_in x₀) root) r
checking sec root r count t₀ t x₀ x c =
    told check_refusals tt tt (check sec (read_room t₀) (room_in x₀) root) r c.told.answer
    (call_refusals.check sec (read_room t₀) (room_in x₀) root)

looking_up :
    (sec : Section) (root tag r position : ℕ) → Told (lookup sec root tag) r position → Tells lookup_refusals (lookup sec root tag) r
looking_up sec root tag r position k =
    told lookup_refusals tt tt (lookup sec root tag) r k.answer (call_refusals.lookup sec root tag)

writing :
    (lent : Section) (x : Working) (n : ℕ) (bones free : List ℕ) (r count : ℕ) (out out' : List ℕ) →
    let w = outcome lent (room_in x) (length out) n bones (free_of free) in
    WriteTold w r count out out' → Tells writing_refusals (sure w) r
writing lent x n bones free r count out out' k =
    let w = outcome lent (room_in x) (length out) n bones (free_of free) in
    told-sure writing_refusals tt tt w r (k.answer ∙ size-status w) (outcome-only lent (room_in x) (length out) n bones (free_of free))

statuses : ExportStatuses
statuses =
    record {
      bone_tags = λ n bones buckets entries r e. told-sure deriving_refusals tt tt _ r e (deriving_only n _ _);
      indices = λ n bones parents children pending r e. told-sure deriving_refusals tt tt _ r e (deriving_only n _ _);
      transformations = λ n bones inverse local r e. told-sure deriving_refusals tt tt _ r e (deriving_only n _ _);
      writing = writing;
      reading =
          λ sec root r fields t₀ t k.
          told reading_refusals tt tt _ r k.answer (answer-only _ (call_refusals.reading sec (read_room t₀) root no_rows));
      searching =
          λ sec root key r position t₀ t k.
          told reading_refusals tt tt _ r k.told.answer (call_refusals.search sec (read_room t₀) root key);
      checking = checking;
      looking_up = looking_up;
      joints_reading =
          λ sys gfx root rotation translation r e. told joints_read_refusals tt tt _ r e (call_refusals.joints_read _ _ _ root);
      joints_writing =
          λ size rotation n translation m r e.
          told-sure joints_written_refusals tt tt _ r (e ∙ size-status (table_written size rotation n translation m))
          (joints_written-only size rotation n translation m);
      rotation_writing = λ size row r e. told-sure rotation_written_refusals tt tt _ r e (call_refusals.rotation_written size _);
      translation_writing = λ size row r e. told-sure translation_written_refusals tt tt _ r e (call_refusals.translation_written size _);
    }

-- ---- Exact

exact :
    (sec : Section) (root r count : ℕ) (t₀ t : read.Lent) (x₀ x : Working) → CheckTold sec root r count t₀ t x₀ x →
    Sized sec root (read_room t₀) (room_in x₀) → (r ≡ 0) ↔ Sound sec root
exact sec root r count t₀ t x₀ x c l =
    let k = theorems.exact sec root (read_room t₀) (room_in x₀) l in
    let s = (checking sec root r count t₀ t x₀ x c).result in (
      λ e. let a = s.0 e in k.0 (record { count = a.value; says = a.is }),
      λ h. let a = k.1 h in s.1 (record { value = a.count; is = a.says }),
    )

-- ---- Found

-- a right answer of the lookup, as it is told
right-told :
    (ts : List ℕ) (tag r position : ℕ) (w : Res (Option ℕ)) → Told w r position → Right ts tag w → RightTold ts tag r position
right-told ts tag r position (done (Some p)) k h = inl (k.answer, subst (IsGreatest ts tag) (sym k.number) h)
right-told ts tag r position (done None) k h = inr (k.answer, h)
right-told ts tag r position (refused n) k h = absurd h

found :
    (sec : Section) (root count : ℕ) (t₀ t : read.Lent) (x₀ x : Working) → SectionBytes sec → CheckTold sec root 0 count t₀ t x₀ x →
    2 ≤ count → (tag : ℕ) → tag ≤ 65535 → (r position : ℕ) → Told (lookup sec root tag) r position →
    RightTold (tags (bones_of count t.bones)) tag r position
found sec root count t₀ t x₀ x bytes c h tag small r position k =
    let a = (checking sec root 0 count t₀ t x₀ x c).result.0 refl in
    let m : count ≡ a.value = c.told.number ∙ ap given a.is in
    let says = a.is ∙ ap (λ (i : ℕ). done (Some i)) (sym m) in
    let tables = c.tables ∙ ap (λ (w : Res (Option ℕ)). leaves_by w (read_skeleton sec (read_room t₀) root no_rows) t₀) says in
    right-told _ tag r position (lookup sec root tag) k (found_at sec root t₀ t (room_in x₀) count bytes says tables h tag small)

-- ---- Back

-- the free words of a list, as the code holds them
abbrev free_words : List ℕ → Words4
free_words f = record { x = get_or f 0 0; y = get_or f 1 0; z = get_or f 2 0; w = get_or f 3 0 }

back :
    (bones : List ℕ) (n : ℕ) (lent : Section) (free : List ℕ) (x : Working) (out out' : List ℕ) (size : ℕ) →
    Words32 bones → Fits4 (free_of free) → Bytes8 out' →
    WriteTold (outcome lent (room_in x) (length out) n bones (free_of free)) 0 size out out' →
    (graphics : List ℕ) → Bytes8 graphics → WrittenBackTold lent bones n free (section (front_of size out') graphics)
back bones n lent free x out out' size w f o c graphics g =
    let out-is = outcome lent (room_in x) (length out) n bones (free_of free) in
    let sec = section (front_of size out') graphics in
    let bytes : SectionBytes sec = (front_bytes size out' o, g) in
    let a = (writing lent x n bones free 0 size out out' c).result.0 refl in
    let b = reads_back_lem bones n lent (free_of free) x out out' size w f (writes out-is a.value a.is c) graphics in
    record {
      accepted =
          λ t₀ t x₀ y r count l k.
          let says = check_accepts lent bones n (free_words free) sec bytes b t₀ x₀ l in
          let h = l.read b.skeleton b.tables b.reads in
          let tables =
          k.tables ∙ ap (λ (v : Res (Option ℕ)). leaves_by v (read_skeleton sec (read_room t₀) base no_rows) t₀) says in (
            k.told.answer ∙ ap read_status says,
            k.told.number ∙ ap given says,
            same-bones lent bones n (free_words free) sec bytes b t₀ t h tables,
          );
      reads =
          λ t₀ t r fields k v.
          let h = k b.skeleton b.tables b.reads in
          let e = ap answer_of (reading lent bones n (free_words free) sec bytes b t₀ h) in
          let fs = v.fields ∙ ap skeleton_fields e in (
            v.answer ∙ ap read_status e,
            ap (λ (l : List ℕ). get_or l 11 0) fs ∙ counts lent bones n (free_words free) sec bytes b t₀ t h v.tables,
            same-bones lent bones n (free_words free) sec bytes b t₀ t h v.tables,
            ap (λ (l : List ℕ). words4 (get_or l 1 0) (get_or l 2 0) (get_or l 3 0) (get_or l 4 0)) fs ∙ b.free_words,
          );
    }
  where
    writes : (v : Res Bytes) (bs : Bytes) → sure v ≡ done (Some bs) → WriteTold v 0 size out out' → Writes v (Ok size) out out'
    writes (done s) bs e k = record { answer = ap done k.count; buffer = k.buffer }
    writes (refused m) bs e k = let z : ◌≡◌ {A = ℕ} 0 1 = cc in absurd (omega arith)

-- ---- the statement

pub exports : Exports
exports = record { statuses = statuses; exact = exact; found = found; back = back }
