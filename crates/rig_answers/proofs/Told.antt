-- What is told of a section is what the calls answer. Assumes nothing.
use Prim.Native.Nat.{ℕ}
use mathlib.Core.Path.{◌≡◌, refl, ap, ◌∙◌}
use Rattle.std.specs.Prelude.{Option, None, Some, Result, Ok, Err}
use mathlib.Core.List.{List, [], ◌∷◌}
use Rattle.format.specs.Result.{Res, done, status}
use Rattle.format.specs.Layout.{Bytes}
use Rattle.format.specs.Section.{Section}
use Rattle.format.specs.Tables.{SkeletonRow, no_rows}
use Rattle.format.specs.Read.{Step, read_skeleton}
use Rattle.format.specs.Search.{search}
use Rattle.read.specs.Lent.{Lent, read_room}
use Rattle.read.specs.Parts.{meant_part}
use Rattle.format.specs.Tables.{part_length}
use Rattle.read.specs.Reads.{meant_skeleton, meant_read, read_leaves, Reads}
use Rattle.read.specs.declared.Skeleton.{Skeleton}
use Rattle.write.specs.Outcome.{Writes}
use Rattle.tables.specs.Working.{Working}
use Rattle.format.specs.Refusal.{outcome}
use Rattle.format.specs.declared.Refusal.{Refusal}
use Rattle.verify.specs.Checks.{leaves_by, Checks}
use Rattle.rig_answers.specs.Answer.{counted, read_status, given, number_if, present}
use Rattle.rig_answers.specs.Told.{skeleton_fields, ReadTold, WriteTold, Told, SearchTold, CheckTold}

-- ---- reading

-- the two numbers of a part
pub record PartTold (p : Option ℕ) (b n : ℕ) : Type 0 where
  pub told : b ≡ number_if (present (meant_part p))
  pub size : n ≡ part_length (meant_part p)

-- the fields of a skeleton whose parts are so told
pub fields_told :
    (s : Skeleton) {b₁ n₁ b₂ n₂ b₃ n₃ b₄ n₄ b₅ n₅ b₆ n₆ : ℕ} → PartTold s.buckets b₁ n₁ → PartTold s.bones b₂ n₂ →
    PartTold s.inverse b₃ n₃ → PartTold s.local b₄ n₄ → PartTold s.parents b₅ n₅ → PartTold s.children b₆ n₆ →
    s.kind ∷ s.free.x ∷ s.free.y ∷ s.free.z ∷ s.free.w ∷ s.bucket_count ∷ s.bone_count ∷ s.child_count ∷
    b₁ ∷ n₁ ∷ b₂ ∷ n₂ ∷ b₃ ∷ n₃ ∷ b₄ ∷ n₄ ∷ b₅ ∷ n₅ ∷ b₆ ∷ n₆ ∷ [] ≡ skeleton_fields (done (Some (meant_skeleton s)))
fields_told s p q i l a c =
    λ j.
    s.kind ∷ s.free.x ∷ s.free.y ∷ s.free.z ∷ s.free.w ∷ s.bucket_count ∷ s.bone_count ∷ s.child_count ∷
    p.told j ∷ p.size j ∷ q.told j ∷ q.size j ∷ i.told j ∷ i.size j ∷ l.told j ∷ l.size j ∷
    a.told j ∷ a.size j ∷ c.told j ∷ c.size j ∷ []

-- a skeleton read has the status of what it stands for
status-read : (r : Result (Option Skeleton) Refusal) → read_status (outcome r) ≡ read_status (meant_read r)
status-read (Ok None) = refl
status-read (Ok (Some s)) = refl
status-read (Err x) = refl

pub read_told :
    {g : Step (Option SkeletonRow)} {r : Result (Option Skeleton) Refusal} {n : ℕ} {f : List ℕ} {t₀ t : Lent} → Reads g r t₀ t →
    f ≡ skeleton_fields (meant_read r) → n ≡ read_status (outcome r) → ReadTold g n f t₀ t
read_told {r = r} k f n =
    record { answer = n ∙ status-read r ∙ ap read_status k.answer; fields = f ∙ ap skeleton_fields k.answer; tables = k.tables }

-- ---- writing

pub write-told :
    {w : Res Bytes} {r : Result ℕ Refusal} {n k : ℕ} {out out' : List ℕ} → Writes w r out out' → k ≡ counted (outcome r) →
    n ≡ status (outcome r) → WriteTold w n k out out'
write-told a k n =
    record { answer = n ∙ ap status a.answer; count = k ∙ ap counted a.answer; buffer = a.buffer }

-- ---- lookup, search, check

-- an answer a that is the definition's w
pub told_by : {a w : Res (Option ℕ)} {r n : ℕ} → a ≡ w → n ≡ given a → r ≡ read_status a → Told w r n
told_by e n r = record { answer = r ∙ ap read_status e; number = n ∙ ap given e }

pub search-told :
    (sec : Section) (root key : ℕ) {a : Res (Option ℕ)} {r n : ℕ} (t₀ : Lent) {t : Lent} → a ≡ search sec (read_room t₀) root key →
    t ≡ read_leaves (read_skeleton sec (read_room t₀) root no_rows) t₀ → n ≡ given a → r ≡ read_status a → SearchTold sec root key r n t₀ t
search-told sec root key t₀ e l n r = record { told = told_by e n r; tables = l }

pub check-told :
    {sec : Section} {root r n : ℕ} {v : Result (Option ℕ) Refusal} {t₀ t : Lent} {x₀ x : Working} → Checks sec root v t₀ t x₀ x →
    n ≡ given (outcome v) → r ≡ read_status (outcome v) → CheckTold sec root r n t₀ t x₀ x
check-told {sec} {root} {t₀ = t₀} k n r =
    record {
      told = told_by k.answer n r;
      tables = k.tables ∙ ap (λ a. leaves_by a (read_skeleton sec (read_room t₀) root no_rows) t₀) k.answer;
      working = k.working;
    }
