-- What the check's answer means: its tests decide the equations of `Derived`, in their order, and so which sections it accepts.
-- Assumes nothing.
use mathlib.Core.Path.{◌≡◌, refl}
use mathlib.Core.Logic.{◌↔◌, ◌⊎◌, inl, inr}
use Prim.Native.Nat.{ℕ}
use native.Mathlib.Omega.{arith}
use mathlib.Core.Bool.{Bool, true, false}
use Rattle.std.specs.Prelude.{Option, None, Some}
use lib.ListN.{length}
use lib.Dec.{T}
use Rattle.format.specs.Result.{Res, refused, done, ◌>>=◌, need}
use Rattle.format.specs.Section.{Section}
use Rattle.format.specs.Chains.{chains}
use Rattle.format.specs.Children.{children}
use Rattle.format.specs.Matrices.{inverses, locals}
use Rattle.format.specs.Deriving.{DeriveRoom, derives, tags, parents, indices}
use Rattle.format.specs.Tables.{Room, SkeletonRow, Tables, no_rows, inverse_table, local_table, parents_table, children_table}
use Rattle.format.specs.Read.{read_skeleton}
use Rattle.format.specs.Check.{bones_read, list_read, same_words, same_chains, read_of, verdict, read, check_from, check}
use Rattle.format.proofs.Same.{same_words_lem, same_chains_lem}
use Rattle.promises.specs.Meaning.{links_read, ChainsFrom, Derived}
use Rattle.promises.proofs.Along.{chains_read_lem, chains-short}

-- ---- the tests in their order

-- One test of a row of them: where it fails, the answer is its refusal; where it holds, the tests behind it decide.
abbrev pub Tested : {A : Type 0} → ℕ → Type 0 → (Res A → Type 0) → Res A → Type 0
Tested n P Rest a = ((P → ⊥) × (a ≡ refused n)) ⊎ (P × Rest a)

-- The check of what was read gives deriving's 1, then 21 to 25, each where no test before it fails, and else the number of bones.
abbrev pub InOrder : DeriveRoom → SkeletonRow → Tables → Res (Option ℕ) → Type 0
InOrder droom s t =
    let bones = bones_read s.bones t in
    Tested 1 (T (derives droom (length bones)))
    (Tested 21 (ChainsFrom t.chained.entries (links_read s.buckets t) (chains (tags bones)))
    (Tested 22 (list_read parents_table s.parents t ≡ parents bones)
    (Tested 23 (list_read children_table s.children t ≡ children (indices bones) (parents bones))
    (Tested 24 (list_read inverse_table s.inverse t ≡ inverses bones)
    (Tested 25 (list_read local_table s.local t ≡ locals bones) (λ a. a ≡ done (Some (length bones))))))))

-- six tests in a row, by what each decides
tests_in_order :
    {P₁ P₂ P₃ P₄ P₅ P₆ : Type 0} (m : ℕ) (b₁ b₂ b₃ b₄ b₅ b₆ : Bool) →
    T b₁ ↔ P₁ → T b₂ ↔ P₂ → T b₃ ↔ P₃ → T b₄ ↔ P₄ → T b₅ ↔ P₅ → T b₆ ↔ P₆ →
    Tested 1 P₁ (Tested 21 P₂ (Tested 22 P₃ (Tested 23 P₄ (Tested 24 P₅ (Tested 25 P₆ (λ a. a ≡ done (Some m)))))))
    (do
      n ← do
        u₁ ← need 1 b₁
        u₂ ← need 21 b₂
        u₃ ← need 22 b₃
        u₄ ← need 23 b₄
        u₅ ← need 24 b₅
        u₆ ← need 25 b₆
        done m
      done (Some n))
tests_in_order m false b₂ b₃ b₄ b₅ b₆ d₁ d₂ d₃ d₄ d₅ d₆ = inl (d₁.1, refl)
tests_in_order m true false b₃ b₄ b₅ b₆ d₁ d₂ d₃ d₄ d₅ d₆ = inr (d₁.0 tt, inl (d₂.1, refl))
tests_in_order m true true false b₄ b₅ b₆ d₁ d₂ d₃ d₄ d₅ d₆ = inr (d₁.0 tt, inr (d₂.0 tt, inl (d₃.1, refl)))
tests_in_order m true true true false b₅ b₆ d₁ d₂ d₃ d₄ d₅ d₆ =
    inr (d₁.0 tt, inr (d₂.0 tt, inr (d₃.0 tt, inl (d₄.1, refl))))
tests_in_order m true true true true false b₆ d₁ d₂ d₃ d₄ d₅ d₆ =
    inr (d₁.0 tt, inr (d₂.0 tt, inr (d₃.0 tt, inr (d₄.0 tt, inl (d₅.1, refl)))))
tests_in_order m true true true true true false d₁ d₂ d₃ d₄ d₅ d₆ =
    inr (d₁.0 tt, inr (d₂.0 tt, inr (d₃.0 tt, inr (d₄.0 tt, inr (d₅.0 tt, inl (d₆.1, refl))))))
tests_in_order m true true true true true true d₁ d₂ d₃ d₄ d₅ d₆ =
    inr (d₁.0 tt, inr (d₂.0 tt, inr (d₃.0 tt, inr (d₄.0 tt, inr (d₅.0 tt, inr (d₆.0 tt, refl))))))

chains_decide :
    (s : SkeletonRow) (t : Tables) →
    T (same_chains (read_of s t).chains (chains (tags (bones_read s.bones t)))) ↔
    ChainsFrom t.chained.entries (links_read s.buckets t) (chains (tags (bones_read s.bones t)))
chains_decide s t =
    let bones = bones_read s.bones t in
    let r = chains_read_lem (length bones) s.buckets t (chains (tags bones)) (chains-short bones) in
    let d = same_chains_lem (read_of s t).chains (chains (tags bones)) in
    (λ h. r.0 (d.0 h), λ f. d.1 (r.1 f))

verdict_order :
    (droom : DeriveRoom) (s : SkeletonRow) (t : Tables) → InOrder droom s t (verdict droom (read_of s t) >>= λ n. done (Some n))
unfolding verdict
verdict_order droom s t =
    let r = read_of s t in
    let kids = children (indices r.bones) (parents r.bones) in
    tests_in_order (length r.bones) (derives droom (length r.bones)) (same_chains r.chains (chains (tags r.bones)))
    (same_words r.parents (parents r.bones)) (same_words r.children kids) (same_words r.inverse (inverses r.bones))
    (same_words r.local (locals r.bones)) (λ h. h, λ h. h) (chains_decide s t) (same_words_lem r.parents (parents r.bones))
    (same_words_lem r.children kids) (same_words_lem r.inverse (inverses r.bones)) (same_words_lem r.local (locals r.bones))

-- an answer that is no refusal has passed a test; what passes a test goes on to the rest
passed :
    {A P R : Type 0} {a : Res A} {n : ℕ} {x : A} → ((P → ⊥) × (a ≡ refused n)) ⊎ (P × R) → a ≡ done x → P × R
passed (inl (h, e)) q = let z : ◌≡◌ {A = ℕ} 0 1 = cc in absurd (omega arith)
passed (inr r) q = r

rest : {A P R : Type 0} {a : Res A} {n : ℕ} → ((P → ⊥) × (a ≡ refused n)) ⊎ (P × R) → P → R
rest (inl (h, e)) p = absurd (h p)
rest (inr r) p = r.1

-- ---- from reading to the answer

-- The check's answer by what reading gives: reading's refusal, none for root 0, else the tests in their order.
abbrev pub Answers : DeriveRoom → Res (Option SkeletonRow × Tables) → Res (Option ℕ) → Type 0
Answers droom (refused n) a = a ≡ refused n
Answers droom (done (None, t)) a = a ≡ done None
Answers droom (done (Some s, t)) a = InOrder droom s t a

module _ (sec : Section) (room : Room) (droom : DeriveRoom) (root : ℕ) where
  pub check_order :
      (w : Res (Option SkeletonRow × Tables)) → read_skeleton sec room root no_rows ≡ w →
      Answers droom w (check sec room droom root)
  unfolding check read check_from
  check_order (refused n) e = rw e
  check_order (done (None, t)) e = rw e
  check_order (done (Some s, t)) e = rw e (verdict_order droom s t)

  -- ---- acceptance

  -- what was read, where the check accepts it
  pub accepts_derived :
      (s : SkeletonRow) (t : Tables) (m : ℕ) → read_skeleton sec room root no_rows ≡ done (Some s, t) →
      check sec room droom root ≡ done (Some m) → Derived (bones_read s.bones t) s t
  accepts_derived s t m e a =
      let r₁ = passed (check_order (done (Some s, t)) e) a in
      let r₂ = passed r₁.1 a in
      let r₃ = passed r₂.1 a in
      let r₄ = passed r₃.1 a in
      let r₅ = passed r₄.1 a in
      let r₆ = passed r₅.1 a in
      record { same_chains = r₂.0; same_parents = r₃.0; same_children = r₄.0; same_inverse = r₅.0; same_local = r₆.0 }

  pub derived_accepts :
      (s : SkeletonRow) (t : Tables) → read_skeleton sec room root no_rows ≡ done (Some s, t) →
      T (derives droom (length (bones_read s.bones t))) → Derived (bones_read s.bones t) s t →
      check sec room droom root ≡ done (Some (length (bones_read s.bones t)))
  derived_accepts s t e d h =
      let r₂ = rest (check_order (done (Some s, t)) e) d in
      let r₃ = rest r₂ h.same_chains in
      let r₄ = rest r₃ h.same_parents in
      let r₅ = rest r₄ h.same_children in
      rest (rest r₅ h.same_inverse) h.same_local

  -- the check accepts only what reads
  pub accepts_reads :
      (m : ℕ) → check sec room droom root ≡ done (Some m) →
      (s : SkeletonRow) × (t : Tables) × (read_skeleton sec room root no_rows ≡ done (Some s, t))
  accepts_reads m a = go (read_skeleton sec room root no_rows) refl
    where
      go :
          (w : Res (Option SkeletonRow × Tables)) → read_skeleton sec room root no_rows ≡ w →
          (s : SkeletonRow) × (t : Tables) × (read_skeleton sec room root no_rows ≡ done (Some s, t))
      go (refused n) e = let q = check_order (refused n) e in let z : ◌≡◌ {A = ℕ} 0 1 = cc in absurd (omega arith)
      go (done (None, t)) e = let q = check_order (done (None, t)) e in let z : ◌≡◌ {A = ℕ} 0 1 = cc in absurd (omega arith)
      go (done (Some s, t)) e = (s, t, e)
