-- What the words of the rows hold after a row is stored (`with_row`), and after a link is set (`relinked`). Assumes nothing.
use mathlib.Core.Path.{◌≡◌, sym, ap, ◌∙◌}
use mathlib.Core.List.{List}
use mathlib.Core.Logic.{⊎_elim}
use Prim.Native.Nat.{ℕ, suc, ◌+◌, ◌*◌, ◌<◌}
use native.Mathlib.Omega.{arith}
use lib.ListN.{length, get_or, set, length-set}
use lib.Seq.{get_or-set_same, get_or-set_other}
use Rattle.format.specs.Tables.{Pooled}
use Rattle.blocks.specs.Kinds.{kind_code}
use Rattle.blocks.specs.Tree.{kind_in, link_in, with_kind, with_link}
use Rattle.blocks.specs.Hashed.{pool_rows, code_at, key, links, val, with_row, relinked}
use Rattle.blocks.proofs.Codes.{kind_code_pos, kind_code_lt, kind_from-kind_code}
use Rattle.blocks.proofs.Cases.{eq-or-ne}
use Rattle.blocks.proofs.Links.{kind-with_kind, link-with_kind, kind-with_link, link-with_link, right_with_left, left_with_right}
use Rattle.blocks.proofs.Scanning.{key_of-used}

-- ---- a row stored

module _ (t : List ℕ) (i : ℕ) (p : Pooled) where
  abbrev code : ℕ
  code = with_kind (code_at t i) (kind_code p.kind)

  abbrev t₁ : List ℕ
  t₁ = set t (4 * i) p.address

  abbrev t₂ : List ℕ
  t₂ = set t₁ (4 * i + 1) code

  abbrev t₃ : List ℕ
  t₃ = set t₂ (4 * i + 2) p.stored.first

  pub length-with_row : length (with_row t i p) ≡ length t
  length-with_row = simp length-set

  word-other :
      (j : ℕ) → (j ≡ 4 * i → ⊥) → (j ≡ 4 * i + 1 → ⊥) → (j ≡ 4 * i + 2 → ⊥) → (j ≡ 4 * i + 3 → ⊥) →
      get_or (with_row t i p) j 0 ≡ get_or t j 0
  word-other j n₀ n₁ n₂ n₃ =
      get_or-set_other t₃ (4 * i + 3) j p.stored.count 0 n₃ ∙ get_or-set_other t₂ (4 * i + 2) j p.stored.first 0 n₂
      ∙ get_or-set_other t₁ (4 * i + 1) j code 0 n₁ ∙ get_or-set_other t (4 * i) j p.address 0 n₀

  module _ (j : ℕ) (n : j ≡ i → ⊥) where
    address-other : get_or (with_row t i p) (4 * j) 0 ≡ get_or t (4 * j) 0
    address-other = word-other (4 * j) (omega arith) (omega arith) (omega arith) (omega arith)

    code_other : get_or (with_row t i p) (4 * j + 1) 0 ≡ get_or t (4 * j + 1) 0
    code_other = word-other (4 * j + 1) (omega arith) (omega arith) (omega arith) (omega arith)

    first-other : get_or (with_row t i p) (4 * j + 2) 0 ≡ get_or t (4 * j + 2) 0
    first-other = word-other (4 * j + 2) (omega arith) (omega arith) (omega arith) (omega arith)

    count-other : get_or (with_row t i p) (4 * j + 3) 0 ≡ get_or t (4 * j + 3) 0
    count-other = word-other (4 * j + 3) (omega arith) (omega arith) (omega arith) (omega arith)

    pub key-other : key (with_row t i p) j ≡ key t j
    unfolding key
    key-other = simp (address-other, code_other)

    pub val-other : val (with_row t i p) j ≡ val t j
    unfolding val
    val-other = simp (address-other, code_other, first-other, count-other)

  module _ (l : i < pool_rows t) where
    address_same : get_or (with_row t i p) (4 * i) 0 ≡ p.address
    address_same =
        get_or-set_other t₃ (4 * i + 3) (4 * i) p.stored.count 0 (omega arith)
        ∙ get_or-set_other t₂ (4 * i + 2) (4 * i) p.stored.first 0 (omega arith)
        ∙ get_or-set_other t₁ (4 * i + 1) (4 * i) code 0 (omega arith) ∙ get_or-set_same t (4 * i) p.address 0 (omega arith)

    code_same : get_or (with_row t i p) (4 * i + 1) 0 ≡ code
    code_same =
        get_or-set_other t₃ (4 * i + 3) (4 * i + 1) p.stored.count 0 (omega arith)
        ∙ get_or-set_other t₂ (4 * i + 2) (4 * i + 1) p.stored.first 0 (omega arith)
        ∙ get_or-set_same t₁ (4 * i + 1) code 0 (simp length-set (omega arith))

    first-same : get_or (with_row t i p) (4 * i + 2) 0 ≡ p.stored.first
    first-same =
        get_or-set_other t₃ (4 * i + 3) (4 * i + 2) p.stored.count 0 (omega arith)
        ∙ get_or-set_same t₂ (4 * i + 2) p.stored.first 0 (simp length-set (omega arith))

    count_same : get_or (with_row t i p) (4 * i + 3) 0 ≡ p.stored.count
    count_same = get_or-set_same t₃ (4 * i + 3) p.stored.count 0 (simp length-set (omega arith))

    kind-same : kind_in (get_or (with_row t i p) (4 * i + 1) 0) ≡ kind_code p.kind
    kind-same = ap kind_in code_same ∙ kind-with_kind (code_at t i) (kind_code p.kind) (kind_code_lt p.kind)

    pub key-same : key (with_row t i p) i ≡ suc p.address
    unfolding key
    key-same =
        simp (address_same, kind-same)
        (key_of-used (kind_code p.kind) p.address (λ e. omega (arith, kind_code_pos p.kind)))

    pub val_same : val (with_row t i p) i ≡ p
    unfolding val
    val_same = simp (address_same, kind-same, first-same, count_same, kind_from-kind_code p.kind)

    links-same : (s : ℕ) → links (with_row t i p) i s ≡ links t i s
    unfolding links
    links-same s =
        ap (λ (w : ℕ). link_in w s) code_same ∙ link-with_kind (code_at t i) (kind_code p.kind) (kind_code_lt p.kind) s

    links-other : (j s : ℕ) → (j ≡ i → ⊥) → links (with_row t i p) j s ≡ links t j s
    unfolding links
    links-other j s n = ap (λ (w : ℕ). link_in w s) (code_other j n)

    pub links-kept : (j s : ℕ) → links (with_row t i p) j s ≡ links t j s
    links-kept j s =
        ⊎_elim
        (λ e. ap (λ (x : ℕ). links (with_row t i p) x s) e ∙ links-same s ∙ sym (ap (λ (x : ℕ). links t x s) e))
        (λ e. links-other j s e)
        (eq-or-ne j i)

-- ---- a link set

module _ (t : List ℕ) (i s l : ℕ) where
  pub length-relinked : length (relinked t i s l) ≡ length t
  length-relinked = simp length-set

  module _ (low : i < pool_rows t) (small : l < 1073741824) where
    linked-other : (j : ℕ) → (j ≡ 4 * i + 1 → ⊥) → get_or (relinked t i s l) j 0 ≡ get_or t j 0
    linked-other j n = get_or-set_other t (4 * i + 1) j (with_link (code_at t i) s l) 0 n

    linked-same : get_or (relinked t i s l) (4 * i + 1) 0 ≡ with_link (code_at t i) s l
    linked-same = get_or-set_same t (4 * i + 1) (with_link (code_at t i) s l) 0 (omega arith)

    kind-kept : (j : ℕ) → kind_in (code_at (relinked t i s l) j) ≡ kind_in (code_at t j)
    kind-kept j =
        ⊎_elim
        (λ e.
        ap (λ (x : ℕ). kind_in (code_at (relinked t i s l) x)) e ∙ ap kind_in linked-same ∙ kind-with_link (code_at t i) l small s
        ∙ sym (ap (λ (x : ℕ). kind_in (code_at t x)) e))
        (λ e. ap kind_in (linked-other (4 * j + 1) (λ h. e (omega arith))))
        (eq-or-ne j i)

    pub key-relinked : (j : ℕ) → key (relinked t i s l) j ≡ key t j
    unfolding key
    key-relinked j = simp (kind-kept j, linked-other (4 * j) (omega arith))

    pub val-relinked : (j : ℕ) → val (relinked t i s l) j ≡ val t j
    unfolding val
    val-relinked j =
        simp (
          kind-kept j,
          linked-other (4 * j) (omega arith),
          linked-other (4 * j + 2) (omega arith),
          linked-other (4 * j + 3) (omega arith),
        )

    pub links-relinked-same : links (relinked t i s l) i s ≡ l
    unfolding links
    links-relinked-same = ap (λ (w : ℕ). link_in w s) linked-same ∙ link-with_link (code_at t i) l small s

    side-other : (z : ℕ) → z < 2 → s < 2 → (z ≡ s → ⊥) → link_in (with_link (code_at t i) s l) z ≡ link_in (code_at t i) z
    side-other z h o n =
        let w : ℕ = code_at t i in
        ⊎_elim
        (λ e.
        let f : z ≡ 1 = omega arith in
        ap (λ (x : ℕ). link_in (with_link w x l) z) e ∙ ap (link_in (with_link w 0 l)) f ∙ right_with_left w l small
        ∙ sym (ap (link_in w) f))
        (λ e.
        let f : s ≡ 1 = omega arith in
        let g : z ≡ 0 = omega arith in
        ap (λ (x : ℕ). link_in (with_link w x l) z) f ∙ ap (link_in (with_link w 1 l)) g ∙ left_with_right w l small
        ∙ sym (ap (link_in w) g))
        (eq-or-ne s 0)

    pub links-relinked-other :
        (j z : ℕ) → z < 2 → s < 2 → (j ≡ i → z ≡ s → ⊥) → links (relinked t i s l) j z ≡ links t j z
    unfolding links
    links-relinked-other j z h o n =
        ⊎_elim
        (λ e.
        ap (λ (x : ℕ). link_in (code_at (relinked t i s l) x) z) e ∙ ap (λ (w : ℕ). link_in w z) linked-same
        ∙ side-other z h o (n e) ∙ sym (ap (λ (x : ℕ). link_in (code_at t x) z) e))
        (λ e. ap (λ (w : ℕ). link_in w z) (linked-other (4 * j + 1) (λ g. e (omega arith))))
        (eq-or-ne j i)
