-- The laws of a code word: what it holds after another kind or another link is set. Assumes nothing.
use mathlib.Core.Path.{◌≡◌, refl, sym, ap, ◌∙◌}
use Prim.Native.Nat.{ℕ, zero, suc, ◌+◌, ◌*◌, ◌/◌, ◌%◌, ◌<◌}
use native.Mathlib.Omega.{arith}
use borrow.Author.Tests.{ne_eqb}
use Rattle.blocks.specs.Tree.{kind_in, link_in, with_kind, with_link}

module _ (w : ℕ) where
  pub link_left : link_in w 0 ≡ w / 16 % 1073741824
  unfolding link_in
  link_left = refl

  pub link-right : (s : ℕ) → (s ≡ 0 → ⊥) → link_in w s ≡ w / 17179869184
  unfolding link_in
  link-right s n = simp (ne_eqb s 0 n)

  pub with_left : (l : ℕ) → with_link w 0 l ≡ w / 17179869184 * 17179869184 + l * 16 + w % 16
  unfolding with_link
  with_left l = refl

  pub with_right : (s l : ℕ) → (s ≡ 0 → ⊥) → with_link w s l ≡ l * 17179869184 + w % 17179869184
  unfolding with_link
  with_right s l n = simp (ne_eqb s 0 n)

-- ---- another kind

module _ (w c : ℕ) (small : c < 16) where
  pub kind-with_kind : kind_in (with_kind w c) ≡ c
  kind-with_kind = omega arith

  pub link-with_kind : (s : ℕ) → link_in (with_kind w c) s ≡ link_in w s
  link-with_kind zero = link_left (with_kind w c) ∙ omega arith ∙ sym (link_left w)
  link-with_kind (suc s) =
      link-right (with_kind w c) (suc s) (omega arith) ∙ omega arith ∙ sym (link-right w (suc s) (omega arith))

-- ---- another link

module _ (w l : ℕ) (small : l < 1073741824) where
  pub kind-with_link : (s : ℕ) → kind_in (with_link w s l) ≡ kind_in w
  kind-with_link zero = ap kind_in (with_left w l) ∙ omega arith
  kind-with_link (suc s) = ap kind_in (with_right w (suc s) l (omega arith)) ∙ omega arith

  pub link-with_link : (s : ℕ) → link_in (with_link w s l) s ≡ l
  link-with_link zero = link_left (with_link w 0 l) ∙ ap (λ (x : ℕ). x / 16 % 1073741824) (with_left w l) ∙ omega arith
  link-with_link (suc s) =
      link-right (with_link w (suc s) l) (suc s) (omega arith)
      ∙ ap (λ (x : ℕ). x / 17179869184) (with_right w (suc s) l (omega arith)) ∙ omega arith

  pub right_with_left : link_in (with_link w 0 l) 1 ≡ link_in w 1
  right_with_left =
      link-right (with_link w 0 l) 1 (omega arith) ∙ ap (λ (x : ℕ). x / 17179869184) (with_left w l) ∙ omega arith
      ∙ sym (link-right w 1 (omega arith))

  pub left_with_right : link_in (with_link w 1 l) 0 ≡ link_in w 0
  left_with_right =
      link_left (with_link w 1 l) ∙ ap (λ (x : ℕ). x / 16 % 1073741824) (with_right w 1 l (omega arith)) ∙ omega arith
      ∙ sym (link_left w)
