-- No path of the tree has more than 65 rows: one that did would have the address itself at two of them. Assumes nothing.
use mathlib.Core.Path.{◌≡◌, refl, sym, ap, ◌∙◌}
use mathlib.Core.List.{List}
use mathlib.Core.Logic.{⊎_elim}
use Prim.Native.Nat.{ℕ, zero, suc, ◌+◌, ◌*◌, ◌/◌, ◌%◌, ◌^◌, ◌<◌, ◌≤◌}
use native.Mathlib.Nat.{pow-suc, div-one, div-div-eq-div-mul}
use native.Mathlib.Omega.{arith}
use lib.ListN.{get_or}
use Rattle.format.specs.Tables.{Pooled}
use Rattle.blocks.specs.Tree.{halved, turned_of, side_at, linkable}
use Rattle.blocks.specs.Hashed.{pool_rows, key, links, val, path_in, Represents}
use Rattle.blocks.specs.Bound.{Bound}
use Rattle.blocks.proofs.Cases.{le-or-lt}
use Rattle.blocks.proofs.Paths.{linkable_le, path_lt, path-falls, row_before}
use Rattle.blocks.proofs.Search.{path-used, unique}
use Rattle.blocks.proofs.Scanning.{key-address}
use Rattle.blocks.proofs.Table.{holds_rows}

-- ---- a number by its bits

halved_is : (x d : ℕ) → halved x d ≡ x / 2 ^ d
unfolding halved
halved_is x zero = sym (div-one x)
halved_is x (suc d) =
    ap (λ (y : ℕ). y / 2) (halved_is x d) ∙ div-div-eq-div-mul x (2 ^ d) 2 ∙ sym (ap (λ (y : ℕ). x / y) (pow-suc 2 d))

-- what is left after bits that agree decides
bits_inj : (x y d : ℕ) → ((e : ℕ) → e < d → halved x e % 2 ≡ halved y e % 2) → halved x d ≡ halved y d → x ≡ y
unfolding halved
bits_inj x y zero f h = h
bits_inj x y (suc d) f h =
    let b : halved x d % 2 ≡ halved y d % 2 = f d (omega arith) in
    bits_inj x y d (λ e l. f e (omega arith)) (omega arith)

spent : (x : ℕ) → x < 2 ^ 64 → halved x 64 ≡ 0
spent x l = halved_is x 64 ∙ omega arith

turned_lt : (a : ℕ) → a < 2 ^ 64 → turned_of a < 2 ^ 64
unfolding turned_of
turned_lt a l = omega arith

-- the parts of an address in its turned number
module _ (a : ℕ) where
  upper : turned_of a / 4294967296 ≡ a / 4294967296
  unfolding turned_of
  upper = omega arith

  middle : turned_of a % 268435456 ≡ a / 16 % 268435456
  unfolding turned_of
  middle = omega arith

  lower : turned_of a / 268435456 % 16 ≡ a % 16
  unfolding turned_of
  lower =
      let e : (a / 4294967296 * 4294967296 + a % 16 * 268435456 + a / 16 % 268435456) / 268435456 ≡ a / 4294967296 * 16 + a % 16 =
      omega arith
      in
      ap (λ (x : ℕ). x % 16) e ∙ omega arith

  whole : a ≡ a / 4294967296 * 4294967296 + a / 16 % 268435456 * 16 + a % 16
  whole = omega arith

turned_inj : (a b : ℕ) → turned_of a ≡ turned_of b → a ≡ b
turned_inj a b e =
    let u : a / 4294967296 ≡ b / 4294967296 = sym (upper a) ∙ ap (λ (x : ℕ). x / 4294967296) e ∙ upper b in
    let m : a / 16 % 268435456 ≡ b / 16 % 268435456 = sym (middle a) ∙ ap (λ (x : ℕ). x % 268435456) e ∙ middle b in
    let l : a % 16 ≡ b % 16 = sym (lower a) ∙ ap (λ (x : ℕ). x / 268435456 % 16) e ∙ lower b in
    whole a ∙ rw (u, m, l) (sym (whole b))

-- 64 sides tell an address
sides_inj : (a b : ℕ) → a < 2 ^ 64 → b < 2 ^ 64 → ((e : ℕ) → e < 64 → side_at a e ≡ side_at b e) → a ≡ b
sides_inj a b l m f =
    turned_inj a b
    (bits_inj (turned_of a) (turned_of b) 64 f (spent (turned_of a) (turned_lt a l) ∙ sym (spent (turned_of b) (turned_lt b m))))

-- ---- the rows from row 64 of a path on hold its address, and so there is one

module _ {t : List ℕ} {n : ℕ} {q : List Pooled} (h : Represents t n q) (words : (i : ℕ) → get_or t i 0 < 2 ^ 64) (a : ℕ) (l : a < 2 ^ 64) where
  held : (d i : ℕ) → 64 ≤ d → path_in t a d ≡ suc i → key t i ≡ suc a
  held d i o e = by (key t i) refl
    where
      by : (x : ℕ) → key t i ≡ x → x ≡ suc a
      by zero z = absurd (omega (arith, path-used (pool_rows t) (key t) (links t) (val t) q (holds_rows h) a d i e))
      by (suc b) z =
          let m : b < 2 ^ 64 = omega (arith, words (4 * i), key-address t i b z) in
          ap suc (sides_inj b a m l (λ c s. (holds_rows h).alike a d i b c e z (omega arith)))

  room : (d i : ℕ) → path_in t a d ≡ suc i → i < pool_rows t
  room d i e = omega (arith, linkable_le (pool_rows t), path_lt (links t) (linkable (pool_rows t)) a d i e)

  path-short : (d i : ℕ) → path_in t a d ≡ suc i → d ≤ 64
  path-short d i e =
      ⊎_elim
      (λ o. o)
      (λ o.
      let b = row_before (links t) (linkable (pool_rows t)) a 64 d i (omega arith) e in
      let s : i ≡ b.0 =
      unique (pool_rows t) (key t) (links t) (val t) q (holds_rows h) a i b.0 (room d i e) (room 64 b.0 b.1)
      (held d i (omega arith) e) (held 64 b.0 (omega arith) b.1)
      in
      absurd (omega (arith, path-falls (links t) (linkable (pool_rows t)) a 64 d b.0 i o b.1 e)))
      (le-or-lt d 64)

pub bound : Bound
bound = record { path = λ t n q h words a l d i e. path-short h words a l d i e }
