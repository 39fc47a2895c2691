-- `blocks::pool::home` meets its contract: below 8,192 rows, and from there on, where a row behind the last is taken from the first on.
-- Assumes nothing.
use Prim.Native.Nat.{ℕ, ◌+◌, ◌*◌, ◌/◌, ◌%◌, ◌-◌, ◌^◌, ◌≤◌, ◌<◌}
use mathlib.Core.Path.{◌≡◌, sym, ◌∙◌}
use native.Mathlib.Nat.{mod-lt, mod-eq_of_lt, mod-eq-sub-mod, mul-le-mul_right}
use native.Mathlib.Omega.{arith}
use borrow.Author.Tests.{lt-ltb, le-ltb}
use Rattle.blocks.specs.Hashed.{spread, home_of}
use Rattle.blocks.proofs.pool.home.Goals as goal

-- a number below 2^32, of n
module _ (x n : ℕ) (l : x < 4294967296) where
  product_le : x * n ≤ 4294967295 * n
  product_le = mul-le-mul_right n (omega arith)

  product_fits : n < 4294967296 → x * n < 2 ^ 64
  product_fits h = omega (arith, product_le)

  part_lt : 0 < n → x * n / 4294967296 < n
  part_lt h = omega (arith, product_le)

  part_le : x * n / 4294967296 ≤ n
  part_le = omega (arith, product_le)

mixed_lt : (a : ℕ) → a % 4294967296 * 2654435769 % 4294967296 < 4294967296
mixed_lt a = mod-lt _ (omega arith)

module _ (a n : ℕ) where
  home-small : n < 8192 → home_of a n ≡ spread a n
  unfolding home_of
  home-small l = simp (lt-ltb n 8192 l)

  -- the row in front of the last, or behind it
  abbrev row : ℕ
  row = spread (a / 2048) (n % 4294967296) + a % 2048 * 7 / 16

  home_large : 8192 ≤ n → home_of a n ≡ row % n
  unfolding home_of
  home_large l = simp (le-ltb n 8192 l)

  stretch_le : spread (a / 2048) (n % 4294967296) ≤ n
  stretch_le =
      let m : ℕ = n % 4294967296 in
      let r : m ≤ n = omega arith in
      omega (arith, part_le (a / 2048 % 4294967296 * 2654435769 % 4294967296) m (mixed_lt (a / 2048)))

  sum_lt : (x y : ℕ) → x ≤ n → y < 896 → 8192 ≤ n → x + y - n < n
  sum_lt x y h l m = omega arith

  behind_lt : 8192 ≤ n → row - n < n
  behind_lt l = sum_lt _ _ stretch_le (omega arith) l

  behind-is : 8192 ≤ n → n ≤ row → home_of a n ≡ row - n
  behind-is l o = home_large l ∙ mod-eq-sub-mod o ∙ mod-eq_of_lt (behind_lt l)

pub overflow_mul-result-then-n-lt8192 : goal.overflow_mul-result-then-n-lt8192
overflow_mul-result-then-n-lt8192 c =
    omega (arith, product_fits _ c.args.rows (mixed_lt c.args.va) (omega arith))

pub returns-then-n-lt8192 : goal.returns-then-n-lt8192
returns-then-n-lt8192 c =
    (sym (home-small c.args.va c.args.rows c.if-n-lt8192.true), part_lt _ c.args.rows (mixed_lt c.args.va) c.requires)

pub overflow_mul-row : goal.overflow_mul-row
overflow_mul-row c =
    omega (arith, product_fits _ (c.args.rows % 4294967296) (mixed_lt (c.args.va / 2048)) (mod-lt _ (omega arith)))

pub overflow_add-row : goal.overflow_add-row
overflow_add-row c =
    omega (arith, product_fits _ (c.args.rows % 4294967296) (mixed_lt (c.args.va / 2048)) (mod-lt _ (omega arith)))

pub returns-then-row-n : goal.returns-then-row-n
returns-then-row-n c =
    (sym (home_large c.args.va c.args.rows c.if-n-lt8192.false ∙ mod-eq_of_lt c.if-row-n.true), c.if-row-n.true)

pub returns : goal.returns
returns c = (
  sym (behind-is c.args.va c.args.rows c.if-n-lt8192.false c.if-row-n.false),
  behind_lt c.args.va c.args.rows
      c.if-n-lt8192.false,
)
