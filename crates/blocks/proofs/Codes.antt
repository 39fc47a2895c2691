-- The laws of kinds and their codes: each kind has its own code, from 1 to 15, and is told by it. Assumes nothing.
use mathlib.Core.Path.{◌≡◌, refl}
use Prim.Native.Nat.{ℕ, ◌<◌}
use native.Mathlib.Omega.{arith}
use borrow.Author.Tests.{ne_eqb}
use Rattle.format.specs.Tables.{inverse_table, local_table, parents_table, children_table}
use Rattle.format.specs.Tables.{Kind, skeleton, buckets, entry, block, bone, string, list}
use Rattle.blocks.specs.Kinds.{kind_code, kind_from}

pub kind_code_pos : (k : Kind) → 0 < kind_code k
kind_code_pos skeleton = omega arith
kind_code_pos buckets = omega arith
kind_code_pos entry = omega arith
kind_code_pos block = omega arith
kind_code_pos bone = omega arith
kind_code_pos string = omega arith
kind_code_pos (list inverse_table) = omega arith
kind_code_pos (list local_table) = omega arith
kind_code_pos (list parents_table) = omega arith
kind_code_pos (list children_table) = omega arith

pub kind_code_lt : (k : Kind) → kind_code k < 16
kind_code_lt skeleton = omega arith
kind_code_lt buckets = omega arith
kind_code_lt entry = omega arith
kind_code_lt block = omega arith
kind_code_lt bone = omega arith
kind_code_lt string = omega arith
kind_code_lt (list inverse_table) = omega arith
kind_code_lt (list local_table) = omega arith
kind_code_lt (list parents_table) = omega arith
kind_code_lt (list children_table) = omega arith

pub kind_from-kind_code : (k : Kind) → kind_from (kind_code k) ≡ k
unfolding kind_from
kind_from-kind_code skeleton = refl
kind_from-kind_code buckets = refl
kind_from-kind_code entry = refl
kind_from-kind_code block = refl
kind_from-kind_code bone = refl
kind_from-kind_code string = refl
kind_from-kind_code (list inverse_table) = refl
kind_from-kind_code (list local_table) = refl
kind_from-kind_code (list parents_table) = refl
kind_from-kind_code (list children_table) = refl

-- a number that is none of the first nine codes
pub kind_from-rest :
    (c : ℕ) → (c ≡ 1 → ⊥) → (c ≡ 2 → ⊥) → (c ≡ 3 → ⊥) → (c ≡ 4 → ⊥) → (c ≡ 5 → ⊥) → (c ≡ 6 → ⊥) → (c ≡ 7 → ⊥) → (c ≡ 8 → ⊥) →
    (c ≡ 9 → ⊥) → kind_from c ≡ list children_table
unfolding kind_from
kind_from-rest c n₁ n₂ n₃ n₄ n₅ n₆ n₇ n₈ n₉ =
    simp (
      ne_eqb c 1 n₁,
      ne_eqb c 2 n₂,
      ne_eqb c 3 n₃,
      ne_eqb c 4 n₄,
      ne_eqb c 5 n₅,
      ne_eqb c 6 n₆,
      ne_eqb c 7 n₇,
      ne_eqb c 8 n₈,
      ne_eqb c 9 n₉,
    )
