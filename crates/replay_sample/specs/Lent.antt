-- How much of each table a run lends (compare/vectors/README.md). Definitions only.
use Rattle.std.specs.Prelude.{ℕ, ◌-◌, ◌≤◌, min, ◌≡◌, Bool, true, false, List, eqb, length, take, get_or}
use Rattle.replay_sample.specs.Parts.{part_of, numbers}
use Rattle.replay_sample.specs.declared.run.Run.{Run}
use Rattle.replay_sample.specs.declared.run.Run.TheVariants.{Full, Longer, Short}

-- one number or the other, by a test
unfoldable pub either : Bool → ℕ → ℕ → ℕ
either true a b = a
either false a b = b

-- the length that table t of a case must have
abbrev pub length_of : List ℕ → ℕ → ℕ
length_of case t = get_or (numbers 4 (part_of 2 case)) t 0

-- How many words of table t, which has `most`, a run lends: all; or as many as it must have, but in the run of the table's own number
-- one less.
abbrev pub lent_of : List ℕ → Run → ℕ → ℕ → ℕ
lent_of case Longer t most = most
lent_of case Full t most = min (length_of case t - either (eqb 100 t) 1 0) most
lent_of case (Short s) t most = min (length_of case t - either (eqb s t) 1 0) most

-- r is the number n, and stands for the front of a table. A call that is lent the front asks for the last two.
pub record Front {A : Type 0} (n : ℕ) (t : List A) (r : ℕ) : Type 0 where
  pub is : r ≡ n
  pub inside : r ≤ length t
  pub front : r ≡ length (take r t)
