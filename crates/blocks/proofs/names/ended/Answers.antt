-- `blocks::names::ended` meets its contract: the name ends at the first zero byte. Assumes nothing.
use Rattle.std.proofs.Common.{◌≡◌, ℕ, ◌≤◌, List, [], ◌∷◌, cond, length, eqb, ltb, not, Some, None, ◌∙◌, rules, arith, tests}
use Rattle.std.specs.List.{position_or_len}
use Rattle.std.specs.Option.{unwrap_or}
use Rattle.std.proofs.lemmas.Grind.{common_steps}
use Rattle.std.proofs.lemmas.List.Sums.{prefix_len-le-length}
use Rattle.std.proofs.lemmas.Iterator.{YieldsList-from_slice}
use Rattle.std.proofs.lemmas.Iterator.Search.{position_from_yields_List}
use Rattle.format.specs.Section.{until_zero}
use Rattle.blocks.proofs.names.ended.Goals as goal

first_zero : (bs : List ℕ) → position_or_len (λ b. eqb b 0) bs ≡ length (until_zero bs)
unfolding until_zero
first_zero [] = grind arith
first_zero (b ∷ bs) = grind (arith, common_steps, first_zero bs)

unwrapped : (p n : ℕ) → p ≤ n → unwrap_or (cond (ltb p n) (Some p) None) n ≡ p
unwrapped p n h = grind (arith, common_steps)

pub returns : goal.returns
returns c =
    let bs = c.args.bytes.now in
    let first = position_from_yields_List (λ b. eqb b 0) _ _ c.position.result c.position.ensures.ran (YieldsList-from_slice bs cc) (λ x b q k. search (rules, tests)) in
    c.unwrap_or.ensures ∙ rw first (unwrapped _ _ (prefix_len-le-length (λ b. not (eqb b 0)) bs) ∙ first_zero bs)
