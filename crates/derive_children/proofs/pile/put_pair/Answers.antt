-- `derive_children::pile::put_pair` meets its contract. Assumes nothing.
use native.Mathlib.Omega.{arith}
use Rattle.derive_children.proofs.Columns.{pair_put}
use Rattle.derive_children.proofs.pile.put_pair.Goals as goal

pub returns : goal.returns
returns c =
    record {
      rows =
          pair_put _ _ _ c.args.at _ (omega (arith, c.requires.0, c.args.bones.each)) c.index_at.ensures.answer;
    }
