-- `blocks::pool::cached_at` meets its contract: nothing found, the kind asked for, or another. Assumes nothing.
use mathlib.Core.Path.{sym, ◌∙◌}
use Rattle.blocks.specs.Kinds.{meant_kind}
use Rattle.blocks.proofs.Table.{cached_nothing, cached_here, cached_other}
use Rattle.blocks.proofs.pool.cached_at.Goals as goal

pub returns-in-None : goal.returns-in-None
returns-in-None c =
    record {
      answer =
          record {
            at = λ va p. cached_nothing c.args.pool.now (meant_kind c.args.kind) va (c.row_at.ensures.at va p) c.in-None.is;
          };
    }

pub returns-in-Some : goal.returns-in-Some
returns-in-Some c =
    record {
      answer =
          record {
            at =
                λ va p.
                cached_here c.args.pool.now (meant_kind c.args.kind) va (c.row_at.ensures.at va p) _
                c.in-Some.is (sym c.same.ensures.answer ∙ c.if-same.true);
          };
    }

pub returns-in-Some-2 : goal.returns-in-Some-2
returns-in-Some-2 c =
    record {
      answer =
          record {
            at =
                λ va p.
                cached_other c.args.pool.now (meant_kind c.args.kind) va (c.row_at.ensures.at va p) _
                c.in-Some.is (sym c.same.ensures.answer ∙ c.if-same.false);
          };
    }
