-- With no NaN by fours and a rest; else one by one.
use Rattle.format.specs.Matrices.{inverses}
use Rattle.derive_matrices.proofs.Placing.{continues_on, continues_all}
use Rattle.derive_matrices.proofs.matrices.put_matrices.Goals as goal

pub returns-then-plain_rows : goal.returns-then-plain_rows
unfolding inverses
returns-then-plain_rows c =
    record {
      rows =
          record {
            inverse = continues_all (continues_on c.put_fours-from.ensures.rows c.put_rest.ensures.rows);
            local = c.put_locals.ensures.rows;
          };
    }

pub returns-else-plain_rows : goal.returns-else-plain_rows
unfolding inverses
returns-else-plain_rows c =
    record {
      rows =
          record {
            inverse = continues_all c.put_rest-else-plain_rows.ensures.rows;
            local = c.put_locals-else-plain_rows.ensures.rows;
          };
    }
