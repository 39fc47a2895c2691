-- `derive_matrices::matrices::put_matrix` meets its contract. Assumes nothing.
use borrow.Author.Rules.{rules}
use Rattle.fields.proofs.Stores.{written-over}
use Rattle.derive_matrices.proofs.matrices.put_matrix.Goals as goal

pub returns : goal.returns
returns c =
    record { rows = written-over 16 c.args.t.now c.args.at c.args.w (search rules) c.requires c.copy_from_slice.ensures.after }
