-- `check_lists::row_at` meets its contract: a row that lies in the table is one of its rows. Assumes nothing.
use Rattle.check_lists.proofs.Entries.{row-past, row_in}
use Rattle.check_lists.proofs.row_at.Goals as goal

pub returns-then-r-entries : goal.returns-then-r-entries
returns-then-r-entries c = record { answer = row-past c.args.entries.now _ c.if-r-entries.true }

pub returns : goal.returns
returns c = record { answer = row_in _ _ c.if-r-entries.false }
