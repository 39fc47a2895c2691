-- `rows::put_bone` meets its contract. Assumes nothing.
use mathlib.Core.Path.{sym}
use Rattle.rows.proofs.Storing.{lacks_row, put-no_row, put-done}
use borrow.Author.Rules.{rules}
use Rattle.rows.proofs.put_bone.Goals as goal

pub returns-then-p-t-clause-rows : goal.returns-then-p-t-clause-rows
returns-then-p-t-clause-rows c = sym (put-no_row c.args.t.now c.args.p _ (lacks_row c.args.t.now c.args.p c.if-p-t.true))

pub returns-clause-rows : goal.returns-clause-rows
returns-clause-rows c =
    put-done c.args.t.now c.args.p _ c.if-p-t.false c.bone_words.ensures.answer (search rules) c.copy_from_slice.ensures.after
