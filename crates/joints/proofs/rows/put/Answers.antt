-- `joints::rows::put` meets its contract: the first i words stand. Assumes nothing.
use borrow.Author.Rules.{rules}
use Rattle.fields.proofs.RunLaws.{put-none, put-more, put_all}
use Rattle.joints.proofs.rows.put.Goals as goal

pub loop-i-init : goal.loop-i-init
loop-i-init g c = put-none c.args.row.now c.args.rows.now c.args.at (search rules)

pub loop-i-preserved : goal.loop-i-preserved
loop-i-preserved g c = put-more c.loop-i.invariant (search rules) (search rules)

pub returns : goal.returns
returns g c = put_all c.loop-i.invariant (search rules)
