-- `fields::runs::copy_each` meets its contract. Assumes nothing.
use mathlib.Core.Path.{refl}
use Rattle.fields.proofs.RunLaws.{put-none, put-next, put_whole}
use Rattle.fields.proofs.runs.copy_each.Goals as goal

pub loop-i-init : goal.loop-i-init
loop-i-init g c = put-none c.args.s.now c.args.t.now 0 c.requires

pub loop-i-preserved : goal.loop-i-preserved
loop-i-preserved g c = put-next c.loop-i.invariant c.index-s-i.result c.loop-i-test.true c.index-s-i.is

pub returns : goal.returns
returns g c = put_whole c.loop-i.invariant c.loop-i-test.false refl
