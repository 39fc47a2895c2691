-- `fields::runs::load_each` meets its contract. Assumes nothing.
use mathlib.Core.Path.{refl}
use lib.ListN.{length}
use Rattle.fields.proofs.RunLaws.{values-none, values-more, put_whole}
use Rattle.fields.proofs.runs.load_each.Goals as goal

pub loop-i-init : goal.loop-i-init
loop-i-init g c = values-none g.met.T.Pod.each_value g.T.Pod.SIZE (length c.args.t.now) c.args.s.now c.args.t.now refl

pub loop-i-preserved : goal.loop-i-preserved
loop-i-preserved g c =
    values-more g.met.T.Pod.each_value g.T.Pod.SIZE (length c.args.t.now) c.args.s.now c.loop-i.invariant c.SIZE.ensures
    c.SIZE-in-loop-i.ensures c.loop-i-test.true c.load.ensures

pub returns : goal.returns
returns g c = put_whole c.loop-i.invariant c.loop-i-test.false refl
