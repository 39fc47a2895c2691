-- `fields::runs::put_all` meets its contract. Assumes nothing.
use native.Mathlib.Nat.{mul-le-mul_left}
use Rattle.fields.proofs.RunLaws.{bytes-none, bytes-more, put_whole}
use Rattle.fields.proofs.runs.put_all.Goals as goal

pub loop-i-init : goal.loop-i-init
loop-i-init g c = bytes-none g.met.T.Pod.each_number g.T.Pod.SIZE c.args.w.now c.args.d.now

pub loop-i-preserved : goal.loop-i-preserved
loop-i-preserved g c =
    bytes-more g.met.T.Pod.each_number g.T.Pod.SIZE c.args.w.now c.loop-i.invariant c.index-w-i.result c.SIZE.ensures
    c.SIZE-in-loop-i.ensures c.requires c.loop-i-test.true c.index-w-i.is c.store.ensures

pub returns : goal.returns
returns g c = put_whole c.loop-i.invariant (mul-le-mul_left g.T.Pod.SIZE c.loop-i-test.false) c.requires
