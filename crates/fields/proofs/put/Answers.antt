-- `fields::put` meets its contract (docs/FORMAT.md, "Finding bytes"): the bytes where they stand, and else nothing. Assumes nothing.
use Rattle.fields.proofs.Laws.{put_inside, put_outside}
use Rattle.fields.proofs.put.Goals as goal

pub returns-then-not-stands-clause-slice : goal.returns-then-not-stands-clause-slice
returns-then-not-stands-clause-slice g c =
    put_outside g.T.Pod.SIZE c.args.d.now c.args.at c.SIZE.ensures c.stands.ensures.answer (g.T.Pod.number c.args.v)
    c.if-not-stands.true

pub returns-clause-slice : goal.returns-clause-slice
returns-clause-slice g c =
    put_inside g.T.Pod.SIZE c.args.d.now c.args.at c.SIZE.ensures c.stands.ensures.answer (g.T.Pod.number c.args.v)
    c.SIZE-2.ensures c.if-not-stands.false c.store.ensures
