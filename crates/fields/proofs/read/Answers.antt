-- `fields::read` meets its contract (docs/FORMAT.md, "Finding bytes"): the field where it stands, and else 0. Assumes nothing.
use Rattle.fields.proofs.Laws.{read_inside, read_outside}
use Rattle.fields.proofs.read.Goals as goal

pub returns-then-stands : goal.returns-then-stands
returns-then-stands g c =
    record {
      answer =
          read_inside g.T.Pod.SIZE c.args.s.now c.args.at c.SIZE.ensures c.stands.ensures.answer g.T.Pod.value
          c.SIZE-then-stands.ensures c.if-stands.true c.load.ensures;
    }

pub returns : goal.returns
returns g c =
    record {
      answer =
          read_outside g.T.Pod.SIZE c.args.s.now c.args.at c.SIZE.ensures c.stands.ensures.answer g.T.Pod.value c.if-stands.false
          c.ZERO.ensures g.met.T.Pod.no_value;
    }
