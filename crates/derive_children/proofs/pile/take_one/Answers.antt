-- `derive_children::pile::take_one` meets its contract. Assumes nothing.
use native.Mathlib.Omega.{arith}
use Rattle.derive_children.proofs.Taking.{front-inside, front_known, took_none, took_one}
use Rattle.derive_children.proofs.pile.take_one.Goals as goal

pub returns-then-top-eq0 : goal.returns-then-top-eq0
returns-then-top-eq0 c =
    record {
      answer =
          took_none _ _ _ _ _ _ _ c.requires.0 _ c.requires.1 c.if-top-eq0.true c.put_pair.ensures.rows;
    }

pub put_pair-requires-2 : goal.put_pair-requires-2
put_pair-requires-2 c =
    let h = front-inside _ _ _ c.requires.0.stacked c.if-top-eq0.false in
    (h.0, c.requires.2)

pub bounds-t-n-2 : goal.bounds-t-n-2
bounds-t-n-2 c =
    let k = front_known c.requires.0 c.if-top-eq0.false in
    omega (arith, c.well_formed, c.push-left.auto.t)

pub returns : goal.returns
returns c =
    record {
      answer =
          took_one _ _ _ _ _ _ _ c.requires.0 c.if-top-eq0.false _ _ c.push-left.auto.t _
          c.push-left.ensures.answer c.put_pair-2.ensures.rows;
    }
