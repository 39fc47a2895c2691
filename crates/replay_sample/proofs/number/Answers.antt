-- A number of a part is the field at its place.
use Rattle.std.proofs.Common.{◌*◌, ◌/◌, ◌<◌, ◌≤◌, ap, ◌∙◌, length}
use Rattle.format.specs.Field.{field_at}
use Rattle.replay_sample.proofs.Numbers.{number-inside, number_behind}
use Rattle.replay_sample.proofs.number.Goals as goal

pub returns-then-place-part : goal.returns-then-place-part
returns-then-place-part g c =
    let size = g.T.Pod.SIZE in
    let e : c.args.place < length c.args.part.now / size = rw (← c.SIZE.ensures) c.if-place-part.true in
    let at = ap (λ n. field_at size c.args.part.now (n * c.args.place)) c.SIZE-then-place-part.ensures in
    record {
      answer =
          c.read.ensures.answer
          ∙ ap g.T.Pod.value (number-inside size c.args.part.now c.args.place g.met.T.Pod.some_bytes e at);
    }

pub returns-else-place-part : goal.returns-else-place-part
returns-else-place-part g c =
    let size = g.T.Pod.SIZE in
    let e : length c.args.part.now / size ≤ c.args.place = rw (← c.SIZE.ensures) c.if-place-part.false in
    record {
      answer =
          c.ZERO.ensures ∙ g.met.T.Pod.no_value ∙ ap g.T.Pod.value (number_behind size c.args.part.now c.args.place e);
    }
