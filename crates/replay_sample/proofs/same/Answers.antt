-- `replay_sample::same` meets its contract: the table is no shorter, and each place has the part's number. Assumes nothing.
use Rattle.std.proofs.Common.{◌/◌, ◌<◌, ◌≤◌, ◌∙◌, get_or, length, arith, rules, tests}
use Rattle.std.proofs.lemmas.Iterator.{YieldsList-from_slice}
use Rattle.std.proofs.lemmas.Iterator.Consumers.{YieldsList-from_enumerate}
use Rattle.std.proofs.lemmas.Iterator.Search.{all_from_yields_List}
use Rattle.replay_sample.specs.Parts.{numbers}
use Rattle.replay_sample.proofs.Numbers.{length-numbers}
use Rattle.replay_sample.proofs.Comparing.{same_longer, same_places}
use Rattle.replay_sample.proofs.same.Goals as goal

pub returns-then-part-SIZE : goal.returns-then-part-SIZE
returns-then-part-SIZE g c =
    let size = g.T.Pod.SIZE in
    let wanted = numbers size c.args.part.now in
    let room : length c.args.part.now / size ≤ length c.args.table.now = rw (← c.SIZE.ensures) c.if-part-SIZE.true in
    record {
      answer =
          all_from_yields_List (λ p. g.T.PartialEq.eq p.1 (g.T.Pod.value (get_or wanted p.0 0))) c.all.new.self _ c.all.result
          c.all.ensures.ran
          (YieldsList-from_enumerate (YieldsList-from_slice c.args.table.now (search rules)) (search rules))
          (λ x b q k. search (rules, tests))
          ∙ same_places g.T.PartialEq.eq g.T.Pod.value g.T.Pod.values g.met.T.Pod.each_value c.args.table.now wanted 0
          (omega (arith, room, length-numbers size c.args.part.now));
    }

pub returns-else-part-SIZE : goal.returns-else-part-SIZE
returns-else-part-SIZE g c =
    let size = g.T.Pod.SIZE in
    let wanted = numbers size c.args.part.now in
    let few : length c.args.table.now < length c.args.part.now / size = rw (← c.SIZE.ensures) c.if-part-SIZE.false in
    record {
      answer =
          (search (rules, tests)) ∙
          same_longer g.T.PartialEq.eq g.T.Pod.value g.T.Pod.values g.met.T.Pod.each_value c.args.table.now wanted 0
          (omega (arith, few, length-numbers size c.args.part.now));
    }
