-- The rows are found, and both lists are derived.
use Rattle.std.proofs.Common.{rules, ◌≡◌, length}
use Rattle.format.specs.Rows.{cleared}
use Rattle.derive_children.proofs.IndicesOutcome.{parents_room, each_parent, indices-done}
use Rattle.derive_children.proofs.indices.attempt.Goals as goal

pub put_parents-requires : goal.put_parents-requires
put_parents-requires c =
    let z : c.fill.new.self ≡ cleared (length c.args.parents.now) = search rules in
    parents_room _ _ _ _ _ _ c.in_ok-rows.ensures.answer z

pub invariant_of-bones : goal.invariant_of-bones
invariant_of-bones c =
    let z : c.fill.new.self ≡ cleared (length c.args.parents.now) = search rules in
    record { each = each_parent _ _ _ _ _ _ c.in_ok-rows.ensures.answer z c.put_parents.ensures.rows }

pub returns : goal.returns
returns c =
    let z : c.fill.new.self ≡ cleared (length c.args.parents.now) = search rules in
    let y : c.fill-2.new.self ≡ cleared (length c.args.children.now) = search rules in
    record {
      answer =
          indices-done _ _ _ _ _ _ c.in_ok-rows.ensures.answer z c.put_parents.ensures.rows y
          c.put_children-count.ensures.answer;
    }
