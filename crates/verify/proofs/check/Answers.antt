-- `verify::check` meets its contract: the calls in their order, each place from the next. Assumes nothing.
use Rattle.blocks.specs.Places.{section}
use Rattle.read.specs.Lent.{lists}
use Rattle.tables.specs.Working.{working, lists as working_lists}
use Rattle.verify.proofs.Whole.{check-whole}
use Rattle.verify.proofs.check.Goals as goal

pub returns-clause-checked : goal.returns-clause-checked
returns-clause-checked c =
    let s = c.read-r.ensures.same in
    check-whole (section c.args.system.now c.args.graphics.now)
    (λ j. (c.type_inv.system j).fits, λ j. (c.type_inv.graphics j).fits)
    _ (lists c.args.tables.now) (lists c.read-r.new.tables) (lists c.settle.new.tables) (working_lists c.args.working.now)
    (working c.chains_step-c.new.derived_buckets c.chains_step-c.new.derived_entries c.matrices_step-m.new.derived_inverse
    c.matrices_step-m.new.derived_local c.indices_step-i.new.derived_parents c.indices_step-i.new.derived_children
    c.indices_step-i.new.pending)
    c.read-r.ensures.tables (record {
      bones = s.bones.size;
      buckets = s.buckets.size;
      entries = s.entries.size;
      inverse = s.inverse.size;
      local = s.local.size;
      parents = s.parents.size;
      children = s.children.size;
      pool = s.pool.size;
    }) c.count_parts-k.ensures.answer c.begin-b.result c.chains_step-c.result c.indices_step-i.result
    c.matrices_step-m.result c.settle.result
    c.begin-b.ensures.answer c.chains_step-c.ensures.answer c.indices_step-i.ensures.answer
    c.matrices_step-m.ensures.answer c.settle.ensures.answer c.settle.ensures.tables
    (record {
      buckets = c.chains_step-c.ensures.work.0;
      entries = c.chains_step-c.ensures.work.1;
      inverse = c.matrices_step-m.ensures.work.0;
      local = c.matrices_step-m.ensures.work.1;
      parents = c.indices_step-i.ensures.work.0;
      children = c.indices_step-i.ensures.work.1;
      pending = c.indices_step-i.ensures.work.2;
    })
